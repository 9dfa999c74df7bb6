-- What a plan promises, whatever state is held.
use Rattle.std.proofs.Common.{◌≡◌, false, ◌∙◌, subst, sym}
use Rattle.std.specs.Prelude.{ℕ, None, replicate, Result, Ok, Err, IfOk}
use Rattle.etcd_types.specs.declared.step.Step.{Step}
use Rattle.etcd_types.specs.declared.reply.Reply.{Reply}
use Rattle.etcd_types.specs.Limits.{watch_slots}
use Rattle.etcd_model.specs.declared.state.History.{History}
use Rattle.etcd_model.specs.Stepping.{machine}
use Rattle.etcd_model.specs.Machine as full
use Rattle.etcd_model.specs.Machine.{opening}
use Rattle.etcd_model.specs.Store.{kept_store}
use Rattle.etcd_model.specs.Held.{Holds, empty_store, over}
use Rattle.model_laws.proofs.HoldsLaws.{held_after_step, opening_is_held}
use Rattle.lease_book.specs.Book.{empty_book}
use Rattle.tenant_machine.specs.Tenants.{MachineState, tenant}
use Rattle.tenant_machine.specs.Plans.{IsAfter, Plan, Plans, Steps}
use Rattle.tenant_machine.specs.Deciding.{Does}
use Rattle.watch_sync.specs.Slots.{watches}
use Rattle.model_laws.proofs.Spoken.{machine_speaks}

-- a plan that does what is to come of a step is one of the step
pub plans : (m : MachineState) (step : Step) (p : Plan) → Does m p (machine kept_store (tenant m) step) → Plans m step p
plans m step p does = record {
  spoken = λ refused. machine_speaks kept_store (tenant m) step (sym does.reply ∙ refused);
  reply = λ S held. does.reply ∙ (held_after_step S (tenant m) step held).1;
  state = λ S n held after. subst (Holds (full.machine S step).state) (sym (after ∙ does.state)) (held_after_step S (tenant m) step held).0;
}

pub plans_where : {E : Type 0} (m : MachineState) (step : Step) (result : Result Plan E) → IfOk result (λ p. Does m p (machine kept_store (tenant m) step)) → IfOk result (λ p. Plans m step p)
plans_where m step (Ok p) does = plans m step p does
plans_where m step (Err e) does = tt

-- a step that was planned and committed is one of the machine
pub stepped : (m n : MachineState) (step : Step) (p : Plan) (reply : Reply) → Plans m step p → IsAfter m p n → reply ≡ p.reply → Steps m step reply n
stepped m n step p reply plans after same = record {
  told = λ S held said. same ∙ plans.reply S held;
  state = λ S held said. plans.state S n held after;
  memory = λ refused. absurd (plans.spoken (sym same ∙ refused));
}

-- a machine over an empty store holds the opening
pub opened : (m : MachineState) (cluster quota first : ℕ) → m.cluster ≡ cluster → m.quota ≡ quota → m.store.kept ≡ empty_store first → (room : ℕ) → m.leases ≡ empty_book room → m.moment ≡ 0 → m.alarm ≡ false → watches m.watchers ≡ replicate watch_slots None → Holds (opening cluster quota first) (tenant m)
opened m cluster quota first one cells kept room book at off free =
    let held = opening_is_held cluster quota first in
    let same : tenant m ≡ over (λ (H : History). empty_store first) (opening cluster quota first) = λ i. record { cluster = one i; quota = cells i; store = kept i; leases = (book i).leases; counter = (book i).counter; moment = at i; alarm = off i; slots = free i } in
    record { sound = held.sound; same = same ∙ held.same }
