-- What is planned for a watch is what the machine does with it.
use Rattle.std.proofs.Common.{◌≡◌, ◌∙◌, ℕ, refl, ap, sym, subst}
use Rattle.std.specs.Prelude.{Some, None, is_none, is_some, not, position, pos, slice_set}
use Rattle.etcd_types.specs.declared.step.Step.TheVariants.{Take, Watch}
use Rattle.etcd_types.specs.declared.watch.WatchReq.{WatchReq}
use Rattle.etcd_types.specs.declared.refusal.Refusal.{Refusal}
use Rattle.etcd_types.specs.declared.refusal.Refusal.TheVariants.{TooManyWatches}
use Rattle.etcd_types.specs.declared.reply.Header.{Header}
use Rattle.etcd_types.specs.declared.reply.Reply.TheVariants.{Refused}
use Rattle.etcd_model.specs.declared.state.Watch.{Watch as WatchOf}
use Rattle.etcd_model.specs.Fields.{refused_if}
use Rattle.etcd_model.specs.Stepping.{look_up}
use Rattle.etcd_model.specs.Store.{kept_store}
use Rattle.etcd_model.specs.Watches.{created, watch_of}
use Rattle.watch_sync.specs.Slots.{IsTenant, Opening, PlansTake, watches}
use Rattle.watch_sync.specs.declared.planned.PlannedTake.{PlannedTake}
use Rattle.tenant_machine.specs.Deciding.{Does, header_at, opened, past_early}
use Rattle.tenant_machine.specs.Tenants.{MachineState, tenant}
use Rattle.tenant_machine.specs.Plans.{Plan, with_slots}
use Rattle.tenant_machine.specs.declared.planned.Effect.TheVariants.{Nothing, Take as TakeEffect, Watch as WatchEffect}
use Rattle.tenant_machine.proofs.DecidingOps.{does_as}
use Rattle.tenant_machine.proofs.EarlyRefusals.{done_past_gate, refused_past_gate}

-- ---- a watch that is opened

full : (m : MachineState) (q : WatchReq) → position is_none (watches m.watchers) ≡ None → look_up kept_store (tenant m) (Watch q) ≡ Some TooManyWatches
full m q none = ap (λ o. refused_if (not (is_some o)) TooManyWatches) none

pub watch_refused : (m : MachineState) (q : WatchReq) (r : Refusal) (p : Plan) → (position is_none (watches m.watchers) ≡ None) → (r ≡ TooManyWatches)
    → p ≡ record { effect = Nothing; reply = Refused r } → Does m p (past_early (tenant m) (Watch q))
watch_refused m q r p none is planned =
    subst (Does m p) (sym (refused_past_gate (tenant m) (Watch q) r (full m q none ∙ ap Some (sym is)))) (does_as m p _ _ planned (record { reply = refl; state = refl }))

pub watch_does : (m : MachineState) (q : WatchReq) (new : Opening) (p : Plan) → position is_none (watches m.watchers) ≡ Some new.slot → new.watch.watch ≡ watch_of m.store.kept.current m.moment q
    → p ≡ record { effect = WatchEffect new; reply = opened m q.watch_id new.slot } → Does m p (past_early (tenant m) (Watch q))
watch_does m q new p free is planned =
    let t = tenant m in
    let none : look_up kept_store t (Watch q) ≡ None = ap (λ o. refused_if (not (is_some o)) TooManyWatches) free in
    let done : past_early t (Watch q) ≡ created kept_store t q (Some new.slot) = done_past_gate t (Watch q) none ∙ ap (created kept_store t q) free in
    subst (Does m p) (sym done) (does_as m p _ _ planned (record { reply = refl; state = ap (λ (w : WatchOf). with_slots m (slice_set (watches m.watchers) new.slot (Some w))) is }))

-- ---- a take

pub take_does : (m : MachineState) (slot : ℕ) (h : Header) (planned : PlannedTake) (p : Plan) → h ≡ header_at m (pos m.store.kept.current) → PlansTake m.watchers m.store h m.moment slot planned
    → p ≡ record { effect = TakeEffect planned.taken; reply = planned.reply } → Does m p (past_early (tenant m) (Take slot))
take_does m slot h planned p header plans is =
    let here : IsTenant (tenant m) m.store m.watchers h m.moment = record { store = refl; slots = refl; header = sym header; moment = refl } in
    does_as m p _ _ is (record { reply = plans.reply (tenant m) here; state = sym (plans.state (tenant m) here) })
