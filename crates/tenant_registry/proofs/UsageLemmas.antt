-- What a machine tells of its use is that of the state that it holds.
use Rattle.std.specs.Prelude.{◌&&◌, nat_lt, ◌/◌, pos, if◌then◌else◌}
use Rattle.std.proofs.Common.{◌≡◌, ◌∙◌, ◌*◌, ap, subst, refl, ℕ, Bool, true, false, [], ◌∷◌, length, Option, Some, None, arith}
use Rattle.std.specs.Prelude.{Result, Ok, Err, IfOk}
use Rattle.std.specs.declared.alloc.AllocError.{AllocError}
use Rattle.std.proofs.lemmas.Bool.{le-ltb}
use Rattle.std.proofs.Math.Nat.{mul-div_cancel_left}
use Rattle.etcd_types.specs.Limits.{cell_bytes}
use Rattle.etcd_types.specs.Steps.{may_add}
use Rattle.etcd_types.specs.declared.step.Step.{Step}
use Rattle.etcd_types.specs.declared.step.Step.TheVariants.{Status}
use Rattle.etcd_types.specs.declared.refusal.Refusal.{Refusal}
use Rattle.etcd_types.specs.declared.refusal.Refusal.TheVariants.{Compacted, Future, NoSpace}
use Rattle.etcd_types.specs.declared.reply.Reply.TheVariants.{Refused}
use Rattle.etcd_model.specs.declared.state.History.{History}
use Rattle.etcd_model.specs.declared.state.State.{State}
use Rattle.etcd_model.specs.Held.{Holds, IsState}
use Rattle.etcd_model.specs.History.{current, history_rows}
use Rattle.etcd_model.specs.Interval.{is_in}
use Rattle.etcd_model.specs.Machine.{history, machine}
use Rattle.etcd_model.specs.Operations.{first_refusal}
use Rattle.etcd_model.specs.Stepping.{adds, decided, early, look_up, outcome, unless_alarmed, within_quota}
use Rattle.etcd_model.specs.Tenant.{Outcome, reads, stays, used}
use Rattle.tenant_machine.specs.Tenants.{MachineState, tenant}
use Rattle.tenant_audit.specs.declared.audit.Opening.{Opening}
use Rattle.tenant_audit.specs.Audits.{Log, end_of, state_after_acts}
use Rattle.etcd_model.specs.Pool.{StockState}
use Rattle.tenant_registry.specs.Keeping.{Content, IsKept}
use Rattle.tenant_registry.specs.declared.usage.Usage.{Usage}
use Rattle.tenant_registry.specs.Using.{IsUsageIn, TakesOver, UsesOf, count_of_keys, raised_alarms, with_told}
use Rattle.tenant_registry.proofs.KeptLemmas.{leads}
use Rattle.tenant_registry.proofs.RevisionLemmas.{no_early}

-- ---- a read that nothing refuses is answered what it reads

not_both : {X : Type 0} (a : Bool) (x y : X) → (if a && false then x else y) ≡ y
not_both true x y = refl
not_both false x y = refl

answered : (S : State History) (step : Step) → early history S step ≡ None → look_up history S step ≡ None → may_add step ≡ false → adds (reads history S) step ≡ false → (machine S step).reply ≡ (outcome history S step).reply
answered S step first found keeps reads_only =
    ap (λ (o : Outcome History). o.reply) (
    ap (λ (e : Option Refusal). unless_alarmed history S step (decided history S step (first_refusal (e ∷ look_up history S step ∷ []))) e) first
    ∙ ap (λ b. if S.alarm && b then stays history S (Refused NoSpace) else within_quota history S step (decided history S step (first_refusal (None ∷ look_up history S step ∷ []))) (look_up history S step)) keeps
    ∙ not_both S.alarm _ _
    ∙ ap (λ (l : Option Refusal). within_quota history S step (decided history S step (first_refusal (None ∷ l ∷ []))) l) found
    ∙ ap (λ b. if b && nat_lt S.quota (used history (outcome history S step).state) then record { state = record S { alarm = true }; reply = Refused NoSpace } else outcome history S step) reads_only)

-- ---- what each of the three replies tells

readable : (S : State History) → IsState S → look_up history S count_of_keys ≡ None
readable S sound =
    let now = current S.store in
    ap (λ b. if b then Some Compacted else if nat_lt now now then Some Future else None) (le-ltb now S.store.compacted sound.history.compacted)
    ∙ ap (λ b. if b then Some Future else None) (le-ltb now now (omega arith))

abbrev of_status : State History → Usage → Usage
of_status S u = record u { revision = pos (current S.store); quota = cell_bytes * S.quota / cell_bytes; cells = cell_bytes * used history S / cell_bytes }

abbrev of_keys : State History → Usage → Usage
of_keys S u = record u { keys = length (history_rows S.store (is_in (0 ∷ []) (0 ∷ [])) (current S.store)) }

abbrev of_alarm : State History → Usage → Usage
of_alarm S u = record u { no_space = S.alarm }

told_status : (S : State History) (u : Usage) → with_told u (machine S Status).reply ≡ of_status S u
told_status S u = ap (with_told u) (answered S Status (no_early _ _) refl refl refl)

told_keys : (S : State History) (u : Usage) → IsState S → with_told u (machine S count_of_keys).reply ≡ of_keys S u
told_keys S u sound = ap (with_told u) (answered S count_of_keys (no_early _ _) (readable S sound) refl refl)

told_alarm : (S : State History) (u : Usage) → with_told u (machine S raised_alarms).reply ≡ of_alarm S u
told_alarm S u = ap (with_told u) (answered S raised_alarms (no_early _ _) refl refl refl)

-- ---- all together

in_cells : (n : ℕ) → cell_bytes * n / cell_bytes ≡ n
in_cells n = mul-div_cancel_left n (omega arith)

pub uses_told : (opening : Opening) (m : MachineState) (a b c d : Usage) → TakesOver m Status a b → TakesOver m count_of_keys b c → TakesOver m raised_alarms c d → a.cluster ≡ opening.cluster → a.first ≡ opening.first → a.compacted ≡ m.store.kept.compacted → a.leases ≡ length m.leases.leases → (S : State History) → Holds S (tenant m) → UsesOf opening S d
uses_told opening m a b c d status keys alarm cluster first old count S holds =
    let same : d ≡ of_alarm S (of_keys S (of_status S a)) =
    alarm S holds ∙ told_alarm S c
    ∙ ap (of_alarm S) (keys S holds ∙ told_keys S b holds.sound
    ∙ ap (of_keys S) (status S holds ∙ told_status S a))
    in record {
      cluster = ap (λ u. u.cluster) same ∙ cluster;
      first = ap (λ u. u.first) same ∙ first;
      quota = ap (λ u. u.quota) same ∙ in_cells S.quota;
      cells = ap (λ u. u.cells) same ∙ in_cells (used history S);
      revision = ap (λ u. u.revision) same;
      compacted = ap (λ u. u.compacted) same ∙ old ∙ ap (λ t. t.store.compacted) holds.same;
      keys = ap (λ u. u.keys) same;
      leases = ap (λ u. u.leases) same ∙ count ∙ ap (λ t. length t.leases) holds.same;
      no_space = ap (λ u. u.no_space) same;
    }

-- what lies under a lock tells it of the state to which its audit leads
pub usage_told : (old : Content) (m : MachineState) (a : Log) (left : StockState) (o : Opening) (told : Result Usage AllocError) → record { machine = m; audit = a; left = left } ≡ old → IsKept m a left → o ≡ a.opening
    → IfOk told (λ usage. (S : State History) → Holds S (tenant m) → UsesOf o S usage) → IfOk told (λ usage. IsUsageIn old.audit usage)
usage_told old m a left o (Ok usage) view kept same uses =
    let S = state_after_acts (end_of a) kept.later in
    subst (λ (k : Content). IsUsageIn k.audit usage) view (record {
      state = S;
      leads = leads m a left kept;
      uses = subst (λ (x : Opening). UsesOf x S usage) same (uses S kept.holds);
    })
usage_told old m a left o (Err e) view kept same uses = uses
