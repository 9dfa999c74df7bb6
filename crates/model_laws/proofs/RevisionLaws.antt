-- The revisions and the live keys together stay within a bound.
use Rattle.std.proofs.Common.{◌≡◌, ℕ, ◌+◌, ◌<◌, ◌≤◌, List, [], ◌∷◌, ◌++◌, length, refl, ap, ◌∙◌, sym, arith, subst, map}
use Rattle.std.specs.Prelude.{ℤ, Bool, true, false, ◌&&◌, fold, Option, Some, None, max, min, nat_le, if◌then◌else◌}
use Rattle.std.specs.List.{list_any}
use Rattle.std.proofs.lemmas.Bool.{true≢false, false≢true, or_parts}
use Rattle.std.proofs.lemmas.Bool.Decides.{nat_tests}
use Rattle.std.proofs.lemmas.List.{append-nil}
use Rattle.std.proofs.lemmas.List.Folds.{list_any-append}
use Rattle.etcd_types.specs.declared.txn.TxnReq.{TxnReq}
use Rattle.etcd_types.specs.declared.txn.Op.{Op}
use Rattle.etcd_types.specs.declared.txn.Op.TheVariants.{Range as RangeOp, Put as PutOp, Delete as DeleteOp, Nested}
use Rattle.etcd_types.specs.declared.step.Step.{Step}
use Rattle.etcd_types.specs.declared.step.Step.TheVariants.{Put, Delete, Txn, Compact, Grant, Revoke, KeepAlive, Tick}
use Rattle.etcd_types.specs.Limits.{last_moment, last_revision}
use Rattle.etcd_types.specs.Steps.{writes, writes_op}
use Rattle.etcd_model.specs.declared.state.Lease.{Lease}
use Rattle.etcd_model.specs.declared.state.History.{History}
use Rattle.etcd_model.specs.declared.state.Change.{Change}
use Rattle.etcd_model.specs.declared.state.Change.TheVariants.{Delete as Del}
use Rattle.etcd_model.specs.declared.state.State.{State}
use Rattle.etcd_model.specs.History.{current, history_rows, history_after}
use Rattle.etcd_model.specs.Interval.{every_key}
use Rattle.etcd_model.specs.Reads.{Reads, Look}
use Rattle.etcd_model.specs.Compares.{all_hold}
use Rattle.etcd_model.specs.Operations.{branch, pending_after}
use Rattle.etcd_model.specs.Tenant.{reads, used}
use Rattle.etcd_model.specs.Leases.{lease_at, attached, finish, run_out}
use Rattle.etcd_model.specs.Stepping.{early, outcome, pending, kept_alive}
use Rattle.etcd_model.specs.Machine as machine
use Rattle.etcd_model.specs.Changes as changes
use Rattle.etcd_model.specs.Store as store
use Rattle.etcd_model.specs.Held.{keep, IsHistory, HasLeases}
use Rattle.etcd_model.proofs.HistoryLaws.{current-after}
use Rattle.etcd_model.proofs.GrowthLaws.{is_tick, current-machine}
use Rattle.model_laws.specs.Runs.{FitsRevisions}
use Rattle.model_laws.proofs.HeldLaws.{keep_after, rows_kept_history, after_early, none_used_up, after_allowed, after_machine}
use Rattle.model_laws.proofs.SpaceLaws.{a_cell_each, keep_is_store, finish_takes_keys}
use Rattle.model_laws.proofs.RunLaws.{quiet_outcome}
use Rattle.model_laws.proofs.QuotaLaws.{finish_is_history, look_kept, step_within_quota}

abbrev live_keys : History → ℕ
live_keys H = length (history_rows H every_key (current H))

-- ---- each live key has room for its delete

keys_used : (S : State History) → live_keys S.store ≤ used machine.history S
keys_used S = omega (arith, a_cell_each (history_rows S.store every_key (current S.store)))

-- ---- the end of leases

keys_kept : (H : History) → IsHistory H → length (changes.rows every_key (keep H).current (keep H).changes) ≡ live_keys H
keys_kept H is = ap length (rows_kept_history H every_key (current H) is.compacted)

current_after : (H : History) (cs : List Change) → current (history_after H cs) ≤ current H + length cs
current_after H [] = omega arith
current_after H (c ∷ cs) = omega (arith, current-after H c cs)

map_length : (ids : List (List ℕ)) → length (map Del ids) ≡ length ids
map_length [] = refl
map_length (k ∷ ks) = omega (arith, map_length ks)

finish_fits : (bound : ℕ) (S : State History) (id : ℤ) → IsHistory S.store → FitsRevisions bound S → FitsRevisions bound (finish machine.history S id)
finish_fits bound S id is fits =
    let ids = attached (reads machine.history S) id in
    let H = history_after S.store (map Del ids) in
    let kept_ids = attached (store.reads_of (keep S.store)) id in
    let same : kept_ids ≡ ids = ap (λ (l : Look). attached (l []) id) (look_kept S.store is) in
    let taken = finish_takes_keys (keep S.store) id (keep_is_store S.store is) in
    let ended : store.after (keep S.store) (map Del kept_ids) ≡ keep H = ap (λ ks. store.after (keep S.store) (map Del ks)) same ∙ keep_after S.store (map Del ids) is.compacted in
    omega (
      arith,
      taken,
      ap (λ (s : store.Store). length (changes.rows every_key s.current s.changes)) ended,
      ap length same,
      keys_kept S.store is,
      keys_kept H (finish_is_history S id is),
      current_after S.store (map Del ids),
      map_length ids,
      fits,
    )

ends_fit : (bound : ℕ) (ls : List Lease) (S : State History) → IsHistory S.store → FitsRevisions bound S → FitsRevisions bound (fold (λ T l. finish machine.history T l.id) S ls)
ends_fit bound [] S is fits = fits
ends_fit bound (l ∷ ls) S is fits = ends_fit bound ls (finish machine.history S l.id) (finish_is_history S l.id is) (finish_fits bound S l.id is fits)

-- ---- a step with no put or delete

-- operations that write nothing leave what is pending
pub nothing_pending : (look : Look) (cs : List Change) (ops : List Op) → list_any writes_op ops ≡ false → pending_after look cs ops ≡ cs
nothing_pending look cs [] h = refl
nothing_pending look cs (RangeOp q ∷ ops) h = nothing_pending look (cs ++ []) ops h ∙ append-nil cs
nothing_pending look cs (PutOp p ∷ ops) h = absurd (true≢false h)
nothing_pending look cs (DeleteOp d ∷ ops) h = absurd (true≢false h)
nothing_pending look cs (Nested ∷ ops) h = nothing_pending look (cs ++ []) ops h ∙ append-nil cs

branch_writes_not : (R : Reads) (t : TxnReq) → list_any writes_op (t.success ++ t.failure) ≡ false → list_any writes_op (branch R t) ≡ false
branch_writes_not R t h =
    let parts = or_parts (list_any writes_op t.success) (list_any writes_op t.failure) (sym (list_any-append writes_op t.success t.failure) ∙ h) in
    elim (all_hold R t.compare) as (λ b. list_any writes_op (if b then t.success else t.failure) ≡ false) [ true ↦ parts.0 | false ↦ parts.1 ]

alive_fits : (bound : ℕ) (S : State History) (id : ℤ) (o : Option Lease) → FitsRevisions bound S → FitsRevisions bound (kept_alive machine.history S id o).state
alive_fits bound S id None fits = fits
alive_fits bound S id (Some l) fits = fits

unwritten_fits : (bound : ℕ) (S : State History) (step : Step) → IsHistory S.store → FitsRevisions bound S → writes step ≡ false → FitsRevisions bound (outcome machine.history S step).state
unwritten_fits bound S (Put p) is fits h = absurd (true≢false h)
unwritten_fits bound S (Delete d) is fits h = absurd (true≢false h)
unwritten_fits bound S (Txn t) is fits h =
    let ops = branch (reads machine.history S) t in
    let none : pending machine.history S ops ≡ [] = nothing_pending (machine.history.look S.store) [] ops (branch_writes_not (reads machine.history S) t h) in
    subst (λ (cs : List Change). current (history_after S.store cs) + live_keys (history_after S.store cs) ≤ last_revision + bound) (sym none) fits
unwritten_fits bound S (Compact r) is fits h = fits
unwritten_fits bound S (Grant g) is fits h = fits
unwritten_fits bound S (Revoke id) is fits h = finish_fits bound S id is fits
unwritten_fits bound S (KeepAlive id) is fits h = alive_fits bound S id (lease_at S.leases id) fits
unwritten_fits bound S (Tick m) is fits h = let later = record S { moment = max S.moment (min m last_moment) } in ends_fit bound (run_out later.moment later.leases) later is fits
unwritten_fits bound S step is fits h = quiet_outcome (FitsRevisions bound) S fits (λ i w. fits) (λ on. fits) step refl

-- ---- every step

no_tick : (step : Step) → writes step ≡ true → is_tick step ≡ false
no_tick (Tick m) h = absurd (false≢true h)
no_tick step h = refl

-- at the last revision nothing is written
none_at_last : (S : State History) (step : Step) → early machine.history S step ≡ None → nat_le last_revision (current S.store) ≡ true → writes step ≡ true → ⊥
none_at_last S step e last w = true≢false (sym (ap (λ b. b && writes step) last ∙ w) ∙ (none_used_up S step e).0)

by_revision : (S : State History) (step : Step) (bound : ℕ) → IsHistory S.store → HasLeases S → S.quota ≤ bound → used machine.history S ≤ bound → FitsRevisions bound S → writes step ≡ true
    → (b : Bool) → nat_le last_revision (current S.store) ≡ b → FitsRevisions bound (machine.machine S step).state
by_revision S step bound is has quota space fits w true last =
    after_machine (FitsRevisions bound) S step fits fits (after_early (FitsRevisions bound) S step fits (λ e l. absurd (none_at_last S step e last w)))
by_revision S step bound is has quota space fits w false last =
    let T = (machine.machine S step).state in
    let low : current S.store < last_revision = below last_revision (current S.store) last in
    omega (arith, low, current-machine S step (no_tick step w), keys_used T, step_within_quota S step is has, quota, space)
  where
    below : (a b : ℕ) → nat_le a b ≡ false → b < a
    below a b e = grind (arith, nat_tests)

by_writes : (S : State History) (step : Step) (bound : ℕ) → IsHistory S.store → HasLeases S → S.quota ≤ bound → used machine.history S ≤ bound → FitsRevisions bound S
    → (b : Bool) → writes step ≡ b → FitsRevisions bound (machine.machine S step).state
by_writes S step bound is has quota space fits true w = by_revision S step bound is has quota space fits w (nat_le last_revision (current S.store)) refl
by_writes S step bound is has quota space fits false w = after_machine (FitsRevisions bound) S step fits fits (after_allowed (FitsRevisions bound) S step fits (λ f e. unwritten_fits bound S step is fits w))

pub step_fits_revisions : (S : State History) (step : Step) (bound : ℕ) → IsHistory S.store → HasLeases S → S.quota ≤ bound → used machine.history S ≤ bound → FitsRevisions bound S → FitsRevisions bound (machine.machine S step).state
step_fits_revisions S step bound is has quota space fits = by_writes S step bound is has quota space fits (writes step) refl
