-- What is kept of a history answers as the history does, and follows it.
use Rattle.std.proofs.Common.{◌≡◌, ℕ, ◌+◌, ◌<◌, ◌≤◌, List, [], ◌∷◌, ◌++◌, refl, ap, ◌∙◌, sym, arith, subst, map, inl, inr}
use Rattle.std.proofs.Math.Path.{fun_ext}
use Rattle.std.specs.Prelude.{Bool, true, false, cond, ◌&&◌, ◌||◌, fold, filter, sum_by, Option, Some, None, max, min, nat_le, nat_lt, if◌then◌else◌}
use Rattle.std.specs.List.{AllByRecursion}
use Rattle.std.proofs.lemmas.Bool.{cases_Bool, lt-leb, cases_lt, or_parts}
use Rattle.std.proofs.lemmas.Bool.Decides.{nat_tests}
use Rattle.std.proofs.lemmas.List.Sums.{sum_by-cons}
use Rattle.etcd_types.specs.declared.step.Step.{Step}
use Rattle.etcd_types.specs.declared.step.Step.TheVariants.{Put, Delete, Txn, Compact, Revoke, Tick}
use Rattle.etcd_types.specs.declared.key_value.KeyValue.{KeyValue}
use Rattle.etcd_types.specs.declared.txn.Op.TheVariants.{Put as PutOp, Delete as DeleteOp}
use Rattle.etcd_types.specs.declared.refusal.Refusal.{Refusal}
use Rattle.etcd_types.specs.declared.refusal.Refusal.TheVariants.{UsedUp}
use Rattle.etcd_types.specs.Limits.{last_moment, last_revision, last_lease_id}
use Rattle.etcd_types.specs.Steps.{chooses_id, writes}
use Rattle.etcd_model.specs.declared.state.Lease.{Lease}
use Rattle.etcd_model.specs.declared.state.Watch.{Watch as Watching}
use Rattle.etcd_model.specs.History as history
use Rattle.etcd_model.specs.declared.state.History.{History}
use Rattle.etcd_model.specs.declared.state.Change.{Change}
use Rattle.etcd_model.specs.declared.state.Entry.{Entry}
use Rattle.etcd_model.specs.declared.state.Change.TheVariants.{Delete as Del}
use Rattle.etcd_model.specs.History.{key_of, current, entries, kv}
use Rattle.etcd_model.specs.Interval.{is_in, every_key}
use Rattle.etcd_model.specs.Kept as over_history
use Rattle.etcd_model.specs.Kept.{cost, cost_delete}
use Rattle.etcd_model.specs.declared.state.State.{State}
use Rattle.etcd_model.specs.Tenant.{Outcome, reads}
use Rattle.etcd_model.specs.Watches.{is_ahead, passes_filters}
use Rattle.etcd_model.specs.Operations.{branch, first_refusal}
use Rattle.etcd_model.specs.Leases.{attached, finish, run_out}
use Rattle.etcd_model.specs.Fields.{fields}
use Rattle.etcd_model.specs.Stepping as stepping
use Rattle.etcd_model.specs.Stepping.{early, look_up, used_up, outcome, pending, decided}
use Rattle.etcd_model.specs.Machine as machine
use Rattle.etcd_model.specs.Machine.{opening}
use Rattle.etcd_model.specs.Changes.{Recorded, ChangesOnce, entry_at, entry_of, change_of, recorded_changes, recorded, record_revision, live, rows, keeps, kept, Rises}
use Rattle.etcd_model.specs.Store as store
use Rattle.etcd_model.specs.Store.{Store, kept_store}
use Rattle.etcd_model.specs.Held.{keep, IsHistory, outcome_over, over}
use Rattle.etcd_model.proofs.HistoryLaws.{current-after}
use Rattle.etcd_model.proofs.GrowthLaws.{after_before_space, store_stays, first_none}
use Rattle.etcd_model.proofs.OnceLaws.{not_refused, outcome_once, ChangesOnce-opening}
use Rattle.model_laws.proofs.KeptLaws.{kept_append, kept_kept, kept_true, kept_false, live_kept}
use Rattle.model_laws.proofs.RecordedLaws.{all_push, all_weaker, changes_are_entries, changes_after, changes_rise, changes_up_to_current, changes_own_their_rows, live_of_changes, rows_of_changes}
use Rattle.model_laws.proofs.HistoryKeptLaws.{rows_kept, recorded_kept, kept_of_changes}
use Rattle.model_laws.proofs.CarryLaws.{Carries, carried, up_to_current}

-- ---- one more revision

pub rises_push : (xs : List Recorded) (y : Recorded) → Rises xs → AllByRecursion (λ x. x.revision ≤ y.revision) xs → Rises (xs ++ y ∷ [])
rises_push [] y rises up = (tt, tt)
rises_push (x ∷ xs) y rises up = (all_push (λ (z : Recorded). x.revision ≤ z.revision) xs y rises.0 up.0, rises_push xs y rises.1 up.1)

-- changes after the compaction are recorded over what is kept as over all
pub kept_revision : (c n : ℕ) (xs : List Recorded) (cs : List Change) → c < n → Rises xs → AllByRecursion (λ x. x.revision ≤ n) xs → kept c (record_revision n xs cs) ≡ record_revision n (kept c xs) cs
kept_revision c n xs [] above rises up = refl
kept_revision c n xs (d ∷ ds) above rises up =
    let e = entry_at n d in
    let x = recorded xs e in
    let from : c ≤ n = omega (arith, above) in
    kept_revision c n (xs ++ x ∷ []) ds above (rises_push xs x rises up) (all_push (λ (y : Recorded). y.revision ≤ n) xs x up (omega arith))
    ∙ ap (λ ys. record_revision n ys ds) (kept_append c xs (x ∷ []) (above, tt) ∙ ap (λ y. kept c xs ++ y ∷ []) (sym (recorded_kept c xs e from rises)))

pub keep_after : (H : History) (cs : List Change) → H.compacted ≤ current H → store.after (keep H) cs ≡ keep (history.history_after H cs)
keep_after H [] le = refl
keep_after H (c ∷ cs) le =
    let n = current H + 1 in
    let above : H.compacted < n = omega (arith, le) in
    let all : kept H.compacted (recorded_changes (history.history_after H (c ∷ cs))) ≡ record_revision n (kept H.compacted (recorded_changes H)) (c ∷ cs) =
    ap (kept H.compacted) (changes_after H c cs)
    ∙ kept_revision H.compacted n (recorded_changes H) (c ∷ cs) above (changes_rise H) (all_weaker (λ (x : Recorded). x.revision ≤ current H) (λ (x : Recorded). x.revision ≤ n) (λ x h. omega (arith, h)) (recorded_changes H) (changes_up_to_current H)) in
    λ i. record { current = sym (current-after H c cs) i; compacted = H.compacted; changes = sym all i }

pub keep_compact : (H : History) (r : ℕ) → H.compacted ≤ r → store.compact (keep H) r ≡ keep (machine.history.compact H r)
keep_compact H r le = λ i. record { current = current H; compacted = r; changes = kept_kept H.compacted r (recorded_changes H) le (changes_rise H) i }

-- ---- reads

pub live_kept_history : (H : History) (key : List ℕ) (r : ℕ) → H.compacted ≤ r → live key r (kept H.compacted (recorded_changes H)) ≡ kv H key r
live_kept_history H key r le = live_kept key H.compacted r (recorded_changes H) le (changes_rise H) ∙ live_of_changes H key r

pub rows_kept_history : (H : History) (interval : List ℕ → Bool) (r : ℕ) → H.compacted ≤ r → rows interval r (kept H.compacted (recorded_changes H)) ≡ history.history_rows H interval r
rows_kept_history H interval r le = rows_kept interval H.compacted r (recorded_changes H) le (changes_rise H) (changes_own_their_rows H) ∙ rows_of_changes H interval r

-- at a revision from the compaction on, or nothing below it
guarded : {Z : Type 0} (r c : ℕ) (none x y : Z) → (c ≤ r → x ≡ y) → (if nat_lt r c then none else x) ≡ (if nat_lt r c then none else y)
guarded r c none x y same = elim (cases_lt r c) [
  | inl below ↦ let t : nat_lt r c ≡ true = grind (arith, nat_tests) in ap (λ b. if b then none else x) t ∙ sym (ap (λ b. if b then none else y) t)
  | inr from ↦ ap (λ z. if nat_lt r c then none else z) (same from)
]

pub keep_reads : (H : History) → H.compacted ≤ current H → store.reads_of (keep H) ≡ machine.history_reads H
keep_reads H le =
    let row : (λ (key : List ℕ). live key (current H) (kept H.compacted (recorded_changes H))) ≡ (λ key. kv H key (current H)) = fun_ext (λ key. live_kept_history H key (current H) le) in
    let newest : (λ (key end : List ℕ). rows (is_in key end) (current H) (kept H.compacted (recorded_changes H))) ≡ (λ key end. history.history_rows H (is_in key end) (current H)) = fun_ext (λ key. fun_ext (λ end. rows_kept_history H (is_in key end) (current H) le)) in
    let older : (λ (key end : List ℕ) (r : ℕ). if nat_lt r H.compacted then [] else rows (is_in key end) r (kept H.compacted (recorded_changes H))) ≡ (λ key end r. if nat_lt r H.compacted then [] else history.history_rows H (is_in key end) r) =
    fun_ext (λ key. fun_ext (λ end. fun_ext (λ r. guarded r H.compacted [] (rows (is_in key end) r (kept H.compacted (recorded_changes H))) (history.history_rows H (is_in key end) r) (rows_kept_history H (is_in key end) r)))) in
    λ i. record { current = current H; compacted = H.compacted; row = row i; rows = newest i; rows_at = older i }

-- ---- what a watch is told of

ahead_kept : (w : Watching) (c : ℕ) (xs : List Recorded) → c ≤ w.next → filter (is_ahead w) (map entry_of (kept c xs)) ≡ filter (is_ahead w) (map entry_of xs)
ahead_kept w c [] le = refl
ahead_kept w c (x ∷ xs) le = elim (cases_Bool (keeps c x xs)) [
  | inl keep ↦ ap (λ ys. filter (is_ahead w) (map entry_of ys)) (kept_true c x xs keep) ∙ ap (λ es. cond (is_ahead w (entry_of x)) (entry_of x ∷ es) es) (ahead_kept w c xs le)
  | inr lost ↦
      ap (λ ys. filter (is_ahead w) (map entry_of ys)) (kept_false c x xs lost) ∙ ahead_kept w c xs le
      ∙ sym (ap (λ b. cond b (entry_of x ∷ filter (is_ahead w) (map entry_of xs)) (filter (is_ahead w) (map entry_of xs))) (behind lost))
]
  where
    below : (c : ℕ) (x : Recorded) (xs : List Recorded) → keeps c x xs ≡ false → x.revision < c
    below c x xs lost = grind (arith, nat_tests)

    behind : keeps c x xs ≡ false → is_ahead w (entry_of x) ≡ false
    behind lost = let low : x.revision < c = below c x xs lost in ap (λ b. b && (is_in w.key w.range_end (key_of (change_of x)) && passes_filters w (change_of x))) (lt-leb w.next x.revision (omega (arith, low, le)))

-- ---- the space

records_entries : (xs : List Recorded) → store.record_cells xs ≡ sum_by (λ e. cost e.change) (map entry_of xs)
records_entries [] = refl
records_entries (x ∷ xs) =
    sum_by-cons (λ (y : Recorded). cost (change_of y)) x xs ∙ ap (λ n. cost (change_of x) + n) (records_entries xs)
    ∙ sym (sum_by-cons (λ (e : Entry). cost e.change) (entry_of x) (map entry_of xs))

pub keep_cells : (H : History) → IsHistory H → store.counted_cells (keep H) ≡ over_history.history_cells H
keep_cells H is =
    ap (λ n. n + store.reserved_cells (current H) (kept H.compacted (recorded_changes H))) (records_entries (kept H.compacted (recorded_changes H)) ∙ ap (sum_by (λ (e : Entry). cost e.change)) (kept_of_changes H is.once))
    ∙ ap (λ (rs : List KeyValue). sum_by (λ (e : Entry). cost e.change) (over_history.kept_entries H) + sum_by (λ (row : KeyValue). cost_delete row.key) rs) (rows_kept_history H every_key (current H) is.compacted)

-- ---- carried

pub up_after : (H : History) (cs : List Change) → H.compacted ≤ current H → (history.history_after H cs).compacted ≤ current (history.history_after H cs)
up_after H [] le = le
up_after H (c ∷ cs) le = omega (arith, le, current-after H c cs)

pub carries : (H : History) → H.compacted ≤ current H → Carries machine.history kept_store keep H
carries H le = record {
  look = fun_ext (λ cs. ap store.reads_of (keep_after H cs le) ∙ keep_reads (history.history_after H cs) (up_after H cs le));
  after = λ cs. keep_after H cs le;
  compact = λ r from. keep_compact H r from;
  ahead = fun_ext (λ w. guarded w.next H.compacted [] (filter (is_ahead w) (map entry_of (kept H.compacted (recorded_changes H)))) (filter (is_ahead w) (entries H)) (λ from. ahead_kept w H.compacted (recorded_changes H) from ∙ ap (filter (is_ahead w)) (changes_are_entries H)));
  row_at = fun_ext (λ key. fun_ext (λ r. guarded r H.compacted None (live key r (kept H.compacted (recorded_changes H))) (kv H key r) (live_kept_history H key r)));
}

-- ---- a history as runs make it

pub opening_is_history : (cluster quota first : ℕ) → IsHistory (opening cluster quota first).store
opening_is_history cluster quota first = record { compacted = omega arith; once = ChangesOnce-opening cluster quota first }

pub none_refused : (S : State History) (step : Step) → first_refusal (early machine.history S step ∷ look_up machine.history S step ∷ []) ≡ None → (early machine.history S step ≡ None) × (look_up machine.history S step ≡ None)
none_refused S step e = let parts = first_none (early machine.history S step) (look_up machine.history S step ∷ []) e in (parts.0, (first_none (look_up machine.history S step) [] parts.1).0)

-- what a step does that is not refused
pub after_early : (P : State History → Type 0) (S : State History) (step : Step) → P S → (early machine.history S step ≡ None → look_up machine.history S step ≡ None → P (outcome machine.history S step).state) → P (machine.before_space S step).state
after_early P S step same done =
    plain (first_refusal (early machine.history S step ∷ look_up machine.history S step ∷ []))
    (λ e. let parts = none_refused S step e in done parts.0 parts.1)
  where
    plain : (r : Option Refusal) → (r ≡ None → P (outcome machine.history S step).state) → P (decided machine.history S step r).state
    plain None allowed = allowed refl
    plain (Some r) allowed = same

pub after_allowed : (P : State History → Type 0) (S : State History) (step : Step) → P S → (fields step ≡ None → look_up machine.history S step ≡ None → P (outcome machine.history S step).state) → P (machine.before_space S step).state
after_allowed P S step same done = after_early P S step same (λ e l. done (first_none (fields step) _ e).0 l)

-- a step that is not refused writes before the last revision, and chooses an ID before the last lease ID
pub none_used_up : (S : State History) (step : Step) → early machine.history S step ≡ None → ((nat_le last_revision (current S.store) && writes step) ≡ false) × ((nat_le last_lease_id S.counter && chooses_id step) ≡ false)
none_used_up S step e =
    let revisions = nat_le last_revision (current S.store) && writes step in
    let ids = nat_le last_lease_id S.counter && chooses_id step in
    let rest = (first_none (fields step) (used_up machine.history S step ∷ []) e).1 in
    or_parts revisions ids (not_refused (revisions || ids) UsedUp (first_none (used_up machine.history S step) [] rest).0)

ends_up : (ls : List Lease) (S : State History) → S.store.compacted ≤ current S.store → (fold (λ T l. finish machine.history T l.id) S ls).store.compacted ≤ current (fold (λ T l. finish machine.history T l.id) S ls).store
ends_up [] S le = le
ends_up (l ∷ ls) S le = ends_up ls (finish machine.history S l.id) (up_after S.store (map Del (attached (reads machine.history S) l.id)) le)

abbrev IsUp : State History → Type 0
IsUp S = S.store.compacted ≤ current S.store

outcome_up : (S : State History) (step : Step) → IsUp S → look_up machine.history S step ≡ None → IsUp (outcome machine.history S step).state
outcome_up S (Put p) le e = up_after S.store (pending machine.history S (PutOp p ∷ [])) le
outcome_up S (Delete d) le e = up_after S.store (pending machine.history S (DeleteOp d ∷ [])) le
outcome_up S (Txn t) le e = up_after S.store (pending machine.history S (branch (reads machine.history S) t)) le
outcome_up S (Compact r) le e = up_to_current (reads machine.history S) r e
outcome_up S (Revoke id) le e = up_after S.store (map Del (attached (reads machine.history S) id)) le
outcome_up S (Tick m) le e = let later = record S { moment = max S.moment (min m last_moment) } in ends_up (run_out later.moment later.leases) later le
outcome_up S step le e = subst (λ (H : History). H.compacted ≤ current H) (sym (store_stays S step refl)) le

before_space_up : (S : State History) (step : Step) → IsUp S → IsUp (machine.before_space S step).state
before_space_up S step le = after_allowed IsUp S step le (λ f e. outcome_up S step le e)

before_space_once : (S : State History) (step : Step) → ChangesOnce S.store → ChangesOnce (machine.before_space S step).state.store
before_space_once S step once = after_before_space (λ T. ChangesOnce T.store) S step once (outcome_once S step once)

before_space_is_history : (S : State History) (step : Step) → IsHistory S.store → IsHistory (machine.before_space S step).state.store
before_space_is_history S step is = record { compacted = before_space_up S step is.compacted; once = before_space_once S step is.once }

-- the machine's step ends in the state before space is counted, or in the one before, with the alarm or without
pub after_machine : (P : State History → Type 0) (S : State History) (step : Step) → P S → P (record S { alarm = true }) → P (machine.before_space S step).state → P (machine.machine S step).state
after_machine P S step same alarmed before = checked (early machine.history S step)
  where
    either : (b : Bool) (x y : Outcome History) → P x.state → P y.state → P (if b then x else y).state
    either true x y l r = l
    either false x y l r = r

    counted : (r : Option Refusal) → P (stepping.within_quota machine.history S step (machine.before_space S step) r).state
    counted (Some r) = before
    counted None = either _ _ _ alarmed before

    checked : (r : Option Refusal) → P (stepping.unless_alarmed machine.history S step (machine.before_space S step) r).state
    checked (Some r) = before
    checked None = either _ _ _ same (counted (look_up machine.history S step))

pub step_is_history : (S : State History) (step : Step) → IsHistory S.store → IsHistory (machine.machine S step).state.store
step_is_history S step is = after_machine (λ T. IsHistory T.store) S step is is (before_space_is_history S step is)

-- ---- the steps

pub step_over_kept : (S : State History) (step : Step) → IsHistory S.store → stepping.machine kept_store (over keep S) step ≡ outcome_over keep (machine.machine S step)
step_over_kept S step is =
    carried machine.history kept_store keep (λ H. H.compacted ≤ current H) carries up_after S is.compacted (keep_cells S.store is) step
    (keep_cells (machine.before_space S step).state.store (before_space_is_history S step is))
