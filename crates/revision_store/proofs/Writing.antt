-- What is written one after another is written all together.
use Rattle.std.proofs.Common.{◌≡◌, ℕ, ◌+◌, ◌<◌, ◌≤◌, List, [], ◌∷◌, ◌++◌, map, IsSome, Option, Some, None, option_map, unwrap_or, refl, ap, sym, subst, ◌∙◌, arith, append_assoc, length, get_or, drop, drop-cons, add-one}
use Rattle.std.specs.List.{AllByRecursion}
use Rattle.std.proofs.lemmas.List.{append-nil}
use Rattle.std.proofs.lemmas.List.Sums.{sum_by-cons}
use Rattle.etcd_model.specs.Changes.{Recorded}
use Rattle.etcd_model.specs.Kept.{cost_delete}
use Rattle.model_laws.proofs.RecordedLaws.{all_push}
use Rattle.key_index.specs.Links.{Cells, Linked, change_at}
use Rattle.revision_store.specs.declared.plan.Write.{Write}
use Rattle.revision_store.specs.declared.plan.Write.TheVariants.{Put, Delete}
use Rattle.revision_store.specs.Recorded.{cells_of}
use Rattle.revision_store.specs.Logged.{LogState, AllStay}
use Rattle.revision_store.specs.Plans.{AreFresh, IsOf, head_deletes, cost_in, key_at, recorded_in}
use Rattle.revision_store.specs.Appending.{CanAppend, Appends, IsAppending}

change_there : (cells : Cells) (c : ℕ) → IsSome (cells c) → (x : Recorded) × (change_at cells c ≡ Some x)
change_there cells c some = by_case (cells c) some
  where
    by_case : (o : Option Linked) → IsSome o → (x : Recorded) × (option_map (λ e. e.change) o ≡ Some x)
    by_case None some = absurd (cc)
    by_case (Some e) some = (e.change, refl)

-- a write says the same while all changes stay
pub key_stays : (old new : Cells) (c : ℕ) → AllStay old new → IsSome (old c) → key_at new c ≡ key_at old c
key_stays old new c stay some =
    let there = change_there old c some in
    ap (λ o. unwrap_or (option_map (λ (x : Recorded). x.key) o) []) (stay c there.0 there.1 ∙ sym there.1)

pub recorded_stays : (old new : Cells) (revision : ℕ) (write : Write) → AllStay old new → IsOf old revision write → recorded_in new revision write ≡ recorded_in old revision write
recorded_stays old new revision (Put row) stay of = refl
recorded_stays old new revision (Delete c) stay of = ap (λ key. record { key = key; revision = revision; row = None }) (key_stays old new c stay of)

pub cost_stays : (old new : Cells) (revision : ℕ) (write : Write) → AllStay old new → IsOf old revision write → cost_in new write ≡ cost_in old write
cost_stays old new revision (Put row) stay of = refl
cost_stays old new revision (Delete c) stay of = ap (λ key. cost_in_delete key) (key_stays old new c stay of)
  where
    cost_in_delete : List ℕ → ℕ
    cost_in_delete key = cost_delete key

-- one more of the writes ahead is recorded
pub appended : (old now new : LogState) (revision : ℕ) (writes ahead : List Write) (write : Write)
    → IsAppending old now revision writes (write ∷ ahead)
    → Appends now new revision (write ∷ [])
    → IsAppending old new revision writes ahead
appended old now new revision writes ahead write before one =
    let one_cost = sum_by-cons (cost_in (cells_of now.records)) write [] in
    let same = recorded_stays (cells_of old.records) (cells_of now.records) revision write before.stay before.of.0 in
    let cost = cost_stays (cells_of old.records) (cells_of now.records) revision write before.stay before.of.0 in
    let now_changes : new.changes ≡ now.changes ++ recorded_in (cells_of old.records) revision write ∷ [] = one.changes ∙ ap (λ x. now.changes ++ x ∷ []) same in
    let ahead_changes = map (recorded_in (cells_of old.records) revision) ahead in
    record {
      of = before.of.1;
      fresh = subst (λ xs. AreFresh (cells_of old.records) revision xs ahead) (sym now_changes) before.fresh.1;
      later = subst (AllByRecursion (λ x. x.revision ≤ revision)) (sym now_changes) (all_push (λ x. x.revision ≤ revision) now.changes (recorded_in (cells_of old.records) revision write) before.later (at_revision (cells_of old.records) write));
      changes = ap (λ xs. xs ++ ahead_changes) now_changes ∙ append_assoc now.changes (recorded_in (cells_of old.records) revision write ∷ []) ahead_changes ∙ before.changes;
      stay = λ c x is. one.stay c x (before.stay c x is);
      costs = omega (arith, before.costs, sum_by-cons (cost_in (cells_of old.records)) write ahead, cost, one_cost, one.free);
      free = omega (arith, before.free, before.costs, sum_by-cons (cost_in (cells_of old.records)) write ahead, cost, one_cost, one.free);
      leases = one.leases ∙ before.leases;
      lease_cells = one.lease_cells ∙ before.lease_cells;
    }
  where
    at_revision : (cells : Cells) (w : Write) → (recorded_in cells revision w).revision ≤ revision
    at_revision cells (Put row) = omega arith
    at_revision cells (Delete c) = omega arith

of_stays : (old new : Cells) (revision : ℕ) (write : Write) → AllStay old new → IsOf old revision write → IsOf new revision write
of_stays old new revision (Put row) stay of = of
of_stays old new revision (Delete c) stay of =
    let there = change_there old c of in
    some_entry (new c) there.0 (stay c there.0 there.1)
  where
    some_entry : (o : Option Linked) (x : Recorded) → option_map (λ e. e.change) o ≡ Some x → IsSome o
    some_entry None x is = absurd (cc)
    some_entry (Some e) x is = refl

pub starting : (log : LogState) (revision : ℕ) (writes : List Write) → CanAppend log revision writes → IsAppending log log revision writes writes
starting log revision writes can = record {
  of = can.of;
  fresh = can.fresh;
  later = can.later;
  changes = refl;
  stay = λ c x is. is;
  costs = can.space;
  free = refl;
  leases = refl;
  lease_cells = refl;
}

-- the next write can be recorded
pub next_fits : (old now : LogState) (revision : ℕ) (writes ahead : List Write) (write : Write) → IsAppending old now revision writes (write ∷ ahead)
    → CanAppend now revision (write ∷ [])
next_fits old now revision writes ahead write before =
    let from = cells_of old.records in
    let to = cells_of now.records in
    let same = recorded_stays from to revision write before.stay before.of.0 in
    record {
      of = (of_stays from to revision write before.stay before.of.0, tt);
      later = before.later;
      fresh = (subst (λ (y : Recorded). AllByRecursion (λ x. x.key ≡ y.key → x.revision < revision) now.changes) (sym same) before.fresh.0, tt);
      space = omega (arith, before.costs, sum_by-cons (cost_in from) write ahead, sum_by-cons (cost_in to) write [], cost_stays from to revision write before.stay before.of.0);
    }

-- the writes from a place on
pub ahead_here : (ws : List Write) (i : ℕ) (w : Write) → i < length ws → w ≡ get_or ws i w → drop i ws ≡ w ∷ drop (i + 1) ws
ahead_here ws i w h is = rw (drop-cons ws i w h, ← is, add-one) refl

pub deletes_here : (cs : List ℕ) (i : ℕ) (c : ℕ) → i < length cs → c ≡ get_or cs i c → head_deletes (drop i cs) ≡ Delete c ∷ head_deletes (drop (i + 1) cs)
deletes_here cs i c h is = rw (drop-cons cs i c h, ← is, add-one) refl

-- nothing is ahead
pub all_appended : (old now : LogState) (revision : ℕ) (writes : List Write) → IsAppending old now revision writes [] → Appends old now revision writes
all_appended old now revision writes end = record {
  changes = sym (append-nil now.changes) ∙ end.changes;
  stay = end.stay;
  free = omega (arith, end.free);
  leases = end.leases;
  lease_cells = end.lease_cells;
}
