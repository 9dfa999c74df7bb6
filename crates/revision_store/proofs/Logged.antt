-- A log with nothing, with one change more, and with one lease more or fewer.
use Rattle.std.proofs.Common.{◌≡◌, ℕ, ◌+◌, ◌%◌, ◌^◌, ◌<◌, ◌≤◌, List, [], ◌∷◌, ◌++◌, length, Option, Some, None, IsSome, true, sym, ap, ◌∙◌, refl, subst, arith, inl, inr}
use Rattle.std.proofs.Math.Nat.{le_refl}
use Rattle.std.proofs.lemmas.List.{append_assoc, length-append}
use Rattle.std.specs.Prelude.{option_and_then, option_map}
use Rattle.std.specs.Ordering.{nat_cmp}
use Rattle.std.specs.FinMap.{get, get-empty}
use Rattle.std.specs.FinMap as map
use Rattle.std.specs.List.{All, AllByRecursion}
use Rattle.std.proofs.lemmas.Bool.{cases_eq}
use Rattle.std.proofs.lemmas.List.Elements.{All-head, All-tail}
use Rattle.std.proofs.lemmas.List.Sums.{sum_by-cons, sum_by_push}
use Rattle.chunk_list.specs.Chunked.{Chunked}
use Rattle.cell_arena.specs.Chain.{Record}
use Rattle.cell_arena.specs.Region.{RegionState, no_records}
use Rattle.etcd_types.specs.declared.key_value.KeyValue.{KeyValue}
use Rattle.etcd_model.specs.Changes.{Recorded, Rises, change_by, change_of}
use Rattle.etcd_model.specs.Kept.{cost}
use Rattle.etcd_model.specs.Store.{record_cells}
use Rattle.key_index.specs.Links.{Cells, Linked, IsChained, IsPlaced, SameChanges, change_at, without}
use Rattle.key_index.specs.Index.{Heads, IsIndexOf, key_count, no_heads}
use Rattle.key_index.specs.Order.{AreAll, AreSettled, IsInOrder, changes_in, with_record}
use Rattle.key_index.proofs.Links.{if_other}
use Rattle.key_index.proofs.Order.{changes_some, parted_few, which}
use Rattle.key_index.proofs.Settled.{settled_added}
use Rattle.key_index.proofs.OrderAdded.{changes_added, all_added, in_order_added, each_record, without_record, placed_record}
use Rattle.revision_store.specs.Recorded.{LeaseRecord, cells_of, linked_of, lease_by, leases_of, with_lease_cell, without_lease_cell, AreCounted, ArePlain}
use Rattle.revision_store.specs.Logged.{IsLog, AllStay}
use Rattle.revision_store.specs.Plans.{change_in, cost_in, recorded_in}
use Rattle.revision_store.specs.declared.plan.Write.{Write}
use Rattle.revision_store.specs.declared.plan.Write.TheVariants.{Put, Delete}
use Rattle.revision_store.proofs.Counted.{counted_more, counted_fewer}
use Rattle.key_index.proofs.Visits.{some_front}

-- ---- nothing

none_there : (c : ℕ) (r : Record) → get {R = nat_cmp} map.empty c ≡ Some r → ⊥
none_there c r at = let none : get {X = Record} {R = nat_cmp} map.empty c ≡ None = get-empty nat_cmp c in cc

no_change : (c : ℕ) → cells_of map.empty c ≡ None
no_change c = ap (option_and_then linked_of) (get-empty nat_cmp c)

no_linked : (c : ℕ) (e : Linked) → cells_of map.empty c ≡ Some e → ⊥
no_linked c e at = let none = no_change c in cc

no_lease : (c : ℕ) → leases_of map.empty c ≡ None
no_lease c = ap (option_and_then (λ (r : Record). lease_by r.kind r)) (get-empty nat_cmp c)

pub empty_is_log : (cells : ℕ) (settled recent : Chunked ℕ) → cells % 64 ≡ 0 → cells ≤ 2 ^ 20 → settled.items ≡ [] → recent.items ≡ [] → settled.room ≡ cells → recent.room ≡ cells
    → IsLog (no_records cells) (no_heads cells) settled recent 0
empty_is_log cells settled recent whole few no_settled no_recent settled_room recent_room = record {
  index = record {
    heads = [];
    are = record {
      newest = λ i lt. absurd (omega (arith, lt));
      sorted = λ i j e f below lt. absurd (omega (arith, lt));
      whole = λ c e at. absurd (no_linked c e at);
    };
    these_are = refl;
    others_are = refl;
  };
  chained = record {
    linked = λ c d e at. absurd (no_linked c e at);
    oldest = λ c e at. absurd (no_linked c e at);
    unique = λ b c g e at. absurd (no_linked b g at);
  };
  all = record {
    once = λ c e at. absurd (no_linked c e at);
    some = λ k d lt. absurd (omega (arith, lt, ap length none));
  };
  rises = subst (λ (order : List ℕ). Rises (changes_in (cells_of map.empty) order)) (sym none) tt;
  settled = subst (AreSettled (cells_of map.empty)) (sym no_settled) tt;
  plain = λ c r at. absurd (none_there c r at);
  leases = record {
    list = [];
    long = refl;
    once = λ c some. (let none = no_lease c in absurd (cc));
    only = λ c none. refl;
  };
  space = omega (arith, whole, ap (λ (order : List ℕ). record_cells (changes_in (cells_of map.empty) order)) none);
  most = omega (arith, few);
  reserved = le_refl _;
  index_capacity = omega (arith, few);
  settled_capacity = omega (arith, settled_room);
  recent_capacity = omega (arith, recent_room);
  index_taken = few;
  settled_taken = omega (arith, few, settled_room);
  recent_taken = omega (arith, few, recent_room);
}
  where
    none : settled.items ++ recent.items ≡ []
    none = ap (λ (xs : List ℕ). xs ++ recent.items) no_settled ∙ no_recent

-- ---- one change more

pub recorded_revision : (cells : Cells) (revision : ℕ) (write : Write) → (recorded_in cells revision write).revision ≡ revision
recorded_revision cells revision (Put row) = refl
recorded_revision cells revision (Delete cell) = refl

pub recorded_change : (cells : Cells) (revision : ℕ) (write : Write) → change_of (recorded_in cells revision write) ≡ change_in cells write
recorded_change cells revision (Put row) = refl
recorded_change cells revision (Delete cell) = refl

-- a change takes a cell at least
pub some_cells : (x : Recorded) → 1 ≤ cost (change_of x)
some_cells x = by_row x.key x.row
  where
    by_row : (key : List ℕ) (row : Option KeyValue) → 1 ≤ cost (change_by key row)
    by_row key None = omega arith
    by_row key (Some row) = omega arith

pub order_few : (cells : Cells) (order : List ℕ) → All (λ c. IsSome (cells c)) order → length order ≤ record_cells (changes_in cells order)
order_few cells [] some = omega arith
order_few cells (c ∷ cs) some =
    let at = which (cells c) (All-head (λ c. IsSome (cells c)) c cs some) in
    let rest = order_few cells cs (All-tail (λ c. IsSome (cells c)) c cs some) in
    let all : record_cells (changes_in cells (c ∷ cs)) ≡ record_cells (at.0.change ∷ changes_in cells cs) = ap record_cells (changes_some cells c at.0 cs at.1) in
    let split = sum_by-cons (λ (x : Recorded). cost (change_of x)) at.0.change (changes_in cells cs) in
    omega (arith, all, split, some_cells at.0.change, rest)

-- a cell at the end of the recent ones stands at the end of all
pub order_more : (settled recent after : List ℕ) (c : ℕ) → after ≡ recent ++ c ∷ [] → settled ++ after ≡ (settled ++ recent) ++ c ∷ []
order_more settled recent after c is = ap (λ (xs : List ℕ). settled ++ xs) is ∙ sym (append_assoc settled recent (c ∷ []))

module _ {r0 : RegionState} (r1 : RegionState) {heads0 : Heads} {settled recent : Chunked ℕ} {leases : ℕ} (c revision : ℕ) (write : Write) (log : IsLog r0 heads0 settled recent leases) (fresh : get r0.records c ≡ None) (placed : cells_of r1.records ≡ with_record (cells_of r0.records) c (record { change = recorded_in (cells_of r0.records) revision write; older = None })) (free : r1.free + cost_in (cells_of r0.records) write ≡ r0.free) where
  abbrev order : List ℕ
  order = settled.items ++ recent.items

  abbrev new_change : Recorded
  new_change = recorded_in (cells_of r0.records) revision write

  abbrev new_linked : Linked
  new_linked = record { change = new_change; older = None }

  free1 : r1.free + cost (change_of new_change) ≡ r0.free
  free1 = ap (λ x. r1.free + cost x) (recorded_change (cells_of r0.records) revision write) ∙ free

  fresh_cell : cells_of r0.records c ≡ None
  fresh_cell = ap (option_and_then linked_of) fresh

  -- each of the places is of a cell in use
  pub recent_fits : length recent.items < recent.room
  recent_fits = omega (arith, order_few (cells_of r0.records) order log.all.some, length-append settled.items recent.items, some_cells new_change, free1, log.space, log.reserved, log.recent_capacity)

  pub heads_fit : key_count heads0 < heads0.capacity
  heads_fit = omega (arith, parted_few (cells_of r0.records) true heads0.live heads0.dead order log.index log.all, order_few (cells_of r0.records) order log.all.some, some_cells new_change, free1, log.space, log.reserved, log.index_capacity)

  was_there : without (cells_of r1.records) c ≡ cells_of r0.records
  was_there = ap (λ (m : Cells). without m c) placed ∙ without_record (cells_of r0.records) c new_linked fresh_cell

  pub index_before : IsIndexOf (without (cells_of r1.records) c) heads0.live heads0.dead
  index_before = subst (λ (m : Cells). IsIndexOf m heads0.live heads0.dead) (sym was_there) log.index

  pub chained_before : IsChained (without (cells_of r1.records) c)
  chained_before = subst IsChained (sym was_there) log.chained

  pub placed_newest : AllByRecursion (λ x. x.key ≡ new_change.key → x.revision < revision) (changes_in (cells_of r0.records) order) → IsPlaced (cells_of r1.records) c
  placed_newest once =
      let later : AllByRecursion (λ x. x.key ≡ new_change.key → x.revision < new_change.revision) (changes_in (cells_of r0.records) order) =
      subst (λ (n : ℕ). AllByRecursion (λ x. x.key ≡ new_change.key → x.revision < n) (changes_in (cells_of r0.records) order)) (sym (recorded_revision (cells_of r0.records) revision write)) once in
      subst (λ (m : Cells). IsPlaced m c) (sym placed) (placed_record (cells_of r0.records) c new_linked fresh_cell
      (each_record (λ x. x.key ≡ new_change.key → x.revision < new_change.revision) (cells_of r0.records) order log.all later))

  module _ (r2 : RegionState) (same : SameChanges (cells_of r1.records) (cells_of r2.records)) where
    same_changes : SameChanges (with_record (cells_of r0.records) c new_linked) (cells_of r2.records)
    same_changes = subst (λ (m : Cells). SameChanges m (cells_of r2.records)) placed same

    pub changes_more : changes_in (cells_of r2.records) (order ++ c ∷ []) ≡ changes_in (cells_of r0.records) order ++ new_change ∷ []
    changes_more = changes_added (cells_of r0.records) (cells_of r2.records) c new_linked fresh_cell same_changes order log.all

    pub changes_stay : AllStay (cells_of r0.records) (cells_of r2.records)
    changes_stay b x at = elim (cases_eq b c) [
      | inl eq ↦
          let none : change_at (cells_of r0.records) b ≡ None = ap (λ (k : ℕ). change_at (cells_of r0.records) k) eq ∙ ap (option_map (λ (g : Linked). g.change)) fresh_cell in
          absurd (cc)
      | inr differs ↦ same_changes b ∙ ap (option_map (λ (g : Linked). g.change)) (if_other b c (Some new_linked) (cells_of r0.records b) differs) ∙ at
    ]

    pub log_more : (heads2 : Heads) (after : Chunked ℕ) → after.items ≡ recent.items ++ c ∷ [] → after.room ≡ recent.room → AllByRecursion (λ x. x.revision ≤ revision) (changes_in (cells_of r0.records) order)
        → IsIndexOf (cells_of r2.records) heads2.live heads2.dead → IsChained (cells_of r2.records) → heads2.capacity ≡ heads0.capacity → heads2.taken ≡ heads0.taken
        → leases_of r2.records ≡ leases_of r0.records → ArePlain r2.records → r2.free ≡ r1.free → r2.share.reserved ≡ r0.share.reserved → r2.share.rooms ≡ r0.share.rooms
        → IsLog r2 heads2 settled after leases
    log_more heads2 after more places up index chained room taken same_leases plain same_free reserved rooms =
        let moved = order_more settled.items recent.items after.items c more in
        let seen = ap (λ (xs : List ℕ). record_cells (changes_in (cells_of r2.records) xs)) moved in
        let cells : record_cells (changes_in (cells_of r2.records) (order ++ c ∷ [])) ≡ record_cells (changes_in (cells_of r0.records) order ++ new_change ∷ []) = ap record_cells changes_more in
        let split = sum_by_push (λ (x : Recorded). cost (change_of x)) (changes_in (cells_of r0.records) order) new_change in
        let later : AllByRecursion (λ x. x.revision ≤ new_change.revision) (changes_in (cells_of r0.records) order) =
        subst (λ (n : ℕ). AllByRecursion (λ x. x.revision ≤ n) (changes_in (cells_of r0.records) order)) (sym (recorded_revision (cells_of r0.records) revision write)) up in
        record {
          index = index;
          chained = chained;
          all = subst (AreAll (cells_of r2.records)) (sym moved) (all_added (cells_of r0.records) (cells_of r2.records) c new_linked fresh_cell same_changes order log.all);
          rises = subst (IsInOrder (cells_of r2.records)) (sym moved) (in_order_added (cells_of r0.records) (cells_of r2.records) c new_linked fresh_cell same_changes order log.all log.rises later);
          settled = settled_added (cells_of r0.records) (cells_of r2.records) c new_linked fresh_cell same_changes
              (λ b g at key. each_record (λ x. x.revision ≤ new_change.revision) (cells_of r0.records) order log.all later b g at)
              settled.items (some_front (λ b. IsSome (cells_of r0.records b)) settled.items recent.items log.all.some) log.settled;
          plain = plain;
          leases = subst (λ l. AreCounted l leases) (sym same_leases) log.leases;
          space = omega (arith, seen, cells, split, free1, same_free, reserved, log.space);
          most = omega (arith, rooms, log.most);
          reserved = omega (arith, reserved, rooms, log.reserved);
          index_capacity = omega (arith, rooms, room, log.index_capacity);
          settled_capacity = omega (arith, rooms, log.settled_capacity);
          recent_capacity = omega (arith, rooms, places, log.recent_capacity);
          index_taken = omega (arith, taken, log.index_taken);
          settled_taken = log.settled_taken;
          recent_taken = omega (arith, places, log.recent_taken);
        }

-- ---- one lease more or fewer

module _ {r0 : RegionState} (r1 : RegionState) {heads : Heads} {settled recent : Chunked ℕ} {leases : ℕ} (c : ℕ) (log : IsLog r0 heads settled recent leases) (cells : cells_of r1.records ≡ cells_of r0.records) (plain : ArePlain r1.records) (reserved : r1.share.reserved ≡ r0.share.reserved) (rooms : r1.share.rooms ≡ r0.share.rooms) where
  with_counted : (now : ℕ) → AreCounted (leases_of r1.records) now → r1.free + now ≡ r0.free + leases → IsLog r1 heads settled recent now
  with_counted now counted space =
      let same : record_cells (changes_in (cells_of r1.records) (settled.items ++ recent.items)) ≡ record_cells (changes_in (cells_of r0.records) (settled.items ++ recent.items)) = ap (λ (m : Cells). record_cells (changes_in m (settled.items ++ recent.items))) cells in
      record {
        index = subst (λ (m : Cells). IsIndexOf m heads.live heads.dead) (sym cells) log.index;
        chained = subst IsChained (sym cells) log.chained;
        all = subst (λ (m : Cells). AreAll m (settled.items ++ recent.items)) (sym cells) log.all;
        rises = subst (λ (m : Cells). Rises (changes_in m (settled.items ++ recent.items))) (sym cells) log.rises;
        settled = subst (λ (m : Cells). AreSettled m settled.items) (sym cells) log.settled;
        plain = plain;
        leases = counted;
        space = omega (arith, same, space, reserved, log.space);
        most = omega (arith, rooms, log.most);
        reserved = omega (arith, reserved, rooms, log.reserved);
        index_capacity = omega (arith, rooms, log.index_capacity);
        settled_capacity = omega (arith, rooms, log.settled_capacity);
        recent_capacity = omega (arith, rooms, log.recent_capacity);
        index_taken = log.index_taken;
        settled_taken = log.settled_taken;
        recent_taken = log.recent_taken;
      }

  pub lease_more : (l : LeaseRecord) (now : ℕ) → get r0.records c ≡ None → leases_of r1.records ≡ with_lease_cell (leases_of r0.records) c l → r1.free + 1 ≡ r0.free → now ≡ leases + 1 → IsLog r1 heads settled recent now
  lease_more l now fresh is free one =
      let none : leases_of r0.records c ≡ None = ap (option_and_then (λ (r : Record). lease_by r.kind r)) fresh in
      let counted = counted_more (leases_of r0.records) c l leases none log.leases in
      with_counted now (subst (λ (n : ℕ). AreCounted (leases_of r1.records) n) (sym one) (subst (λ m. AreCounted m (leases + 1)) (sym is) counted)) (omega (arith, free, one))

  pub lease_fewer : (now : ℕ) → IsSome (leases_of r0.records c) → leases_of r1.records ≡ without_lease_cell (leases_of r0.records) c → r1.free ≡ r0.free + 1 → now + 1 ≡ leases → IsLog r1 heads settled recent now
  lease_fewer now some is free one =
      let counted = counted_fewer (leases_of r0.records) c leases now some one log.leases in
      with_counted now (subst (λ m. AreCounted m now) (sym is) counted) (omega (arith, free, one))
