-- Rows that their keys show stay under their cells through a compaction.
use Rattle.std.proofs.Common.{◌≡◌, ℕ, ◌≤◌, List, Option, Some, None, IfSome, is_some, option_map, sym, ap, ◌∙◌, refl, subst, arith, inr}
use Rattle.std.specs.Prelude.{option_and_then}
use Rattle.std.specs.Ordering.{nat_cmp}
use Rattle.std.specs.FinMap.{FinMap, get}
use Rattle.std.proofs.lemmas.Option.{none-some, same_Some}
use Rattle.cell_arena.specs.Chain.{Record}
use Rattle.cell_arena.specs.declared.cell.Kind.{Kind}
use Rattle.cell_arena.specs.declared.cell.Kind.TheVariants.{Put, Delete, Lease}
use Rattle.etcd_types.specs.declared.key_value.KeyValue.{KeyValue}
use Rattle.etcd_model.specs.Changes.{Recorded, is_up_to, last, live}
use Rattle.model_laws.proofs.LastIsLaws.{last_in, last_max}
use Rattle.key_index.specs.Links.{Cells, Linked, IsChained}
use Rattle.key_index.specs.Compaction.{IsCompacted, IsKept}
use Rattle.key_index.specs.Order.{AreAll, IsInOrder, changes_in}
use Rattle.key_index.proofs.Compacted.{change_some}
use Rattle.key_index.proofs.Links.{one_linked}
use Rattle.key_index.proofs.Order.{cell_in, change_in, is_it_up_to}
use Rattle.revision_store.specs.Recorded.{cells_of, linked_by, linked_of, row_of}
use Rattle.revision_store.specs.Logged.{AllStay}
use Rattle.revision_store.specs.Stored.{RowsStay, row_at}

-- ---- a change under a cell and its row

-- a row has the key and the revision of its change
record IsRowOf (row : KeyValue) (x : Recorded) : Type 0 where
  key : x.key ≡ row.key
  revision : x.revision ≡ row.mod_revision

abbrev HasRow : KeyValue → Option Linked → Type 0
HasRow row o = IfSome o (λ (g : Linked). g.change.row ≡ Some row → IsRowOf row g.change)

row_numbers : (records : FinMap nat_cmp Record) (c : ℕ) (e : Linked) (row : KeyValue) → cells_of records c ≡ Some e → e.change.row ≡ Some row → IsRowOf row e.change
row_numbers records c e row at is = from (get records c) at
  where
    by : (kind : Kind) (r : Record) → linked_by kind r ≡ Some e → IsRowOf row e.change
    by Put r h =
        let told : e.change.row ≡ Some row → IsRowOf row e.change = subst (HasRow row) h (λ there. (
        let same : row_of r ≡ row = same_Some (row_of r) row there in
        record { key = ap (λ (q : KeyValue). q.key) same; revision = ap (λ (q : KeyValue). q.mod_revision) same })) in
        told is
    by Delete r h = let told : e.change.row ≡ Some row → IsRowOf row e.change = subst (HasRow row) h (λ there. absurd (none-some row there)) in told is
    by Lease r h = let bad : ⊥ = cc in absurd bad

    from : (o : Option Record) → option_and_then linked_of o ≡ Some e → IsRowOf row e.change
    from None h = let bad : ⊥ = cc in absurd bad
    from (Some r) h = by r.kind r h

row_under : (cells : Cells) (c : ℕ) (row : KeyValue) → row_at cells c ≡ Some row → (e : Linked) × (cells c ≡ Some e) × (e.change.row ≡ Some row)
row_under cells c row at = from (cells c) refl at
  where
    from : (o : Option Linked) → cells c ≡ o → option_and_then (λ (x : Recorded). x.row) (option_map (λ (e : Linked). e.change) o) ≡ Some row → (e : Linked) × (cells c ≡ Some e) × (e.change.row ≡ Some row)
    from None there h = let bad : ⊥ = cc in absurd bad
    from (Some e) there h = (e, there, h)

-- a row is under its cell where all changes stay
pub row_stays : (old new : Cells) (c : ℕ) (row : KeyValue) → AllStay old new → row_at old c ≡ Some row → row_at new c ≡ Some row
row_stays old new c row stay at =
    let e = row_under old c row at in
    ap (option_and_then (λ (x : Recorded). x.row)) (stay c e.0.change (change_some old c e.0 e.1)) ∙ e.2

last_shown : (key : List ℕ) (r : ℕ) (xs : List Recorded) (row : KeyValue) → live key r xs ≡ Some row → (x : Recorded) × (last key r xs ≡ Some x) × (x.row ≡ Some row)
last_shown key r xs row shown = from (last key r xs) refl shown
  where
    from : (o : Option Recorded) → last key r xs ≡ o → option_and_then (λ (x : Recorded). x.row) o ≡ Some row → (x : Recorded) × (last key r xs ≡ Some x) × (x.row ≡ Some row)
    from None there h = let bad : ⊥ = cc in absurd bad
    from (Some x) there h = (x, there, h)

-- ---- what is left

pub rows_left : (old : FinMap nat_cmp Record) (new : Cells) (order : List ℕ) (revision : ℕ) → IsChained (cells_of old) → AreAll (cells_of old) order → IsInOrder (cells_of old) order → IsCompacted (cells_of old) new revision
    → (r : ℕ) → revision ≤ r → RowsStay (cells_of old) new r (changes_in (cells_of old) order)
rows_left old new order revision chained all rises compacted r le c row at shown =
    let cells = cells_of old in
    let xs = changes_in cells order in
    let e = row_under cells c row at in
    let x = last_shown row.key r xs row shown in
    let q = cell_in cells x.0 order (last_in (is_up_to row.key r) xs x.0 x.1) in
    let mine = row_numbers old c e.0 row e.1 e.2 in
    let its = row_numbers old q.cell q.linked row q.at (ap (λ (y : Recorded). y.row) q.is ∙ x.2) in
    let one : q.cell ≡ c = chained.unique q.cell c q.linked e.0 q.at e.1 (its.key ∙ sym mine.key) (its.revision ∙ sym mine.revision) in
    let same : q.linked ≡ e.0 = one_linked (cells c) q.linked e.0 (subst (λ (b : ℕ). cells b ≡ Some q.linked) one q.at) e.1 in
    let last_is : x.0 ≡ e.0.change = sym q.is ∙ ap (λ (g : Linked). g.change) same in
    let kept : IsKept cells revision e.0.change = inr (
      ap is_some e.2,
      λ b g has key below.
          let passes = is_it_up_to g.change row.key r (key ∙ mine.key) (omega (arith, below, le)) in
          let up = last_max (is_up_to row.key r) xs x.0 g.change rises x.1 (change_in cells b g order has (omega (arith, all.once b g has))) passes in
          omega (arith, up, ap (λ (y : Recorded). y.revision) last_is),
    ) in
    ap (option_and_then (λ (y : Recorded). y.row)) (compacted.stays c e.0 e.1 kept) ∙ e.2
