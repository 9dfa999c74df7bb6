-- The orders of a range are total, and rows of different keys do not tie in them.
use Rattle.std.proofs.Common.{◌≡◌, List, [], ◌∷◌, true, false, length, refl, sym, ap, ◌∙◌}
use Rattle.std.specs.declared.cmp.Ordering.{Ordering}
use Rattle.std.specs.declared.cmp.Ordering.TheVariants.{Less, Equal, Greater}
use Rattle.std.specs.Cmp.{IsTotalOrder}
use Rattle.std.specs.Ordering.{is_eq, eq_by_cmp, ordering_then, ordering_reverse}
use Rattle.std.specs.List.{IsDistinct}
use Rattle.std.specs.List.Sorted.{IsStrictlySortedBy}
use Rattle.std.proofs.lemmas.Cmp.{on_total, then_total, nat_cmp_total, nat_list_cmp_total}
use Rattle.etcd_types.specs.declared.key_value.KeyValue.{KeyValue}
use Rattle.etcd_types.specs.declared.kv.SortOrder.{SortOrder}
use Rattle.etcd_types.specs.declared.kv.SortOrder.TheVariants.{Unsorted, Ascend, Descend}
use Rattle.etcd_types.specs.declared.kv.SortTarget.{SortTarget}
use Rattle.etcd_types.specs.declared.kv.SortTarget.TheVariants.{Key, Version, Create, Mod, Value}
use Rattle.etcd_model.specs.Order.{in_order, by_key}
use Rattle.etcd_model.specs.Ranges.{row_cmp, target_cmp}
use Rattle.model_laws.proofs.RecordedLaws.{all_weaker}
use Rattle.model_laws.proofs.RowLaws.{by_key_total}
use Rattle.range_rows.specs.Answering.{ascends_by_key}
use Rattle.model_laws.proofs.SortingLaws.{length-in_order, already_in_order}

-- ---- total orders

target_total : (target : SortTarget) → IsTotalOrder (target_cmp target)
target_total Key = by_key_total
target_total Version = on_total (λ (row : KeyValue). row.version) nat_cmp_total
target_total Create = on_total (λ (row : KeyValue). row.create_revision) nat_cmp_total
target_total Mod = on_total (λ (row : KeyValue). row.mod_revision) nat_cmp_total
target_total Value = on_total (λ (row : KeyValue). row.value) nat_list_cmp_total

reverse_twice : (p : Ordering) → p ≡ ordering_reverse (ordering_reverse p)
reverse_twice Less = refl
reverse_twice Equal = refl
reverse_twice Greater = refl

reversed_is : (p q : Ordering) → ordering_reverse p ≡ q → p ≡ ordering_reverse q
reversed_is p q e = reverse_twice p ∙ ap ordering_reverse e

reversed_total : {X : Type 0} (cmp : X → X → Ordering) → IsTotalOrder cmp → IsTotalOrder (λ x y. ordering_reverse (cmp x y))
reversed_total cmp o = record {
  antisymm = λ x y. ap ordering_reverse (o.antisymm x y);
  trans = λ x y z p q.
      let above : cmp y x ≡ Less = o.antisymm y x ∙ p in
      let far : cmp z y ≡ Less = o.antisymm z y ∙ q in
      sym (o.antisymm z x) ∙ o.trans z y x far above;
  congr = λ x y z p. ap ordering_reverse (o.congr x y z (reversed_is (cmp x y) Equal p));
}

pub row_total : (order : SortOrder) (target : SortTarget) → IsTotalOrder (row_cmp order target)
row_total Unsorted target = then_total (target_total target) by_key_total
row_total Ascend target = then_total (target_total target) by_key_total
row_total Descend target = then_total (reversed_total (target_cmp target) (target_total target)) by_key_total

-- ---- rows of different keys do not tie

tied_after : (p q : Ordering) → is_eq q ≡ false → is_eq (ordering_then p q) ≡ false
tied_after Less q h = refl
tied_after Equal q h = h
tied_after Greater q h = refl

pub apart_by_row : (order : SortOrder) (target : SortTarget) (a b : KeyValue) → eq_by_cmp by_key a b ≡ false → eq_by_cmp (row_cmp order target) a b ≡ false
apart_by_row Unsorted target a b h = tied_after (target_cmp target a b) (by_key a b) h
apart_by_row Ascend target a b h = tied_after (target_cmp target a b) (by_key a b) h
apart_by_row Descend target a b h = tied_after (ordering_reverse (target_cmp target a b)) (by_key a b) h

pub rows_distinct : (order : SortOrder) (target : SortTarget) (rows : List KeyValue) → IsStrictlySortedBy by_key rows → IsDistinct (eq_by_cmp (row_cmp order target)) rows
unfolding IsStrictlySortedBy IsDistinct
rows_distinct order target [] up = tt
rows_distinct order target (row ∷ rows) up = (
  all_weaker (λ z. by_key row z ≡ Less) (λ z. eq_by_cmp (row_cmp order target) row z ≡ false) (λ z less. apart_by_row order target row z (ap is_eq less)) rows up.0,
  rows_distinct order target rows up.1,
)

pub length_rows : (order : SortOrder) (target : SortTarget) (rows : List KeyValue) → IsStrictlySortedBy by_key rows → length (in_order (row_cmp order target) rows) ≡ length rows
length_rows order target rows up = length-in_order (row_cmp order target) (row_total order target) rows (rows_distinct order target rows up)

-- ---- in the order of ascending keys they stand already

twice : (p : Ordering) → p ≡ Less → ordering_then p p ≡ Less
twice p e = ap (λ r. ordering_then r r) e

ascending_then : (rows : List KeyValue) → IsStrictlySortedBy by_key rows → IsStrictlySortedBy (λ a b. ordering_then (by_key a b) (by_key a b)) rows
unfolding IsStrictlySortedBy
ascending_then [] up = tt
ascending_then (row ∷ rows) up = (all_weaker (λ z. by_key row z ≡ Less) (λ z. ordering_then (by_key row z) (by_key row z) ≡ Less) (λ z. twice (by_key row z)) rows up.0, ascending_then rows up.1)

pub rows_in_order : (order : SortOrder) (target : SortTarget) (rows : List KeyValue) → ascends_by_key order target ≡ true → IsStrictlySortedBy by_key rows → in_order (row_cmp order target) rows ≡ rows
rows_in_order Unsorted Key rows e up = already_in_order (row_cmp Unsorted Key) (row_total Unsorted Key) rows (ascending_then rows up)
rows_in_order Ascend Key rows e up = already_in_order (row_cmp Ascend Key) (row_total Ascend Key) rows (ascending_then rows up)
rows_in_order order target rows e up = cc
