-- Laws of links and of an index.
use Rattle.std.proofs.Common.{◌≡◌, ℕ, ◌+◌, ◌<◌, ◌≤◌, List, length, get_or, Option, Some, None, IfSome, IsSome, Ordering, if◌then◌else◌, ◌==◌, ◌≢◌, sym, ap, ◌∙◌, arith, subst, inl, inr}
use Rattle.std.specs.declared.cmp.Ordering.TheVariants.{Less, Equal, Greater}
use Rattle.std.specs.Option.{is_some}
use Rattle.std.specs.Ordering.{ordering_reverse}
use Rattle.std.proofs.lemmas.Cmp.{nat_list_cmp_total}
use Rattle.std.proofs.lemmas.Bool.{cases_lt}
use Rattle.std.proofs.lemmas.Bool.{cases_eq}
use Rattle.std.proofs.lemmas.Bool.Decides.{nat_tests}
use Rattle.std.proofs.lemmas.List.{get_or_default}
use Rattle.std.proofs.lemmas.Cmp.{tied_itself}
use Rattle.etcd_model.specs.Order.{key_cmp}
use Rattle.etcd_model.proofs.OrderLaws.{tied_keys}
use Rattle.key_index.specs.Links.{Cells, Linked, without, IsChained, IsOfKey, IsNewest}
use Rattle.key_index.specs.Index.{AreHeads, IsSpread, IsGapFor, IsAt}

-- the revision of the record under a cell
abbrev pub revision_of : Option Linked → ℕ
revision_of None = 0
revision_of (Some e) = e.change.revision

abbrev pub revision_at : Cells → ℕ → ℕ
revision_at cells c = revision_of (cells c)

pub less_trans : (a b c : List ℕ) → key_cmp a b ≡ Less → key_cmp b c ≡ Less → key_cmp a c ≡ Less
less_trans a b c p q = nat_list_cmp_total.trans a b c p q

pub greater_from_less : (a b : List ℕ) → key_cmp a b ≡ Less → key_cmp b a ≡ Greater
greater_from_less a b p = nat_list_cmp_total.antisymm b a ∙ ap ordering_reverse p

pub less_from_greater : (a b : List ℕ) → key_cmp a b ≡ Greater → key_cmp b a ≡ Less
less_from_greater a b p = nat_list_cmp_total.antisymm b a ∙ ap ordering_reverse p

-- a key is not less than itself
pub not_less : (a b : List ℕ) → a ≡ b → key_cmp a b ≡ Less → ⊥
not_less a b same less =
    let tied : key_cmp a a ≡ Equal = tied_itself nat_list_cmp_total a in
    let here : key_cmp a a ≡ Less = subst (λ (k : List ℕ). key_cmp a k ≡ Less) (sym same) less in
    cc

-- a cell that has a record has one
pub is_some_from : (o : Option Linked) (e : Linked) → o ≡ Some e → IsSome o
is_some_from o e p = ap is_some p

pub at_linked : (o : Option Linked) (P : Linked → Type 0) (e : Linked) → o ≡ Some e → IfSome o P → P e
at_linked o P e p h = let F : Option Linked → Type 0 = λ x. IfSome x P in subst F p h

-- one cell has one record
pub one_linked : (o : Option Linked) (e f : Linked) → o ≡ Some e → o ≡ Some f → e ≡ f
one_linked o e f p q = cc

-- how the record at a place stands to a key, told of the cell that was read there
pub told : (cells : Cells) (heads key : List ℕ) (m b : ℕ) (o : Ordering) → m < length heads → b ≡ get_or heads m b → IfSome (cells b) (λ e. o ≡ key_cmp e.change.key key) → IfSome (cells (get_or heads m 0)) (λ e. o ≡ key_cmp e.change.key key)
told cells heads key m b o lt is h = subst (λ (x : ℕ). IfSome (cells x) (λ e. o ≡ key_cmp e.change.key key)) (is ∙ get_or_default heads m b 0 lt) h

-- Where the record at m has a smaller key, so have those before it.
pub smaller_up : (cells : Cells) (heads key : List ℕ) (m : ℕ) (o : Ordering) → IsSpread cells heads → m < length heads → IfSome (cells (get_or heads m 0)) (λ e. o ≡ key_cmp e.change.key key) → o ≡ Less
    → (j : ℕ) (e : Linked) → j < m + 1 → cells (get_or heads j 0) ≡ Some e → key_cmp e.change.key key ≡ Less
smaller_up cells heads key m o index lt cmp less j f below at =
    let newest = index.some m lt in
    let e = newest.0 in
    let says : o ≡ key_cmp e.change.key key = at_linked _ (λ x. o ≡ key_cmp x.change.key key) e newest.1 cmp in
    let here : key_cmp e.change.key key ≡ Less = sym says ∙ less in
    elim (cases_lt j m) [
      | inl lower ↦ less_trans f.change.key e.change.key key (index.sorted j m f e lower lt at newest.1) here
      | inr same ↦ let eq : j ≡ m = omega arith in
          let one : f ≡ e = one_linked (cells (get_or heads m 0)) f e (subst (λ (i : ℕ). cells (get_or heads i 0) ≡ Some f) eq at) newest.1 in
          ap (λ (x : Linked). key_cmp x.change.key key) one ∙ here
    ]

-- Where the record at m has a greater key, so have those after it.
pub greater_down : (cells : Cells) (heads key : List ℕ) (m : ℕ) (o : Ordering) → IsSpread cells heads → m < length heads → IfSome (cells (get_or heads m 0)) (λ e. o ≡ key_cmp e.change.key key) → o ≡ Greater
    → (j : ℕ) (e : Linked) → m ≤ j → j < length heads → cells (get_or heads j 0) ≡ Some e → key_cmp e.change.key key ≡ Greater
greater_down cells heads key m o index lt cmp greater j f from below at =
    let newest = index.some m lt in
    let e = newest.0 in
    let says : o ≡ key_cmp e.change.key key = at_linked _ (λ x. o ≡ key_cmp x.change.key key) e newest.1 cmp in
    let here : key_cmp key e.change.key ≡ Less = less_from_greater e.change.key key (sym says ∙ greater) in
    elim (cases_lt m j) [
      | inl higher ↦ greater_from_less key f.change.key (less_trans key e.change.key f.change.key here (index.sorted m j e f higher below newest.1 at))
      | inr same ↦ let eq : j ≡ m = omega arith in
          let one : f ≡ e = one_linked (cells (get_or heads m 0)) f e (subst (λ (i : ℕ). cells (get_or heads i 0) ≡ Some f) eq at) newest.1 in
          ap (λ (x : Linked). key_cmp x.change.key key) one ∙ sym says ∙ greater
    ]

-- where the record at m compares equal, it has the key
pub at_equal : (cells : Cells) (heads key : List ℕ) (m : ℕ) (o : Ordering) → IsSpread cells heads → m < length heads → IfSome (cells (get_or heads m 0)) (λ e. o ≡ key_cmp e.change.key key) → o ≡ Equal → IsOfKey cells key (get_or heads m 0)
at_equal cells heads key m o index lt cmp equal =
    let newest = index.some m lt in
    let says : o ≡ key_cmp newest.0.change.key key = at_linked _ (λ x. o ≡ key_cmp x.change.key key) newest.0 newest.1 cmp in
    (newest.0, newest.1, tied_keys newest.0.change.key key (sym says ∙ equal))

-- a link leads to an earlier revision
pub falls_along : (cells : Cells) → IsChained cells → (c d : ℕ) (e : Linked) → cells c ≡ Some e → IfSome (cells c) (λ e. Some d ≡ e.older) → revision_at cells d < revision_at cells c
falls_along cells chained c d e at older =
    let link : e.older ≡ Some d = sym (at_linked _ (λ x. Some d ≡ x.older) e at older) in
    let next = chained.linked c d e at link in
    rw (at, next.1.at) next.1.earlier

-- what the walk knows goes on along a link
pub goes_on : (cells : Cells) → IsChained cells → (c d head revision now : ℕ) (e : Linked) → cells c ≡ Some e → IsOfKey cells e.change.key head → IfSome (cells c) (λ e. Some d ≡ e.older)
    → IfSome (cells c) (λ e. now ≡ e.change.revision) → revision < now
    → ((b : ℕ) (f : Linked) → cells b ≡ Some f → f.change.key ≡ e.change.key → f.change.revision ≤ revision → f.change.revision ≤ e.change.revision)
    → (x : Linked) × (cells d ≡ Some x) × IsOfKey cells x.change.key head × ((b : ℕ) (f : Linked) → cells b ≡ Some f → f.change.key ≡ x.change.key → f.change.revision ≤ revision → f.change.revision ≤ x.change.revision)
goes_on cells chained c d head revision now e at of older is above bound =
    let link : e.older ≡ Some d = sym (at_linked _ (λ x. Some d ≡ x.older) e at older) in
    let next = chained.linked c d e at link in
    let f = next.0 in
    let later : now ≡ e.change.revision = at_linked _ (λ x. now ≡ x.change.revision) e at is in (
      f,
      next.1.at,
      (of.0, of.1, of.2 ∙ sym next.1.key),
      λ b g has key low.
          next.1.next b g has (key ∙ next.1.key) (omega arith),
    )

pub spread_from_index : (m : Cells) (heads : List ℕ) → AreHeads m heads → IsSpread m heads
spread_from_index m heads index = record { some = λ i lt. ((index.newest i lt).0, (index.newest i lt).1); sorted = index.sorted }

-- a key that has a gap has no record
pub none_from_gap : (m : Cells) (heads key : List ℕ) (i : ℕ) → AreHeads m heads → IsGapFor m heads key i → (c : ℕ) (e : Linked) → m c ≡ Some e → e.change.key ≢ key
none_from_gap m heads key i index gap c e has same =
    let p = index.whole c e has in
    let eq : p.2.0.change.key ≡ key = p.2.2 ∙ same in
    elim (cases_lt p.0 i) [
      | inl below ↦ not_less p.2.0.change.key key eq (gap.smaller_before p.0 p.2.0 below p.2.1)
      | inr above ↦ not_less key p.2.0.change.key (sym eq) (less_from_greater p.2.0.change.key key (gap.greater_after p.0 p.2.0 above p.1 p.2.1))
    ]

-- the record that is found is the newest of its key
pub newest_at : (m : Cells) (heads key : List ℕ) (i c : ℕ) → AreHeads m heads → IsAt m heads key i → c ≡ get_or heads i c → IsNewest m c × IsOfKey m key c
newest_at m heads key i c index at is =
    let eq : get_or heads i 0 ≡ c = sym (is ∙ get_or_default heads i c 0 at.in_range) in
    (subst (λ (x : ℕ). IsNewest m x) eq (index.newest i at.in_range), subst (λ (x : ℕ). IsOfKey m key x) eq at.of_key)

pub if_same : {A : Type 0} (c : ℕ) (x y : A) → (if c == c then x else y) ≡ x
if_same c x y = grind (arith, nat_tests)

pub if_other : {A : Type 0} (b c : ℕ) (x y : A) → b ≢ c → (if b == c then x else y) ≡ y
if_other b c x y differs = grind (arith, nat_tests)

-- what is there without a cell is there, and is not under it
pub without_some : (m : Cells) (c b : ℕ) (e : Linked) → without m c b ≡ Some e → (b ≢ c) × (m b ≡ Some e)
without_some m c b e has = elim (cases_eq b c) [
  | inl same ↦
      let none : without m c b ≡ None = subst (λ (x : ℕ). without m c x ≡ None) (sym same) (if_same c (let o : Option Linked = None in o) (m c)) in
      let bad : ⊥ = cc in absurd bad
  | inr differs ↦ (differs, sym (if_other b c None (m b) differs) ∙ has)
]

pub spread_with : (m : Cells) (c : ℕ) (heads : List ℕ) → AreHeads (without m c) heads → IsSpread m heads
spread_with m c heads index =
    let there : (i : ℕ) (e : Linked) → i < length heads → m (get_or heads i 0) ≡ Some e → without m c (get_or heads i 0) ≡ Some e = λ i e lt has.
    let n = index.newest i lt in
    let same : n.0 ≡ e = one_linked (m (get_or heads i 0)) n.0 e (without_some m c _ n.0 n.1).1 has in
    n.1 ∙ ap (λ (x : Linked). let o : Option Linked = Some x in o) same in
    record {
      some = λ i lt. let n = index.newest i lt in (n.0, (without_some m c _ n.0 n.1).1);
      sorted = λ i j e f below lt has_e has_f. index.sorted i j e f below lt (there i e (omega arith) has_e) (there j f lt has_f);
    }
