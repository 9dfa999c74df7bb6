-- The cells of all records, in the order of their changes.
use Rattle.std.proofs.Common.{◌≡◌, ℕ, ◌+◌, ◌≤◌, List, [], ◌∷◌, length, get_or, Option, Some, None, IsSome, Bool, true, sym, ap, ◌∙◌, refl, subst, arith, inl, inr}
use Rattle.std.specs.Prelude.{nat_le, not, sum_by, option_map}
use Rattle.std.specs.List.{AllByRecursion, cons_option}
use Rattle.std.specs.Str.{bytes_eq}
use Rattle.std.proofs.lemmas.Bool.{le-leb, leb-true, and_parts, and_from}
use Rattle.std.proofs.lemmas.Slice.Eq.{bytes_eq-Decides}
use Rattle.std.proofs.lemmas.List.Filters.{length-filter_both}
use Rattle.std.proofs.lemmas.List.Sums.{sum_by-cons}
use Rattle.etcd_model.specs.Changes.{Recorded, is_up_to, last}
use Rattle.model_laws.specs.Recording.{IsIn}
use Rattle.model_laws.proofs.LastIsLaws.{last_is, last_of_none}
use Rattle.key_index.specs.Links.{Cells, Linked, change_at, IsChained, IsLast, NoneUpTo}
use Rattle.key_index.specs.Index.{AreHeads, AreParted, is_kind}
use Rattle.key_index.specs.Compaction.{held, cost_of, times}
use Rattle.key_index.specs.Order.{AreAll, changes_in, IsInOrder}
use Rattle.key_index.proofs.Links.{not_less, one_linked}
use Rattle.key_index.proofs.Compacted.{change_some}
use Rattle.key_index.proofs.PutOrNot.{other_kind}
use Rattle.key_index.proofs.Times.{times_cases, times_rest, times_here, times_once, few_of}

-- ---- what is in a list

pub all_from_each : {X : Type 0} (P : X → Type 0) (xs : List X) → ((x : X) → IsIn x xs → P x) → AllByRecursion P xs
all_from_each P [] each = tt
all_from_each P (x ∷ xs) each = (each x (inl refl), all_from_each P xs (λ y h. each y (inr h)))

-- ---- a cell and its change

-- a cell has a record or not
pub which : (o : Option Linked) → IsSome o → (e : Linked) × (o ≡ Some e)
which None h = let bad : ⊥ = cc in absurd bad
which (Some e) h = (e, refl)

pub changes_some : (cells : Cells) (c : ℕ) (e : Linked) (cs : List ℕ) → cells c ≡ Some e → changes_in cells (c ∷ cs) ≡ e.change ∷ changes_in cells cs
changes_some cells c e cs at = ap (λ o. cons_option o (changes_in cells cs)) (change_some cells c e at)

pub changes_none : (cells : Cells) (c : ℕ) (cs : List ℕ) → cells c ≡ None → changes_in cells (c ∷ cs) ≡ changes_in cells cs
changes_none cells c cs none = ap (λ (o : Option Linked). cons_option (option_map (λ (e : Linked). e.change) o) (changes_in cells cs)) none

-- where a cell stands in a list, its change is one of the list's
pub change_in : (cells : Cells) (c : ℕ) (e : Linked) (cs : List ℕ) → cells c ≡ Some e → 1 ≤ times c cs → IsIn e.change (changes_in cells cs)
change_in cells c e [] at stands = absurd (omega (arith, stands))
change_in cells c e (x ∷ xs) at stands = elim (times_cases c x xs stands) [
  | inl eq ↦
      let here : cells x ≡ Some e = subst (λ (y : ℕ). cells y ≡ Some e) (sym eq) at in
      subst (IsIn e.change) (sym (changes_some cells x e xs here)) (inl refl)
  | inr rest ↦ later (change_at cells x) (change_in cells c e xs at rest)
]
  where
    later : (o : Option Recorded) → IsIn e.change (changes_in cells xs) → IsIn e.change (cons_option o (changes_in cells xs))
    later None h = h
    later (Some y) h = inr h

-- the cell of a change in a list
pub record HasCell (cells : Cells) (cs : List ℕ) (y : Recorded) : Type 0 where
  pub cell : ℕ
  pub linked : Linked
  pub at : cells cell ≡ Some linked
  pub is : linked.change ≡ y
  pub stands : 1 ≤ times cell cs

-- each change of a list is that of a cell there
pub cell_in : (cells : Cells) (y : Recorded) (cs : List ℕ) → IsIn y (changes_in cells cs) → HasCell cells cs y
cell_in cells y [] h = absurd h
cell_in cells y (c ∷ cs) h = go (cells c) refl (cell_in cells y cs)
  where
    more : HasCell cells cs y → HasCell cells (c ∷ cs) y
    more q = record { cell = q.cell; linked = q.linked; at = q.at; is = q.is; stands = omega (arith, q.stands, times_rest q.cell c cs) }

    go : (o : Option Linked) → cells c ≡ o → (IsIn y (changes_in cells cs) → HasCell cells cs y) → HasCell cells (c ∷ cs) y
    go None none rest = more (rest (subst (IsIn y) (changes_none cells c cs none) h))
    go (Some e) at rest = elim (subst (IsIn y) (changes_some cells c e cs at) h) [
      | inl eq ↦ record { cell = c; linked = e; at = at; is = sym eq; stands = omega (arith, times_here c c cs refl) }
      | inr later ↦ more (rest later)
    ]

-- ---- heads

-- heads are distinct cells, each in the order
pub heads_few : (cells : Cells) (heads order : List ℕ) → AreHeads cells heads → AreAll cells order → length heads ≤ length order
heads_few cells heads order index all = few_of heads order
    (λ c. times_once c heads (λ i j below lt same. (
    let n = index.newest j lt in
    let here : cells (get_or heads i 0) ≡ Some n.0 = subst (λ (x : ℕ). cells x ≡ Some n.0) (sym same) n.1 in
    not_less n.0.change.key n.0.change.key refl (index.sorted i j n.0 n.0 below lt here n.1))))
    (λ i lt. let n = index.newest i lt in omega (arith, all.once (get_or heads i 0) n.0 n.1))

-- and so are those of two lists together
pub parted_few : (cells : Cells) (put : Bool) (these others order : List ℕ) → AreParted cells put these others → AreAll cells order → length these + length others ≤ length order
parted_few cells put these others order parted all =
    let both = length-filter_both (is_kind cells put) (is_kind cells (not put)) (other_kind cells put) parted.heads in
    let few = heads_few cells parted.heads order parted.are all in
    omega (arith, both, few, ap length parted.these_are, ap length parted.others_are)

-- ---- what is last of a key

up_to : (x : Recorded) (key : List ℕ) (r : ℕ) → is_up_to key r x ≡ true → (x.key ≡ key) × (x.revision ≤ r)
up_to x key r h =
    let q = and_parts (bytes_eq x.key key) (nat_le x.revision r) h in
    ((bytes_eq-Decides x.key key).0 q.0, leb-true x.revision r q.1)

pub is_it_up_to : (x : Recorded) (key : List ℕ) (r : ℕ) → x.key ≡ key → x.revision ≤ r → is_up_to key r x ≡ true
is_it_up_to x key r same le = and_from (bytes_eq x.key key) (nat_le x.revision r) ((bytes_eq-Decides x.key key).1 same) (le-leb x.revision r le)

-- the last change of a key among the records is its last among their changes in order
pub last_in_order : (cells : Cells) (order key : List ℕ) (r c : ℕ) (e : Linked) → IsChained cells → AreAll cells order → IsInOrder cells order → IsLast cells key r c → cells c ≡ Some e → last key r (changes_in cells order) ≡ Some e.change
last_in_order cells order key r c e chained all rises found at =
    let same : found.of_key.0 ≡ e = one_linked (cells c) found.of_key.0 e found.of_key.1 at in
    let of : e.change.key ≡ key = ap (λ (x : Linked). x.change.key) (sym same) ∙ found.of_key.2 in
    last_is (changes_in cells order) key r e.change rises
    (change_in cells c e order at (omega (arith, all.once c e at)))
    (is_it_up_to e.change key r of (found.up_to e at))
    (λ w h passes. (
    let q = cell_in cells w order h in
    let p = up_to w key r passes in
    let revision : q.linked.change.revision ≡ w.revision = ap (λ (x : Recorded). x.revision) q.is in
    let le = found.last e at q.cell q.linked q.at (ap (λ (x : Recorded). x.key) q.is ∙ p.0) (omega (arith, revision, p.1)) in
    omega (arith, le, revision)))
    (λ w h key_is revision_is. (
    let q = cell_in cells w order h in
    let one : q.cell ≡ c = chained.unique q.cell c q.linked e q.at at (ap (λ (x : Recorded). x.key) q.is ∙ key_is) (ap (λ (x : Recorded). x.revision) q.is ∙ revision_is) in
    let there : cells c ≡ Some q.linked = subst (λ (x : ℕ). cells x ≡ Some q.linked) one q.at in
    sym q.is ∙ ap (λ (x : Linked). x.change) (one_linked (cells c) q.linked e there at)))

-- where no record of the key is up to a revision, none is last
pub none_in_order : (cells : Cells) (order key : List ℕ) (r : ℕ) → NoneUpTo cells key r → last key r (changes_in cells order) ≡ None
none_in_order cells order key r none = last_of_none (changes_in cells order) key r (λ w h passes. (
    let q = cell_in cells w order h in
    let p = up_to w key r passes in
    let revision : q.linked.change.revision ≡ w.revision = ap (λ (x : Recorded). x.revision) q.is in
    let after = none q.cell q.linked q.at (ap (λ (x : Recorded). x.key) q.is ∙ p.0) in
    omega (arith, after, revision, p.1)))

-- ---- what records cost

-- the records under some cells cost what their changes do
pub held_is : (cost : Recorded → ℕ) (cells : Cells) (cs : List ℕ) → held cost cells cs ≡ sum_by cost (changes_in cells cs)
held_is cost cells [] = refl
held_is cost cells (c ∷ cs) = go (cells c) refl (held_is cost cells cs)
  where
    all : held cost cells (c ∷ cs) ≡ cost_of cost (cells c) + held cost cells cs
    all = sum_by-cons (λ (b : ℕ). cost_of cost (cells b)) c cs

    go : (o : Option Linked) → cells c ≡ o → held cost cells cs ≡ sum_by cost (changes_in cells cs) → held cost cells (c ∷ cs) ≡ sum_by cost (changes_in cells (c ∷ cs))
    go None none rest =
        let nothing : cost_of cost (cells c) ≡ 0 = ap (cost_of cost) none in
        let others = ap (sum_by cost) (changes_none cells c cs none) in
        omega (arith, all, nothing, rest, others)
    go (Some e) at rest =
        let this : cost_of cost (cells c) ≡ cost e.change = ap (cost_of cost) at in
        let others = ap (sum_by cost) (changes_some cells c e cs at) in
        omega (arith, all, this, rest, others, sum_by-cons cost e.change (changes_in cells cs))
