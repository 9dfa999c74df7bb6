-- What is kept of records is what the definition keeps of a list.
use Rattle.std.proofs.Common.{◌≡◌, ℕ, zero, suc, ◌<◌, ◌≤◌, List, [], ◌∷◌, length, Some, Bool, true, is_some, sym, ap, ◌∙◌, subst, arith, inl, inr}
use Rattle.std.specs.Prelude.{not, ◌&&◌, nat_le, slice_index_or}
use Rattle.std.specs.List.{list_any, AllByRecursion}
use Rattle.std.specs.Str.{bytes_eq}
use Rattle.std.proofs.lemmas.Bool.{cases_Bool, cases_lt, le-leb, leb-true, and_parts, and_from, or_left, or_right, or_cases, not_from_false, not_from_true, true≢false}
use Rattle.std.proofs.lemmas.Slice.Eq.{bytes_eq-Decides}
use Rattle.etcd_model.specs.Changes.{Recorded, is_up_to, keeps}
use Rattle.key_index.specs.Links.{Cells, Linked, change_at}
use Rattle.key_index.specs.Compaction.{IsKept, HasLater, KeptAsDefined}
use Rattle.key_index.proofs.Compacted.{linked_some}

-- a test that an element passes finds one
any_at : (p : Recorded → Bool) (xs : List Recorded) (k : ℕ) (x : Recorded) → k < length xs → slice_index_or xs k x ≡ x → p x ≡ true → list_any p xs ≡ true
any_at p [] k x lt is px = absurd (omega (arith, lt))
any_at p (y ∷ ys) zero x lt is px = let here : p y ≡ true = subst (λ (z : Recorded). p z ≡ true) (sym is) px in grind (arith, here)
any_at p (y ∷ ys) (suc k) x lt is px = let rest = any_at p ys k x (omega (arith, lt)) is px in grind (arith, rest)

-- and the one that it finds is one of them
found : (p : Recorded → Bool) (P : Recorded → Type 0) (xs : List Recorded) → AllByRecursion P xs → list_any p xs ≡ true → (y : Recorded) × (p y ≡ true) × P y
found p P [] all any = let bad : ⊥ = cc in absurd bad
found p P (x ∷ xs) all any = elim (cases_Bool (p x)) [
  | inl here ↦ (x, here, all.0)
  | inr other ↦ found p P xs all.1 (let rest : list_any p xs ≡ true = grind (arith, other, any) in rest)
]

module _ (cells : Cells) (revision : ℕ) (x : Recorded) (later : List Recorded) (has : HasLater cells x later) where
  -- another change of the key up to the revision would be later, and not of a record
  none_later : ((b : ℕ) (g : Linked) → cells b ≡ Some g → g.change.key ≡ x.key → g.change.revision ≤ revision → g.change.revision ≤ x.revision) → list_any (is_up_to x.key revision) later ≡ true → ⊥
  none_later none any =
      let f = found (is_up_to x.key revision) (λ y. y.key ≡ x.key → (x.revision < y.revision) × ((c : ℕ) × (change_at cells c ≡ Some y))) later has.only any in
      let tests = and_parts (bytes_eq f.0.key x.key) (nat_le f.0.revision revision) f.1 in
      let key : f.0.key ≡ x.key = (bytes_eq-Decides f.0.key x.key).0 tests.0 in
      let up_to : f.0.revision ≤ revision = leb-true f.0.revision revision tests.1 in
      let there = f.2 key in
      let e = linked_some cells there.1.0 f.0 there.1.1 in
      let is : e.0.change.revision ≡ f.0.revision = ap (λ (y : Recorded). y.revision) e.2 in
      let at_most = none there.1.0 e.0 e.1 (ap (λ (y : Recorded). y.key) e.2 ∙ key) (omega (arith, is, up_to)) in
      omega (arith, at_most, is, there.0)

  some_later : (b : ℕ) (g : Linked) → cells b ≡ Some g → g.change.key ≡ x.key → g.change.revision ≤ revision → x.revision < g.change.revision → list_any (is_up_to x.key revision) later ≡ true
  some_later b g at key low after =
      let c = has.there b g at key after in
      any_at (is_up_to x.key revision) later c.0 g.change c.1 c.2 (and_from (bytes_eq g.change.key x.key) (nat_le g.change.revision revision) ((bytes_eq-Decides g.change.key x.key).1 key) (le-leb g.change.revision revision low))

  to_keeps : IsKept cells revision x → keeps revision x later ≡ true
  to_keeps kept = elim kept [
    | inl from ↦ or_left (nat_le revision x.revision) (is_some x.row && not (list_any (is_up_to x.key revision) later)) (le-leb revision x.revision from)
    | inr p ↦ elim (cases_Bool (list_any (is_up_to x.key revision) later)) [
      | inl any ↦ absurd (none_later p.1 any)
      | inr none ↦ or_right (nat_le revision x.revision) (is_some x.row && not (list_any (is_up_to x.key revision) later)) (and_from (is_some x.row) (not (list_any (is_up_to x.key revision) later)) p.0 (not_from_false (list_any (is_up_to x.key revision) later) none))
    ]
  ]

  from_keeps : keeps revision x later ≡ true → IsKept cells revision x
  from_keeps is = elim (or_cases (nat_le revision x.revision) (is_some x.row && not (list_any (is_up_to x.key revision) later)) is) [
    | inl from ↦ inl (leb-true revision x.revision from)
    | inr p ↦
        let q = and_parts (is_some x.row) (not (list_any (is_up_to x.key revision) later)) p in
        inr (
          q.0,
          λ b g at key low. elim (cases_lt x.revision g.change.revision) [
            | inl after ↦ absurd (true≢false (sym q.1 ∙ not_from_true (list_any (is_up_to x.key revision) later) (some_later b g at key low after)))
            | inr ge ↦ ge
          ],
        )
  ]

pub kept_as_defined : KeptAsDefined
kept_as_defined cells revision x later has = (to_keeps cells revision x later has, from_keeps cells revision x later has)
