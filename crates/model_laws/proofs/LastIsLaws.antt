-- The last change of a key is the one with the greatest revision.
use Rattle.std.proofs.Common.{◌≡◌, suc, ◌≤◌, List, [], ◌∷◌, Bool, true, false, Option, Some, None, if◌then◌else◌, sym, ap, ◌∙◌, subst, arith, inl, inr, ℕ}
use Rattle.std.specs.List.{AllByRecursion, Contains}
use Rattle.std.proofs.lemmas.Option.{cond_some}
use Rattle.etcd_model.specs.Changes.{Recorded, last_by, is_up_to, last, Rises}
use Rattle.model_laws.specs.Recording.{IsIn}
use Rattle.model_laws.proofs.LastLaws.{or_some, or_none, some_or_none, last_passes, cond_none}
use Rattle.model_laws.proofs.KeptLaws.{same_key, up_to_key}

pub all_in : {X : Type 0} (P : X → Type 0) (xs : List X) (q : X) → AllByRecursion P xs → IsIn q xs → P q
all_in P [] q all h = absurd h
all_in P (x ∷ xs) q all h = elim h [ inl e ↦ subst P (sym e) all.0 | inr t ↦ all_in P xs q all.1 t ]

pub contains_from : {X : Type 0} (x : X) (xs : List X) → IsIn x xs → Contains xs x
contains_from x [] h = absurd h
contains_from x (y ∷ ys) h = elim h [
  | inl eq ↦ (0, omega arith, sym eq)
  | inr rest ↦ let c = contains_from x ys rest in (suc c.0, omega (arith, c.1), c.2)
]

pub last_in : {X : Type 0} (p : X → Bool) (xs : List X) (y : X) → last_by p xs ≡ Some y → IsIn y xs
last_in p [] y is = let bad : ⊥ = cc in absurd bad
last_in p (x ∷ xs) y is = elim (or_some (last_by p xs) (if p x then Some x else None) y is) [
  | inl before ↦ inr (last_in p xs y before)
  | inr here ↦ inl (sym (cond_some (p x) x y here.1).1)
]

-- none passes where there is no last
none_passes : {X : Type 0} (p : X → Bool) (xs : List X) (k : X) → last_by p xs ≡ None → IsIn k xs → p k ≡ true → ⊥
none_passes p [] k is h pass = h
none_passes p (x ∷ xs) k is h pass =
    let q = or_none (last_by p xs) (if p x then Some x else None) is in
    elim h [
      | inl e ↦
          let fails : p x ≡ false = cond_none (p x) x q.1 in
          let passed : p x ≡ true = subst (λ z. p z ≡ true) e pass in
          cc (fails, passed)
      | inr t ↦ none_passes p xs k q.0 t pass
    ]

pub last_max : (p : Recorded → Bool) (xs : List Recorded) (y k : Recorded) → Rises xs → last_by p xs ≡ Some y → IsIn k xs → p k ≡ true → k.revision ≤ y.revision
last_max p [] y k rises is h pass = absurd h
last_max p (x ∷ xs) y k rises is h pass = elim (or_some (last_by p xs) (if p x then Some x else None) y is) [
  | inl before ↦ elim h [
    | inl e ↦ let le : x.revision ≤ y.revision = all_in (λ z. x.revision ≤ z.revision) xs y rises.0 (last_in p xs y before) in omega (arith, le, ap (λ (z : Recorded). z.revision) e)
    | inr t ↦ last_max p xs y k rises.1 before t pass
  ]
  | inr here ↦
      let eq : x ≡ y = (cond_some (p x) x y here.1).1 in
      elim h [
        | inl e ↦ omega (arith, ap (λ (z : Recorded). z.revision) e, ap (λ (z : Recorded). z.revision) eq)
        | inr t ↦ absurd (none_passes p xs k here.0 t pass)
      ]
]

pub last_is : (xs : List Recorded) (key : List ℕ) (r : ℕ) (k : Recorded) → Rises xs → IsIn k xs → is_up_to key r k ≡ true
    → ((w : Recorded) → IsIn w xs → is_up_to key r w ≡ true → w.revision ≤ k.revision)
    → ((w : Recorded) → IsIn w xs → w.key ≡ k.key → w.revision ≡ k.revision → w ≡ k)
    → last key r xs ≡ Some k
last_is xs key r k rises h pass greatest once = elim (some_or_none (last key r xs)) [
  | inl none ↦ absurd (none_passes (is_up_to key r) xs k none h pass)
  | inr y ↦
      let there = last_in (is_up_to key r) xs y.0 y.1 in
      let passes = last_passes (is_up_to key r) xs y.0 y.1 in
      let up = last_max (is_up_to key r) xs y.0 k rises y.1 h pass in
      let down = greatest y.0 there passes in
      let one : y.0 ≡ k = once y.0 there (same_key y.0.key key (up_to_key key r y.0 passes) ∙ sym (same_key k.key key (up_to_key key r k pass))) (omega (arith, up, down)) in
      y.1 ∙ ap (λ (z : Recorded). let o : Option Recorded = Some z in o) one
]

pub last_of_none : (xs : List Recorded) (key : List ℕ) (r : ℕ) → ((w : Recorded) → IsIn w xs → is_up_to key r w ≡ true → ⊥) → last key r xs ≡ None
last_of_none xs key r never = elim (some_or_none (last key r xs)) [
  | inl none ↦ none
  | inr y ↦ absurd (never y.0 (last_in (is_up_to key r) xs y.0 y.1) (last_passes (is_up_to key r) xs y.0 y.1))
]
