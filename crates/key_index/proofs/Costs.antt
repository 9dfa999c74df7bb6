-- What records cost, and what is free.
use Rattle.std.proofs.Common.{◌≡◌, ◌≢◌, ℕ, ◌+◌, List, [], ◌∷◌, Option, Some, None, option_map, if◌then◌else◌, ◌==◌, sym, ap, ◌∙◌, refl, subst, arith, inl, inr}
use Rattle.std.proofs.lemmas.Bool.{cases_eq}
use Rattle.std.proofs.lemmas.List.Sums.{sum_by-cons}
use Rattle.etcd_model.specs.Changes.{Recorded}
use Rattle.key_index.specs.Links.{Cells, Linked, without, with_link, with_older}
use Rattle.key_index.specs.Compaction.{cost_of, held, times, EachOnce, GivesBack}
use Rattle.key_index.proofs.Links.{if_same, if_other}

-- a cell with a record had one
abbrev pub Within : Cells → Cells → Type 0
Within new old = (c : ℕ) (e : Linked) → new c ≡ Some e → (f : Linked) × (old c ≡ Some f)

pub once_within : (new old : Cells) (cs : List ℕ) → Within new old → EachOnce old cs → EachOnce new cs
once_within new old cs within once c e has = let f = within c e has in once c f.0 f.1

module _ (cost : Recorded → ℕ) (m : Cells) (c : ℕ) where
  here : (x : ℕ) → x ≡ c → cost_of cost (without m c x) ≡ 0
  here x eq = ap (cost_of cost) (subst (λ (y : ℕ). without m c y ≡ None) (sym eq) (if_same c None (m c)))

  there : (x : ℕ) → x ≢ c → cost_of cost (without m c x) ≡ cost_of cost (m x)
  there x differs = ap (cost_of cost) (if_other x c None (m x) differs)

  one_here : (x : ℕ) → x ≡ c → ◌≡◌ {A = ℕ} (if x == c then 1 else 0) 1
  one_here x eq = subst (λ (y : ℕ). ◌≡◌ {A = ℕ} (if y == c then 1 else 0) 1) (sym eq) (if_same {A = ℕ} c 1 0)

  none_there : (x : ℕ) → x ≢ c → ◌≡◌ {A = ℕ} (if x == c then 1 else 0) 0
  none_there x differs = if_other {A = ℕ} x c 1 0 differs

  -- without a cell that isn't among them they cost the same
  held_without_none : (cs : List ℕ) → times c cs ≡ 0 → held cost (without m c) cs ≡ held cost m cs
  held_without_none [] none = refl
  held_without_none (x ∷ xs) none =
      let counted = sum_by-cons (λ (b : ℕ). let n : ℕ = if b == c then 1 else 0 in n) x xs in
      let now = sum_by-cons (λ (b : ℕ). cost_of cost (without m c b)) x xs in
      let before = sum_by-cons (λ (b : ℕ). cost_of cost (m b)) x xs in
      elim (cases_eq x c) [
        | inl eq ↦ let one = one_here x eq in absurd (omega (arith, counted, one, none))
        | inr differs ↦
            let zero = none_there x differs in
            let same = there x differs in
            let rest = held_without_none xs (omega (arith, counted, zero, none)) in
            omega (arith, now, before, same, rest)
      ]

  -- without one that stands among them once they cost as much less
  pub held_without : (cs : List ℕ) → times c cs ≡ 1 → held cost (without m c) cs + cost_of cost (m c) ≡ held cost m cs
  held_without [] once = absurd (omega (arith, once))
  held_without (x ∷ xs) once =
      let counted = sum_by-cons (λ (b : ℕ). let n : ℕ = if b == c then 1 else 0 in n) x xs in
      let now = sum_by-cons (λ (b : ℕ). cost_of cost (without m c b)) x xs in
      let before = sum_by-cons (λ (b : ℕ). cost_of cost (m b)) x xs in
      elim (cases_eq x c) [
        | inl eq ↦
            let one = one_here x eq in
            let gone = here x eq in
            let was : cost_of cost (m x) ≡ cost_of cost (m c) = ap (λ (y : ℕ). cost_of cost (m y)) eq in
            let rest = held_without_none xs (omega (arith, counted, one, once)) in
            omega (arith, now, before, gone, was, rest)
        | inr differs ↦
            let zero = none_there x differs in
            let same = there x differs in
            let rest = held_without xs (omega (arith, counted, zero, once)) in
            omega (arith, now, before, same, rest)
      ]

module _ (cost : Recorded → ℕ) (m : Cells) (c : ℕ) (o : Option ℕ) where
  same_cost : (q : Option Linked) → cost_of cost (option_map (with_older o) q) ≡ cost_of cost q
  same_cost None = refl
  same_cost (Some e) = refl

  linked_cost : (x : ℕ) → cost_of cost (with_link m c o x) ≡ cost_of cost (m x)
  linked_cost x = elim (cases_eq x c) [
    | inl eq ↦ subst (λ (y : ℕ). cost_of cost (with_link m c o y) ≡ cost_of cost (m y)) (sym eq) (ap (cost_of cost) (if_same c (option_map (with_older o) (m c)) (m c)) ∙ same_cost (m c))
    | inr differs ↦ ap (cost_of cost) (if_other x c (option_map (with_older o) (m x)) (m x) differs)
  ]

  -- a link costs nothing
  held_linked : (cs : List ℕ) → held cost (with_link m c o) cs ≡ held cost m cs
  held_linked [] = refl
  held_linked (x ∷ xs) =
      let now = sum_by-cons (λ (b : ℕ). cost_of cost (with_link m c o b)) x xs in
      let before = sum_by-cons (λ (b : ℕ). cost_of cost (m b)) x xs in
      let same = linked_cost x in
      let rest = held_linked xs in
      omega (arith, now, before, same, rest)

module _ (cost : Recorded → ℕ) (old mid : Cells) (f0 f1 : ℕ) (gives : GivesBack cost old mid f0 f1) where
  -- one more goes
  pub gives_drop : (c : ℕ) (e : Linked) (f2 : ℕ) → mid c ≡ Some e → Within mid old → f2 ≡ f1 + cost_of cost (mid c) → GivesBack cost old (without mid c) f0 f2
  gives_drop c e f2 at within free cs once =
      let h1 = gives cs once in
      let was = within c e at in
      let h2 = held_without cost mid c cs (once c was.0 was.1) in
      omega (arith, h1, h2, free)

  -- a link is set
  pub gives_link : (c : ℕ) (o : Option ℕ) (f2 : ℕ) → f2 ≡ f1 → GivesBack cost old (with_link mid c o) f0 f2
  gives_link c o f2 free cs once =
      let h1 = gives cs once in
      let h2 = held_linked cost mid c o cs in
      omega (arith, h1, h2, free)

  -- one step after another
  pub gives_then : (new : Cells) (f2 : ℕ) → Within mid old → GivesBack cost mid new f1 f2 → GivesBack cost old new f0 f2
  gives_then new f2 within more cs once =
      let h1 = gives cs once in
      let h2 = more cs (once_within mid old cs within once) in
      omega (arith, h1, h2)

pub gives_nothing : (cost : Recorded → ℕ) (m : Cells) (f : ℕ) → GivesBack cost m m f f
gives_nothing cost m f cs once = refl
