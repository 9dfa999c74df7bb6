-- The lease that ends first.
use Rattle.std.proofs.Common.{◌≡◌, List, [], ◌∷◌, refl, ap, ◌∙◌, sym, subst, inl, inr, ◌⊎◌, ℕ}
use Rattle.std.specs.Prelude.{Bool, true, false, cond, fold, filter, nat_le}
use Rattle.std.specs.List.{AllByRecursion}
use Rattle.std.specs.Ordering.{ordering_reverse}
use Rattle.std.specs.declared.cmp.Ordering.TheVariants.{Less, Equal, Greater}
use Rattle.std.proofs.lemmas.Cmp.{tied_itself}
use Rattle.etcd_model.specs.declared.state.Lease.{Lease}
use Rattle.etcd_model.specs.Order.{beside, put_in, in_order}
use Rattle.etcd_model.specs.Leases.{end_cmp, run_out}
use Rattle.model_laws.specs.Recording.{IsIn}
use Rattle.model_laws.proofs.LeaseLaws.{end_cmp_total, put_first}

-- ---- members that pass

each_due : (P : Lease → Type 0) (p : Lease → Bool) (ls : List Lease) → ((l : Lease) → IsIn l ls → p l ≡ true → P l) → AllByRecursion P (filter p ls)
each_due P p [] h = tt
each_due P p (l ∷ ls) h = step (each_due P p ls (λ x there. h x (inr there))) (p l) refl
  where
    step : AllByRecursion P (filter p ls) → (b : Bool) → p l ≡ b → AllByRecursion P (cond b (l ∷ filter p ls) (filter p ls))
    step rest true e = (h l (inl refl) e, rest)
    step rest false e = rest

due_in : (p : Lease → Bool) (ls : List Lease) (x : Lease) → IsIn x ls → p x ≡ true → IsIn x (filter p ls)
due_in p [] x there h = there
due_in p (l ∷ ls) x there h = elim there [
  | inl here ↦ subst (λ b. IsIn x (cond b (l ∷ filter p ls) (filter p ls))) (sym (ap p (sym here) ∙ h)) (inl here)
  | inr later ↦ more (p l) (due_in p ls x later h)
]
  where
    more : (b : Bool) → IsIn x (filter p ls) → IsIn x (cond b (l ∷ filter p ls) (filter p ls))
    more true t = inr t
    more false t = t

none_due : (p : Lease → Bool) (ls : List Lease) → ((l : Lease) → IsIn l ls → p l ≡ false) → filter p ls ≡ []
none_due p [] h = refl
none_due p (l ∷ ls) h = ap (λ b. cond b (l ∷ filter p ls) (filter p ls)) (h l (inl refl)) ∙ none_due p ls (λ x there. h x (inr there))

pub run_out_none : (moment : ℕ) (leases : List Lease) → ((l : Lease) → IsIn l leases → nat_le l.end moment ≡ false) → run_out moment leases ≡ []
run_out_none moment leases h = ap (in_order end_cmp) (none_due (λ l. nat_le l.end moment) leases h)

-- ---- the least of some comes first

module _ (x : Lease) where
  -- the list has x first, or all of it comes after x
  abbrev HasFirst : List Lease → Type 0
  HasFirst ys = (rest : List Lease) × (ys ≡ x ∷ rest)

  abbrev IsAfter : List Lease → Type 0
  IsAfter ys = AllByRecursion (λ y. end_cmp x y ≡ Less) ys

  after_put : (y : Lease) (ys : List Lease) → end_cmp x y ≡ Less → IsAfter ys → IsAfter (put_in end_cmp ys y)
  after_put y [] e all = (e, tt)
  after_put y (z ∷ zs) e all = elim (end_cmp y z) as (λ o. IsAfter (beside o y z zs (put_in end_cmp zs y))) [
    | Less ↦ (e, all)
    | Equal ↦ (e, all.1)
    | Greater ↦ (all.0, after_put y zs e all.1)
  ]

  -- x goes before what comes after it
  first_put : (ys : List Lease) → IsAfter ys → HasFirst (put_in end_cmp ys x)
  first_put ys all = (ys, put_first end_cmp x ys all)

  stays_first : (y : Lease) (rest : List Lease) → (y ≡ x) ⊎ (end_cmp x y ≡ Less) → HasFirst (put_in end_cmp (x ∷ rest) y)
  stays_first y rest (inl is) = (rest, ap (λ z. put_in end_cmp (x ∷ rest) z) is ∙ ap (λ o. beside o x x rest (put_in end_cmp rest x)) (tied_itself end_cmp_total x))
  stays_first y rest (inr later) = (put_in end_cmp rest y, ap (λ o. beside o y x rest (put_in end_cmp rest y)) (end_cmp_total.antisymm y x ∙ ap ordering_reverse later))

  keeps_first : (xs ys : List Lease) → AllByRecursion (λ y. (y ≡ x) ⊎ (end_cmp x y ≡ Less)) xs → HasFirst ys → HasFirst (fold (put_in end_cmp) ys xs)
  keeps_first [] ys all has = has
  keeps_first (y ∷ xs) ys all has = keeps_first xs (put_in end_cmp ys y) all.1 (subst (λ zs. HasFirst (put_in end_cmp zs y)) (sym has.1) (stays_first y has.0 all.0))

  comes_first : (xs ys : List Lease) → AllByRecursion (λ y. (y ≡ x) ⊎ (end_cmp x y ≡ Less)) xs → IsIn x xs → IsAfter ys → HasFirst (fold (put_in end_cmp) ys xs)
  comes_first [] ys all there after = absurd there
  comes_first (y ∷ xs) ys all there after = elim all.0 [
    | inl is ↦ keeps_first xs (put_in end_cmp ys y) all.1 (subst (λ z. HasFirst (put_in end_cmp ys z)) (sym is) (first_put ys after))
    | inr later ↦ elim there [
      | inl here ↦ keeps_first xs (put_in end_cmp ys y) all.1 (subst (λ z. HasFirst (put_in end_cmp ys z)) here (first_put ys after))
      | inr rest ↦ comes_first xs (put_in end_cmp ys y) all.1 rest (after_put y ys later after)
    ]
  ]

pub run_out_first : (moment : ℕ) (leases : List Lease) (first : Lease) → IsIn first leases → nat_le first.end moment ≡ true
    → ((l : Lease) → IsIn l leases → nat_le l.end moment ≡ true → (l ≡ first) ⊎ (end_cmp first l ≡ Less))
    → (rest : List Lease) × (run_out moment leases ≡ first ∷ rest)
run_out_first moment leases first there due least =
    let p : Lease → Bool = λ l. nat_le l.end moment in
    comes_first first (filter p leases) [] (each_due (λ l. (l ≡ first) ⊎ (end_cmp first l ≡ Less)) p leases least) (due_in p leases first there due) tt
