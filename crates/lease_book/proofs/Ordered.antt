-- One in its place among some that strictly ascend.
use Rattle.std.proofs.Common.{◌≡◌, ℕ, suc, ◌+◌, ◌<◌, ◌≤◌, List, [], ◌∷◌, length, get_or, set, refl, sym, ap, subst, ◌∙◌, arith, inl, inr, ◌⊎◌}
use Rattle.std.specs.Prelude.{Bool, true, false, not, cond, filter}
use Rattle.std.specs.Cmp.{IsTotalOrder}
use Rattle.std.specs.List.{AllByRecursion, prefix_len, insert, remove}
use Rattle.std.specs.List.Sorted.{IsStrictlySortedBy}
use Rattle.std.specs.Ordering.{is_eq, is_lt, ordering_reverse}
use Rattle.std.specs.declared.cmp.Ordering.{Ordering}
use Rattle.std.specs.declared.cmp.Ordering.TheVariants.{Less, Equal, Greater}
use Rattle.etcd_model.specs.Order.{beside, put_in}
use Rattle.etcd_model.proofs.OrderLaws.{below_less, below_tied}
use Rattle.chunk_list.proofs.Turning.{IsFailing}

module _ {X : Type 0} (cmp : X → X → Ordering) (total : IsTotalOrder cmp) (x : X) where
  abbrev comes : X → Bool
  comes y = is_lt (cmp y x)

  abbrev others : List X → List X
  others ys = filter (λ y. not (is_eq (cmp y x))) ys

  -- one that ties stands at a position
  pub record IsTied (ys : List X) (n : ℕ) : Type 0 where
    pub place : n < length ys
    pub same : (d : X) → cmp (get_or ys n d) x ≡ Equal
    pub put : put_in cmp ys x ≡ set ys n x
    pub gone : others ys ≡ remove ys n

  -- none ties, and x would go to a position
  pub record IsUntied (ys : List X) (n : ℕ) : Type 0 where
    pub place : n ≤ length ys
    pub other : (d : X) → n < length ys → cmp (get_or ys n d) x ≡ Greater
    pub put : put_in cmp ys x ≡ insert ys n x
    pub gone : others ys ≡ ys

  abbrev Place : List X → ℕ → Type 0
  Place ys n = IsTied ys n ⊎ IsUntied ys n

  after : (z : X) → cmp x z ≡ Less → cmp z x ≡ Greater
  after z h = total.antisymm z x ∙ ap ordering_reverse h

  others_stay : (ys : List X) → AllByRecursion (λ z. cmp x z ≡ Less) ys → others ys ≡ ys
  others_stay [] all = refl
  others_stay (z ∷ zs) all = ap (λ o. cond (not (is_eq o)) (z ∷ others zs) (others zs)) (after z all.0) ∙ ap (λ ws. z ∷ ws) (others_stay zs all.1)

  all_kept : (p : X → Bool) (ys : List X) → AllByRecursion (λ z. cmp x z ≡ Less) ys → AllByRecursion (λ z. cmp x z ≡ Less) (filter p ys)
  all_kept p [] all = tt
  all_kept p (z ∷ zs) all = elim (p z) as (λ b. AllByRecursion (λ w. cmp x w ≡ Less) (cond b (z ∷ filter p zs) (filter p zs))) [
    | true ↦ (all.0, all_kept p zs all.1)
    | false ↦ all_kept p zs all.1
  ]

  none_comes : (ys : List X) → AllByRecursion (λ z. cmp x z ≡ Less) ys → AllByRecursion (λ z. comes z ≡ false) ys
  none_comes [] all = tt
  none_comes (z ∷ zs) all = (ap is_lt (after z all.0), none_comes zs all.1)

  -- what comes after one that does not come before x comes after x
  above : (y : X) (ys : List X) (o : Ordering) → cmp y x ≡ o → is_lt o ≡ false → AllByRecursion (λ z. cmp y z ≡ Less) ys → AllByRecursion (λ z. cmp x z ≡ Less) ys
  above y ys Less e fails all = let bad : ⊥ = cc in absurd bad
  above y ys Equal e fails all = below_tied cmp total x y (total.antisymm x y ∙ ap ordering_reverse e) ys all
  above y ys Greater e fails all = below_less cmp total x y (total.antisymm x y ∙ ap ordering_reverse e) ys all

  pub failing : (ys : List X) → IsStrictlySortedBy cmp ys → IsFailing comes ys
  unfolding IsStrictlySortedBy
  failing [] up = tt
  failing (y ∷ ys) up = (λ fails. none_comes ys (above y ys (cmp y x) refl fails up.0), failing ys up.1)

  module _ (y : X) (ys : List X) where
    later : (n : ℕ) → cmp y x ≡ Less → Place ys n → Place (y ∷ ys) (suc n)
    later n e (inl h) = inl (record {
      place = omega (arith, h.place);
      same = h.same;
      put = ap (λ o. beside o x y ys (put_in cmp ys x)) (total.antisymm x y ∙ ap ordering_reverse e) ∙ ap (λ zs. y ∷ zs) h.put;
      gone = ap (λ o. cond (not (is_eq o)) (y ∷ others ys) (others ys)) e ∙ ap (λ zs. y ∷ zs) h.gone;
    })
    later n e (inr g) = inr (record {
      place = omega (arith, g.place);
      other = λ d lt. g.other d (omega (arith, lt));
      put = ap (λ o. beside o x y ys (put_in cmp ys x)) (total.antisymm x y ∙ ap ordering_reverse e) ∙ ap (λ zs. y ∷ zs) g.put;
      gone = ap (λ o. cond (not (is_eq o)) (y ∷ others ys) (others ys)) e ∙ ap (λ zs. y ∷ zs) g.gone;
    })

    first : cmp y x ≡ Equal → AllByRecursion (λ z. cmp y z ≡ Less) ys → IsTied (y ∷ ys) 0
    first e all = record {
      place = omega arith;
      same = λ d. e;
      put = ap (λ o. beside o x y ys (put_in cmp ys x)) (total.antisymm x y ∙ ap ordering_reverse e);
      gone = ap (λ o. cond (not (is_eq o)) (y ∷ others ys) (others ys)) e ∙ others_stay ys (above y ys Equal e refl all);
    }

    before : cmp y x ≡ Greater → AllByRecursion (λ z. cmp y z ≡ Less) ys → IsUntied (y ∷ ys) 0
    before e all = record {
      place = omega arith;
      other = λ d lt. e;
      put = ap (λ o. beside o x y ys (put_in cmp ys x)) (total.antisymm x y ∙ ap ordering_reverse e);
      gone = ap (λ o. cond (not (is_eq o)) (y ∷ others ys) (others ys)) e ∙ ap (λ zs. y ∷ zs) (others_stay ys (above y ys Greater e refl all));
    }

  pub stands : (ys : List X) → IsStrictlySortedBy cmp ys → IsTied ys (prefix_len comes ys) ⊎ IsUntied ys (prefix_len comes ys)
  unfolding IsStrictlySortedBy
  stands [] up = inr (record { place = omega arith; other = λ d lt. absurd (omega (arith, lt)); put = refl; gone = refl })
  stands (y ∷ ys) up = elim (cmp y x) as (λ o. cmp y x ≡ o → Place (y ∷ ys) (cond (is_lt o) (1 + prefix_len comes ys) 0)) [
    | Less ↦ λ e. let next : suc (prefix_len comes ys) ≡ 1 + prefix_len comes ys = omega arith in subst (Place (y ∷ ys)) next (later y ys (prefix_len comes ys) e (stands ys up.1))
    | Equal ↦ λ e. inl (first y ys e up.0)
    | Greater ↦ λ e. inr (before y ys e up.0)
  ] refl

  -- ---- a filter over a list with x in its place

  first_in : (ys : List X) → AllByRecursion (λ z. cmp x z ≡ Less) ys → put_in cmp ys x ≡ x ∷ ys
  first_in [] all = refl
  first_in (z ∷ zs) all = ap (λ o. beside o x z zs (put_in cmp zs x)) all.0

  put_with : (p : X → Bool) (y : X) (ys zs : List X) → cmp x y ≡ Greater → filter p zs ≡ cond (p x) (put_in cmp ys x) ys → (b c : Bool) → p x ≡ b → cond c (y ∷ filter p zs) (filter p zs) ≡ cond b (put_in cmp (cond c (y ∷ ys) ys) x) (cond c (y ∷ ys) ys)
  put_with p y ys zs e rest true true is = ap (λ ws. y ∷ ws) (rest ∙ ap (λ b. cond b (put_in cmp ys x) ys) is) ∙ sym (ap (λ o. beside o x y ys (put_in cmp ys x)) e)
  put_with p y ys zs e rest true false is = rest ∙ ap (λ b. cond b (put_in cmp ys x) ys) is
  put_with p y ys zs e rest false true is = ap (λ ws. y ∷ ws) (rest ∙ ap (λ b. cond b (put_in cmp ys x) ys) is)
  put_with p y ys zs e rest false false is = rest ∙ ap (λ b. cond b (put_in cmp ys x) ys) is

  -- those that pass, with x in its place: what tied with x is gone, whether it passed or not
  pub filter_put : (p : X → Bool) (ys : List X) → IsStrictlySortedBy cmp ys → filter p (put_in cmp ys x) ≡ cond (p x) (put_in cmp (filter p (others ys)) x) (filter p (others ys))
  unfolding IsStrictlySortedBy
  filter_put p [] up = refl
  filter_put p (y ∷ ys) up = elim (cmp y x) as (λ o. cmp y x ≡ o → filter p (put_in cmp (y ∷ ys) x) ≡ cond (p x) (put_in cmp (filter p (cond (not (is_eq o)) (y ∷ others ys) (others ys))) x) (filter p (cond (not (is_eq o)) (y ∷ others ys) (others ys)))) [
    | Less ↦ λ e.
        let later : cmp x y ≡ Greater = total.antisymm x y ∙ ap ordering_reverse e in
        ap (λ o. filter p (beside o x y ys (put_in cmp ys x))) later
        ∙ put_with p y (filter p (others ys)) (put_in cmp ys x) later (filter_put p ys up.1) (p x) (p y) refl
    | Equal ↦ λ e.
        let all = above y ys Equal e refl up.0 in
        let tied : cmp x y ≡ Equal = total.antisymm x y ∙ ap ordering_reverse e in
        ap (λ o. filter p (beside o x y ys (put_in cmp ys x))) tied
        ∙ sym (ap (λ zs. cond (p x) zs (filter p ys)) (first_in (filter p ys) (all_kept p ys all)))
        ∙ sym (ap (λ zs. cond (p x) (put_in cmp (filter p zs) x) (filter p zs)) (others_stay ys all))
    | Greater ↦ λ e.
        let all = above y ys Greater e refl up.0 in
        let less : cmp x y ≡ Less = total.antisymm x y ∙ ap ordering_reverse e in
        ap (λ o. filter p (beside o x y ys (put_in cmp ys x))) less
        ∙ sym (ap (λ zs. cond (p x) zs (filter p (y ∷ ys))) (first_in (filter p (y ∷ ys)) (all_kept p (y ∷ ys) (less, all))))
        ∙ sym (ap (λ zs. cond (p x) (put_in cmp (filter p (y ∷ zs)) x) (filter p (y ∷ zs))) (others_stay ys all))
  ] refl

  -- what ties with x gives way, so it may as well go before
  pub put_over : (ys : List X) → IsStrictlySortedBy cmp ys → put_in cmp ys x ≡ put_in cmp (others ys) x
  unfolding IsStrictlySortedBy
  put_over [] up = refl
  put_over (y ∷ ys) up = elim (cmp y x) as (λ o. cmp y x ≡ o → put_in cmp (y ∷ ys) x ≡ put_in cmp (cond (not (is_eq o)) (y ∷ others ys) (others ys)) x) [
    | Less ↦ λ e.
        let later : cmp x y ≡ Greater = total.antisymm x y ∙ ap ordering_reverse e in
        ap (λ o. beside o x y ys (put_in cmp ys x)) later
        ∙ ap (λ zs. y ∷ zs) (put_over ys up.1)
        ∙ sym (ap (λ o. beside o x y (others ys) (put_in cmp (others ys) x)) later)
    | Equal ↦ λ e.
        let all = above y ys Equal e refl up.0 in
        let tied : cmp x y ≡ Equal = total.antisymm x y ∙ ap ordering_reverse e in
        ap (λ o. beside o x y ys (put_in cmp ys x)) tied
        ∙ sym (ap (λ zs. put_in cmp zs x) (others_stay ys all) ∙ first_in ys all)
    | Greater ↦ λ e. ap (λ zs. put_in cmp (y ∷ zs) x) (sym (others_stay ys (above y ys Greater e refl up.0)))
  ] refl
