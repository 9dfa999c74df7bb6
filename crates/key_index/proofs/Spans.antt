-- The places of the keys of an interval.
use Rattle.std.proofs.Common.{◌≡◌, ℕ, ◌+◌, ◌<◌, ◌≤◌, List, [], ◌∷◌, length, get_or, Some, Bool, true, false, refl, sym, ap, ◌∙◌, arith, subst, inl, inr}
use Rattle.std.specs.Prelude.{not, ◌||◌}
use Rattle.std.specs.declared.cmp.Ordering.{Ordering}
use Rattle.std.specs.declared.cmp.Ordering.TheVariants.{Less, Equal, Greater}
use Rattle.std.specs.Ordering.{ordering_reverse, is_lt, is_le}
use Rattle.std.specs.Str.{bytes_eq}
use Rattle.std.proofs.lemmas.Bool.{cases_lt, cases_order, and_parts, and_from}
use Rattle.std.proofs.lemmas.List.{nil_from_length}
use Rattle.std.proofs.lemmas.Cmp.{nat_list_cmp_total, tied_itself}
use Rattle.std.proofs.lemmas.Slice.Eq.{bytes_eq-Decides}
use Rattle.etcd_model.specs.Order.{key_cmp, key_lt, key_le}
use Rattle.key_index.specs.Links.{Cells, Linked}
use Rattle.key_index.specs.Index.{IsSpread, IsAt, IsGapFor, IsFrom, IsEnd, IsSpan}
use Rattle.key_index.proofs.Links.{one_linked, greater_from_less, not_less, less_from_greater}

reversed : (o : Ordering) → is_le o ≡ not (is_lt (ordering_reverse o))
reversed Less = refl
reversed Equal = refl
reversed Greater = refl

-- a key is at or before another where that is not below it
le_not_lt : (a b : List ℕ) → key_le a b ≡ not (key_lt b a)
le_not_lt a b = reversed (key_cmp a b) ∙ ap (λ o. not (is_lt o)) (sym (nat_list_cmp_total.antisymm b a))

not_below_itself : (a b : List ℕ) → a ≡ b → key_lt a b ≡ false
not_below_itself a b same =
    let tied : key_cmp a a ≡ Equal = tied_itself nat_list_cmp_total a in
    ap is_lt (subst (λ (k : List ℕ). key_cmp a k ≡ Equal) same tied)

module _ (m : Cells) (heads : List ℕ) where
  pub from_at : (key : List ℕ) (i : ℕ) → IsSpread m heads → IsAt m heads key i → IsFrom m heads key i
  from_at key i spread at =
      let f = at.of_key.0 in
      record {
        in_range = omega (arith, at.in_range);
        below = λ j e lt has.
            let less : key_cmp e.change.key f.change.key ≡ Less = spread.sorted j i e f lt at.in_range has at.of_key.1 in
            ap is_lt (subst (λ (k : List ℕ). key_cmp e.change.key k ≡ Less) at.of_key.2 less);
        from = λ j e le lt has. elim (cases_lt i j) [
          | inl above ↦
              let less : key_cmp f.change.key e.change.key ≡ Less = spread.sorted i j f e above lt at.of_key.1 has in
              let greater : key_cmp e.change.key f.change.key ≡ Greater = greater_from_less f.change.key e.change.key less in
              ap is_lt (subst (λ (k : List ℕ). key_cmp e.change.key k ≡ Greater) at.of_key.2 greater)
          | inr same ↦
              let eq : j ≡ i = omega arith in
              let one : e ≡ f = one_linked (m (get_or heads i 0)) e f (subst (λ (x : ℕ). m (get_or heads x 0) ≡ Some e) eq has) at.of_key.1 in
              not_below_itself e.change.key key (ap (λ (x : Linked). x.change.key) one ∙ at.of_key.2)
        ];
      }

  pub from_gap : (key : List ℕ) (i : ℕ) → IsGapFor m heads key i → IsFrom m heads key i
  from_gap key i gap = record {
    in_range = gap.in_range;
    below = λ j e lt has. ap is_lt (gap.smaller_before j e lt has);
    from = λ j e le lt has. ap is_lt (gap.greater_after j e le lt has);
  }

  -- with the single byte 0 there is no end
  pub end_none : (end : List ℕ) → bytes_eq end (0 ∷ []) ≡ true → IsEnd m heads end (length heads)
  end_none end none = record {
    in_range = omega arith;
    below = λ j e lt has. ap (λ (b : Bool). b || key_lt e.change.key end) none;
    from = λ j e le lt has. absurd (omega arith);
  }

  pub end_from : (end : List ℕ) (i : ℕ) → bytes_eq end (0 ∷ []) ≡ false → IsFrom m heads end i → IsEnd m heads end i
  end_from end i other from = record {
    in_range = from.in_range;
    below = λ j e lt has. ap (λ (b : Bool). b || key_lt e.change.key end) other ∙ from.below j e lt has;
    from = λ j e le lt has. ap (λ (b : Bool). b || key_lt e.change.key end) other ∙ from.from j e le lt has;
  }

  -- with an end, from the first key on and before the end
  pub span_between : (key end : List ℕ) (from to top : ℕ) → 0 < length end → IsFrom m heads key from → IsEnd m heads end to → from ≤ top → to ≤ top → top ≤ length heads → (to < from → top ≡ from) → (from ≤ to → top ≡ to) → IsSpan m heads key end from top
  span_between key [] from to top some f t ordered over within less more = absurd (omega (arith, some))
  span_between key (b ∷ bs) from to top some f t ordered over within less more = record {
    ordered = ordered;
    in_range = within;
    exact = λ i e lt has. (
      λ inside. and_from _ _ (le_not_lt key e.change.key ∙ ap not (f.from i e inside.0 lt has)) (t.below i e (before i inside.0 inside.1) has),
      λ member.
          let parts = and_parts (key_le key e.change.key) (bytes_eq (b ∷ bs) (0 ∷ []) || key_lt e.change.key (b ∷ bs)) member in
          let at_least : from ≤ i = elim (cases_lt i from) [
            | inl below ↦
                let not_there : key_le key e.change.key ≡ false = le_not_lt key e.change.key ∙ ap not (f.below i e below has) in
                let bad : ⊥ = cc (parts.0, not_there) in absurd bad
            | inr above ↦ above
          ] in
          let at_most : i < to = elim (cases_lt i to) [
            | inl below ↦ below
            | inr above ↦
                let not_there = t.from i e above lt has in
                let bad : ⊥ = cc (parts.1, not_there) in absurd bad
          ] in
          (at_least, omega arith),
    );
  }
    where
      before : (i : ℕ) → from ≤ i → i < top → i < to
      before i low high = elim (cases_lt to from) [
        | inl lt ↦ absurd (omega (arith, less lt))
        | inr ge ↦ omega (arith, more ge)
      ]

  -- with no end, the place of the one key
  pub span_at : (key end : List ℕ) (i : ℕ) → length end ≡ 0 → IsSpread m heads → IsAt m heads key i → IsSpan m heads key end i (i + 1)
  span_at key end i empty spread at =
      let f = at.of_key.0 in
      subst (λ (xs : List ℕ). IsSpan m heads key xs i (i + 1)) (sym (nil_from_length end empty)) (record {
        ordered = omega arith;
        in_range = omega (arith, at.in_range);
        exact = λ j e lt has. (
          λ inside.
              let eq : j ≡ i = omega (arith, inside.0, inside.1) in
              let one : e ≡ f = one_linked (m (get_or heads i 0)) e f (subst (λ (x : ℕ). m (get_or heads x 0) ≡ Some e) eq has) at.of_key.1 in
              (bytes_eq-Decides e.change.key key).1 (ap (λ (x : Linked). x.change.key) one ∙ at.of_key.2),
          λ member.
              let same : e.change.key ≡ key = (bytes_eq-Decides e.change.key key).0 member in
              let here : j ≡ i = elim (cases_order j i) [
                | inl eq ↦ eq
                | inr o ↦ elim o [
                  | inl low ↦ absurd (not_less e.change.key f.change.key (same ∙ sym at.of_key.2) (spread.sorted j i e f low at.in_range has at.of_key.1))
                  | inr high ↦ absurd (not_less f.change.key e.change.key (at.of_key.2 ∙ sym same) (spread.sorted i j f e high lt at.of_key.1 has))
                ]
              ] in
              (omega arith, omega arith),
        );
      })

  -- and where there is no such key none
  pub span_gap : (key end : List ℕ) (i : ℕ) → length end ≡ 0 → IsGapFor m heads key i → IsSpan m heads key end i i
  span_gap key end i empty gap =
      subst (λ (xs : List ℕ). IsSpan m heads key xs i i) (sym (nil_from_length end empty)) (record {
        ordered = omega arith;
        in_range = gap.in_range;
        exact = λ j e lt has. (
          λ inside. absurd (omega (arith, inside.0, inside.1)),
          λ member.
              let same : e.change.key ≡ key = (bytes_eq-Decides e.change.key key).0 member in
              absurd (elim (cases_lt j i) [
                | inl below ↦ not_less e.change.key key same (gap.smaller_before j e below has)
                | inr above ↦ not_less key e.change.key (sym same) (less_from_greater e.change.key key (gap.greater_after j e above lt has))
              ]),
        );
      })
