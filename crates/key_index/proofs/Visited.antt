-- A compaction that visits some cells, one after another.
use Rattle.std.proofs.Common.{◌≡◌, ◌≢◌, ℕ, zero, suc, ◌+◌, ◌<◌, ◌≤◌, List, [], ◌∷◌, length, get_or, Option, Some, None, IsSome, is_some, true, sym, ap, ◌∙◌, refl, subst, arith, inl, inr, ◌⊎◌}
use Rattle.std.specs.List.{All}
use Rattle.std.proofs.lemmas.Bool.{cases_eq}
use Rattle.std.proofs.lemmas.List.Elements.{All-head, All-tail}
use Rattle.etcd_model.specs.Changes.{Recorded, Rises}
use Rattle.model_laws.proofs.LastIsLaws.{all_in}
use Rattle.key_index.specs.Links.{Cells, Linked}
use Rattle.key_index.specs.Compaction.{AreDone, IsBehindNone, IsCompactedAt, IsDone, IsKept, times}
use Rattle.key_index.specs.Order.{IsInOrder, changes_in}
use Rattle.key_index.proofs.Links.{one_linked}
use Rattle.key_index.proofs.Compacted.{linked_some}
use Rattle.key_index.proofs.Order.{change_in, changes_some, which}
use Rattle.key_index.proofs.Times.{times_cases, times_here, times_rest}
use Rattle.key_index.proofs.Whole.{compacted_done, key_of, others_untouched, same_or_not, still_done, then_done, was_at}

-- ---- places

pub times_at : (xs : List ℕ) (i : ℕ) → i < length xs → 1 ≤ times (get_or xs i 0) xs
times_at [] i lt = absurd (omega (arith, lt))
times_at (x ∷ xs) zero lt = omega (arith, times_here x x xs refl)
times_at (x ∷ xs) (suc i) lt = omega (arith, times_at xs i (omega (arith, lt)), times_rest (get_or xs i 0) x xs)

pub place_of : (c : ℕ) (xs : List ℕ) → 1 ≤ times c xs → (i : ℕ) × (i < length xs) × (get_or xs i 0 ≡ c)
place_of c [] stands = absurd (omega (arith, stands))
place_of c (x ∷ xs) stands = elim (times_cases c x xs stands) [
  | inl eq ↦ (0, omega arith, eq)
  | inr later ↦ let p = place_of c xs later in (suc p.0, omega (arith, p.1), p.2)
]

-- revisions don't fall along an order
pub rises_along : (cells : Cells) (order : List ℕ) → All (λ c. IsSome (cells c)) order → IsInOrder cells order → (i j : ℕ) (e f : Linked) → i ≤ j → j < length order → cells (get_or order i 0) ≡ Some e → cells (get_or order j 0) ≡ Some f → e.change.revision ≤ f.change.revision
rises_along cells [] some rises i j e f le lt at_e at_f = absurd (omega (arith, lt))
rises_along cells (c ∷ cs) some rises zero zero e f le lt at_e at_f = omega (arith, ap (λ (x : Linked). x.change.revision) (one_linked (cells c) e f at_e at_f))
rises_along cells (c ∷ cs) some rises (suc i) zero e f le lt at_e at_f = absurd (omega (arith, le))
rises_along cells (c ∷ cs) some rises zero (suc j) e f le lt at_e at_f =
    let from = subst Rises (changes_some cells c e cs at_e) rises in
    all_in (λ x. e.change.revision ≤ x.revision) (changes_in cells cs) f.change from.0 (change_in cells (get_or cs j 0) f cs at_f (times_at cs j (omega (arith, lt))))
rises_along cells (c ∷ cs) some rises (suc i) (suc j) e f le lt at_e at_f =
    let x = which (cells c) (All-head (λ x. is_some (cells x) ≡ true) c cs some) in
    let from = subst Rises (changes_some cells c x.0 cs x.1) rises in
    rises_along cells cs (All-tail (λ x. is_some (cells x) ≡ true) c cs some) from.1 i j e f (omega (arith, le)) (omega (arith, lt)) at_e at_f

-- ---- what was visited

-- a cell of a key was visited or not
pub visited_or_not : (m : Cells) (cs : List ℕ) (i : ℕ) (key : List ℕ) → ((j : ℕ) × (f : Linked) × (j < i) × (m (get_or cs j 0) ≡ Some f) × (f.change.key ≡ key)) ⊎ IsBehindNone m cs i key
visited_or_not m cs zero key = inr (λ j e lt. absurd (omega (arith, lt)))
visited_or_not m cs (suc i) key = elim (visited_or_not m cs i key) [
  | inl v ↦ inl (v.0, v.1, omega (arith, v.2), v.3, v.4)
  | inr none ↦ by (m (get_or cs i 0)) refl none
]
  where
    by : (o : Option Linked) → m (get_or cs i 0) ≡ o → IsBehindNone m cs i key → ((j : ℕ) × (f : Linked) × (j < suc i) × (m (get_or cs j 0) ≡ Some f) × (f.change.key ≡ key)) ⊎ IsBehindNone m cs (suc i) key
    by None is none = inr (λ j e lt has. elim (cases_eq j i) [
      | inl eq ↦ let there = subst (λ (x : ℕ). m (get_or cs x 0) ≡ Some e) eq has in (let bad : ⊥ = cc in absurd bad)
      | inr differs ↦ none j e (omega (arith, lt, differs)) has
    ])
    by (Some f) is none = elim (same_or_not f.change.key key) [
      | inl same ↦ inl (i, f, omega arith, is, same)
      | inr other ↦ inr (λ j e lt has. elim (cases_eq j i) [
        | inl eq ↦
            let one : f ≡ e = one_linked (m (get_or cs i 0)) f e is (subst (λ (x : ℕ). m (get_or cs x 0) ≡ Some e) eq has) in
            subst (λ (x : Linked). x.change.key ≢ key) one other
        | inr differs ↦ none j e (omega (arith, lt, differs)) has
      ])
    ]

-- each record was there with its change
abbrev pub AreOf : Cells → Cells → Type 0
AreOf m now = (c : ℕ) (e : Linked) → now c ≡ Some e → (f : Linked) × (m c ≡ Some f) × (f.change ≡ e.change)

-- what is kept of records is kept of fewer
pub kept_of_fewer : (m now : Cells) (revision : ℕ) → AreOf m now → (x : Recorded) → IsKept m revision x → IsKept now revision x
kept_of_fewer m now revision back x kept = elim kept [
  | inl from ↦ inl from
  | inr p ↦ inr (
    p.0,
    λ b g has same low. (
        let f = back b g has in
        let rev : f.0.change.revision ≡ g.change.revision = ap (λ (y : Recorded). y.revision) f.2 in
        let at_most = p.1 b f.0 f.1 (key_of f.0 g f.2 ∙ same) (omega (arith, low, rev)) in
        omega (arith, at_most, rev)),
  )
]

-- a key that was done, and is compacted once more, is done
pub done_twice : (m now new : Cells) (revision : ℕ) (key : List ℕ) → AreOf m now → IsDone m now revision key → IsCompactedAt now new revision key → IsDone m new revision key
done_twice m now new revision key back done compacted = record {
  stays = λ c g has is kept.
      let f = linked_some now c g.change (done.stays c g has is kept) in
      let in_now : IsKept now revision f.0.change = kept_of_fewer m now revision back f.0.change (subst (IsKept m revision) (sym f.2) kept) in
      compacted.stays c f.0 f.1 (key_of f.0 g f.2 ∙ is) in_now ∙ ap (λ (x : Recorded). let q : Option Recorded = Some x in q) f.2;
  only = λ c g has is.
      let o = compacted.only c g has is in
      let f = linked_some now c g.change o.0 in
      let d = done.only c f.0 f.1 (key_of f.0 g f.2 ∙ is) in
      (d.0 ∙ ap (λ (x : Recorded). let q : Option Recorded = Some x in q) f.2, subst (IsKept m revision) f.2 d.1);
}

pub none_visited : (m : Cells) (cs : List ℕ) (revision : ℕ) → AreDone m m cs revision 0
none_visited m cs revision = record {
  done = λ j e lt has. absurd (omega (arith, lt));
  others = λ key ahead. record { there = λ c g at is. at; back = λ c g at is. at };
  back = λ c e has. (e, has, refl);
}

module _ (m now : Cells) (cs : List ℕ) (revision i : ℕ) (so_far : AreDone m now cs revision i) where
  -- a key is done, or no cell of it was visited
  pub done_or_not : (key : List ℕ) → IsDone m now revision key ⊎ IsBehindNone m cs i key
  done_or_not key = elim (visited_or_not m cs i key) [
    | inl v ↦ inl (subst (IsDone m now revision) v.4 (so_far.done v.0 v.1 v.2 v.3))
    | inr none ↦ inr none
  ]

  -- a cell whose record is gone is of a key that is done
  pub done_with_gone : (c : ℕ) → get_or cs i 0 ≡ c → now c ≡ None → AreDone m now cs revision (i + 1)
  done_with_gone c is none = record {
    done = λ j e lt has. elim (cases_eq j i) [
      | inl eq ↦ elim (done_or_not e.change.key) [
        | inl done ↦ done
        | inr behind ↦
            let there = (so_far.others e.change.key behind).there c e (subst (λ (x : ℕ). m x ≡ Some e) is (subst (λ (x : ℕ). m (get_or cs x 0) ≡ Some e) eq has)) refl in
            let bad : ⊥ = cc in absurd bad
      ]
      | inr differs ↦ so_far.done j e (omega (arith, lt, differs)) has
    ];
    others = λ key none. so_far.others key (λ j e lt has. none j e (omega (arith, lt)) has);
    back = so_far.back;
  }

  module _ (new : Cells) (c : ℕ) (f : Linked) (is : get_or cs i 0 ≡ c) (at : now c ≡ Some f) (compacted : IsCompactedAt now new revision f.change.key) where
    pub key_done : IsDone m new revision f.change.key
    key_done = elim (done_or_not f.change.key) [
      | inl done ↦ done_twice m now new revision f.change.key so_far.back done compacted
      | inr behind ↦ then_done m now new revision f.change.key (so_far.others f.change.key behind) (compacted_done now new revision f.change.key compacted)
    ]

    -- the record was there
    here : (e : Linked) → m (get_or cs i 0) ≡ Some e → e.change.key ≡ f.change.key
    here e has =
        let g = so_far.back c f at in
        let one : e ≡ g.0 = one_linked (m c) e g.0 (subst (λ (x : ℕ). m x ≡ Some e) is has) g.1 in
        ap (λ (x : Linked). x.change.key) one ∙ key_of g.0 f g.2

    pub done_with_cut : AreDone m new cs revision (i + 1)
    done_with_cut = record {
      done = λ j e lt has. elim (same_or_not e.change.key f.change.key) [
        | inl same ↦ subst (IsDone m new revision) (sym same) key_done
        | inr other ↦ elim (cases_eq j i) [
          | inl eq ↦ absurd (other (here e (subst (λ (x : ℕ). m (get_or cs x 0) ≡ Some e) eq has)))
          | inr differs ↦
              still_done m now new revision e.change.key (so_far.done j e (omega (arith, lt, differs)) has)
              (others_untouched now new revision f.change.key e.change.key compacted (λ same. other (sym same)))
        ]
      ];
      others = λ key none.
          let g = so_far.back c f at in
          let apart : f.change.key ≢ key = subst (λ (x : Recorded). x.key ≢ key) g.2 (none i g.0 (omega arith) (subst (λ (x : ℕ). m x ≡ Some g.0) (sym is) g.1)) in
          let u = so_far.others key (λ j e lt has. none j e (omega (arith, lt)) has) in
          let v = others_untouched now new revision f.change.key key compacted apart in
          record {
            there = λ b x had same. v.there b x (u.there b x had same) same;
            back = λ b x had same. u.back b x (v.back b x had same) same;
          };
      back = λ b g has.
          let h = was_at now new revision f.change.key compacted b g has in
          let k = so_far.back b h.0 h.1 in
          (k.0, k.1, k.2 ∙ h.2);
    }
