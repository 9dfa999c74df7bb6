-- What a compaction leaves of the cells that are settled, where it visits the others.
use Rattle.std.proofs.Common.{◌≡◌, ◌≢◌, ℕ, ◌+◌, ◌-◌, ◌<◌, ◌≤◌, List, [], ◌∷◌, ◌++◌, length, get_or, Option, Some, None, is_some, Bool, true, false, ◌==◌, sym, ap, ◌∙◌, refl, subst, arith, inl, inr}
use Rattle.std.specs.Prelude.{not, filter, if◌then◌else◌, ◌&&◌}
use Rattle.std.proofs.lemmas.Bool.{cases_Bool, cases_eq, cases_lt}
use Rattle.std.proofs.lemmas.Bool.Decides.{nat_tests}
use Rattle.std.proofs.lemmas.List.{get_or-append_right, length-append}
use Rattle.std.proofs.lemmas.List.Sums.{sum_by-append}
use Rattle.etcd_model.specs.Changes.{Recorded}
use Rattle.model_laws.proofs.LastLaws.{some_or_none}
use Rattle.key_index.specs.Links.{Cells, Linked, IsChained}
use Rattle.key_index.specs.Compaction.{AreDone, IsBehindNone, IsCompactedAt, IsDone, IsKept, times}
use Rattle.key_index.specs.Order.{AreAll, AreSettled, IsInOrder, IsSettled, with_records}
use Rattle.key_index.specs.Visiting.{without_cell}
use Rattle.key_index.proofs.Links.{one_linked}
use Rattle.key_index.proofs.Times.{filter_no, filter_yes, times_cases, times_filter, times_here, times_rest}
use Rattle.key_index.proofs.Visited.{done_or_not, kept_of_fewer, place_of, rises_along, times_at}
use Rattle.key_index.proofs.Whole.{key_of, same_or_not, was_at}

-- ---- tests of a list

-- tests that agree on what stands in a list keep the same of it
pub filters_agree : (p q : ℕ → Bool) (xs : List ℕ) → ((c : ℕ) → 1 ≤ times c xs → p c ≡ q c) → filter p xs ≡ filter q xs
filters_agree p q [] agree = refl
filters_agree p q (x ∷ xs) agree =
    let rest = filters_agree p q xs (λ c stands. agree c (omega (arith, stands, times_rest c x xs))) in
    let here = agree x (omega (arith, times_here x x xs refl)) in
    elim (cases_Bool (q x)) [
      | inl on ↦ filter_yes p x xs (here ∙ on) ∙ ap (λ (ys : List ℕ). x ∷ ys) rest ∙ sym (filter_yes q x xs on)
      | inr off ↦ filter_no p x xs (here ∙ off) ∙ rest ∙ sym (filter_no q x xs off)
    ]

-- one test after another
pub filters_both : (p q : ℕ → Bool) (xs : List ℕ) → filter (λ c. p c && q c) xs ≡ filter q (filter p xs)
filters_both p q [] = refl
filters_both p q (x ∷ xs) =
    let rest = filters_both p q xs in
    elim (cases_Bool (p x)) [
      | inl on ↦
          let inside = ap (filter q) (filter_yes p x xs on) in
          elim (cases_Bool (q x)) [
            | inl too ↦ filter_yes (λ c. p c && q c) x xs (grind (arith, on, too)) ∙ ap (λ (ys : List ℕ). x ∷ ys) rest ∙ sym (filter_yes q x (filter p xs) too) ∙ sym inside
            | inr off ↦ filter_no (λ c. p c && q c) x xs (grind (arith, on, off)) ∙ rest ∙ sym (filter_no q x (filter p xs) off) ∙ sym inside
          ]
      | inr off ↦ filter_no (λ c. p c && q c) x xs (grind (arith, off)) ∙ rest ∙ sym (ap (filter q) (filter_no p x xs off))
    ]

-- not this cell
abbrev pub is_other : ℕ → ℕ → Bool
is_other d c = not (c == d)

pub other_here : (d : ℕ) → is_other d d ≡ false
other_here d = grind (arith, nat_tests)

pub other_there : (d c : ℕ) → c ≢ d → is_other d c ≡ true
other_there d c differs = grind (arith, nat_tests)

pub all_others : (d : ℕ) (xs : List ℕ) → times d xs ≤ 0 → filter (is_other d) xs ≡ xs
all_others d [] none = refl
all_others d (x ∷ xs) none =
    let differs : x ≢ d = λ same. omega (arith, none, times_here d x xs same) in
    filter_yes (is_other d) x xs (other_there d x differs) ∙ ap (λ (ys : List ℕ). x ∷ ys) (all_others d xs (omega (arith, none, times_rest d x xs)))

-- ---- a visit

pub settled_at : (m : Cells) (st : List ℕ) → AreSettled m st → (s : ℕ) → 1 ≤ times s st → IsSettled m s
settled_at m [] each s stands = absurd (omega (arith, stands))
settled_at m (x ∷ xs) each s stands = elim (times_cases s x xs stands) [
  | inl same ↦ subst (IsSettled m) same each.0
  | inr later ↦ settled_at m xs each.1 s later
]

module _ (m now : Cells) (st cs : List ℕ) (revision i : ℕ) (chained_m : IsChained m) (chained : IsChained now) (all : AreAll m (st ++ cs)) (rises : IsInOrder m (st ++ cs)) (settled : AreSettled m st) (so_far : AreDone m now cs revision i) (lt : i < length cs) (c : ℕ) (f : Linked) (is : get_or cs i 0 ≡ c) (at : now c ≡ Some f) (low : f.change.revision ≤ revision) where
  -- what was there
  e : (x : Linked) × (m c ≡ Some x) × (x.change ≡ f.change)
  e = so_far.back c f at

  e_revision : e.0.change.revision ≡ f.change.revision
  e_revision = ap (λ (x : Recorded). x.revision) e.2

  both : (b : ℕ) (g : Linked) → m b ≡ Some g → times b st + times b cs ≡ 1
  both b g has = omega (arith, all.once b g has, sum_by-append (λ x. if x == b then 1 else 0) st cs)

  -- the visited cell is none that is settled
  not_settled : (s : ℕ) → 1 ≤ times s st → s ≢ c
  not_settled s stands same =
      let here : 1 ≤ times c cs = subst (λ (x : ℕ). 1 ≤ times x cs) is (times_at cs i lt) in
      let there : 1 ≤ times c st = subst (λ (x : ℕ). 1 ≤ times x st) same stands in
      omega (arith, here, there, both c e.0 e.1)

  settled_is : (s : ℕ) → 1 ≤ times s st → IsSettled m s
  settled_is s stands = settled_at m st settled s stands

  -- a record of the key that was there and is earlier is settled, where none of the key was visited
  earlier_settled : IsBehindNone m cs i f.change.key → (b : ℕ) (g : Linked) → m b ≡ Some g → g.change.key ≡ f.change.key → g.change.revision < f.change.revision → 1 ≤ times b st
  earlier_settled none b g has same less = elim (cases_lt 0 (times b st)) [
    | inl stands ↦ stands
    | inr few ↦
        let p = place_of b cs (omega (arith, both b g has, few)) in
        let there : m (get_or cs p.0 0) ≡ Some g = subst (λ (x : ℕ). m x ≡ Some g) (sym p.2) has in
        elim (cases_lt p.0 i) [
          | inl before ↦ absurd (none p.0 g before there same)
          | inr from ↦
              let long = length-append st cs in
              let here : m (get_or cs i 0) ≡ Some e.0 = subst (λ (x : ℕ). m x ≡ Some e.0) (sym is) e.1 in
              let up = rises_along m (st ++ cs) all.some rises (length st + i) (length st + p.0) e.0 g (omega (arith, from)) (omega (arith, long, p.1))
              (subst (λ (x : ℕ). m x ≡ Some e.0) (sym (behind i)) here) (subst (λ (x : ℕ). m x ≡ Some g) (sym (behind p.0)) there) in
              absurd (omega (arith, up, less, e_revision))
        ]
  ]
    where
      behind : (j : ℕ) → get_or (st ++ cs) (length st + j) 0 ≡ get_or cs j 0
      behind j = let same : length st + j - length st ≡ j = omega arith in get_or-append_right st cs (length st) (length st + j) 0 refl (omega arith) ∙ ap (λ (n : ℕ). get_or cs n 0) same

  -- an earlier record of the key is not kept
  earlier_lost : (b : ℕ) (g : Linked) → now b ≡ Some g → g.change.key ≡ f.change.key → g.change.revision < f.change.revision → IsKept now revision g.change → ⊥
  earlier_lost b g has same less kept = elim kept [
    | inl from ↦ omega (arith, from, less, low)
    | inr p ↦ omega (arith, p.1 c f at (sym same) low, less)
  ]

  -- nor was it, so none of the key is done where there is one
  earlier_not_done : (b : ℕ) (g : Linked) → now b ≡ Some g → g.change.key ≡ f.change.key → g.change.revision < f.change.revision → IsDone m now revision f.change.key → ⊥
  earlier_not_done b g has same less done = earlier_lost b g has same less (kept_of_fewer m now revision so_far.back g.change (done.only b g has same).1)

  -- a settled record of a key of which none was visited is earlier than the visited one
  settled_before : (s : ℕ) (y : Linked) → 1 ≤ times s st → now s ≡ Some y → y.change.key ≡ f.change.key → y.change.revision < f.change.revision
  settled_before s y stands has same =
      let x = so_far.back s y has in
      let rev : x.0.change.revision ≡ y.change.revision = ap (λ (z : Recorded). z.revision) x.2 in
      let key : e.0.change.key ≡ x.0.change.key = key_of e.0 f e.2 ∙ sym same ∙ sym (key_of x.0 y x.2) in
      let first = (settled_is s stands x.0 x.1).1 c e.0 e.1 key in
      elim (cases_lt y.change.revision f.change.revision) [
        | inl less ↦ less
        | inr ge ↦ absurd (not_settled s stands (chained_m.unique s c x.0 e.0 x.1 e.1 (sym key) (omega (arith, first, ge, rev, e_revision))))
      ]

  module _ (d : ℕ) (link : f.older ≡ Some d) where
    before : (g : Linked) × (now d ≡ Some g) × (g.change.key ≡ f.change.key) × (g.change.revision < f.change.revision)
    before = let x = chained.linked c d f at link in (x.0, x.1.at, x.1.key, x.1.earlier)

    behind_none : IsBehindNone m cs i f.change.key
    behind_none = elim (done_or_not m now cs revision i so_far f.change.key) [
      | inl done ↦ absurd (earlier_not_done d before.0 before.1 before.2 before.3 done)
      | inr none ↦ none
    ]

    -- the linked one is settled, and goes
    pub link_settled : 1 ≤ times d st
    link_settled =
        let g = so_far.back d before.0 before.1 in
        earlier_settled behind_none d g.0 g.1 (key_of g.0 before.0 g.2 ∙ before.2) (omega (arith, before.3, ap (λ (z : Recorded). z.revision) g.2))

    -- no other settled one is of the key
    one_settled : (s : ℕ) (y : Linked) → 1 ≤ times s st → now s ≡ Some y → y.change.key ≡ f.change.key → s ≡ d
    one_settled s y stands has same =
        let less = settled_before s y stands has same in
        let x = so_far.back s y has in
        let g = so_far.back d before.0 before.1 in
        let key : x.0.change.key ≡ g.0.change.key = key_of x.0 y x.2 ∙ same ∙ sym before.2 ∙ sym (key_of g.0 before.0 g.2) in
        let down = (settled_is d link_settled g.0 g.1).1 s x.0 x.1 key in
        let up = (settled_is s stands x.0 x.1).1 d g.0 g.1 (sym key) in
        chained_m.unique s d x.0 g.0 x.1 g.1 key (omega (arith, down, up))

    -- it stands once among those with records
    pub link_once : times d (with_records now st) ≡ 1
    link_once = let g = so_far.back d before.0 before.1 in omega (arith, link_settled, both d g.0 g.1, times_filter (λ s. is_some (now s)) d st (ap is_some before.1))

  module _ (new : Cells) (compacted : IsCompactedAt now new revision f.change.key) where
    gone : (s : ℕ) → now s ≡ None → new s ≡ None
    gone s none = elim (some_or_none (new s)) [
      | inl none_new ↦ none_new
      | inr y ↦ let w = was_at now new revision f.change.key compacted s y.0 y.1 in (let bad : ⊥ = cc (w.1, none) in absurd bad)
    ]

    stays_other : (s : ℕ) (y : Linked) → now s ≡ Some y → y.change.key ≢ f.change.key → new s ≡ Some y
    stays_other s y has other = compacted.others s y other has

    -- without a link nothing that is settled goes
    settled_stay : f.older ≡ None → with_records new st ≡ with_records now st
    settled_stay oldest = filters_agree (λ s. is_some (new s)) (λ s. is_some (now s)) st (λ s stands. elim (some_or_none (now s)) [
      | inl none ↦ ap is_some (gone s none) ∙ sym (ap is_some none)
      | inr y ↦ elim (same_or_not y.0.change.key f.change.key) [
        | inr other ↦ ap is_some (stays_other s y.0 y.1 other) ∙ sym (ap is_some y.1)
        | inl same ↦
            let less = settled_before s y.0 stands y.1 same in
            let from = chained.oldest c f at oldest s y.0 y.1 same in
            absurd (omega (arith, less, from))
      ]
    ])

    module _ (d : ℕ) (link : f.older ≡ Some d) where
      link_gone : new d ≡ None
      link_gone = elim (some_or_none (new d)) [
        | inl none ↦ none
        | inr h ↦
            let w = was_at now new revision f.change.key compacted d h.0 h.1 in
            let one : w.0 ≡ (before d link).0 = one_linked (now d) w.0 (before d link).0 w.1 (before d link).1 in
            let change : h.0.change ≡ (before d link).0.change = sym w.2 ∙ ap (λ (x : Linked). x.change) one in
            let o = compacted.only d h.0 h.1 (ap (λ (x : Recorded). x.key) change ∙ (before d link).2) in
            absurd (earlier_lost d (before d link).0 (before d link).1 (before d link).2 (before d link).3 (subst (IsKept now revision) change o.1))
      ]

      pub settled_without : with_records new st ≡ filter (is_other d) (with_records now st)
      settled_without =
          filters_agree (λ s. is_some (new s)) (λ s. is_some (now s) && is_other d s) st (λ s stands. elim (some_or_none (now s)) [
            | inl none ↦ let lost = ap is_some none in ap is_some (gone s none) ∙ grind (arith, lost)
            | inr y ↦
                let some = ap is_some y.1 in
                elim (cases_eq s d) [
                  | inl eq ↦
                      let off : is_other d s ≡ false = ap (is_other d) eq ∙ other_here d in
                      ap is_some (subst (λ (x : ℕ). new x ≡ None) (sym eq) link_gone) ∙ grind (arith, some, off)
                  | inr differs ↦
                      let on = other_there d s differs in
                      elim (same_or_not y.0.change.key f.change.key) [
                        | inl same ↦ absurd (differs (one_settled d link s y.0 stands y.1 same))
                        | inr other ↦ ap is_some (stays_other s y.0 y.1 other) ∙ grind (arith, some, on)
                      ]
                ]
          ])
          ∙ filters_both (λ s. is_some (now s)) (is_other d) st

    -- what is left of the settled ones are those with records
    pub order_visited : (left after : List ℕ) → left ≡ with_records now st → after ≡ without_cell f.older left → after ≡ with_records new st
    order_visited left after order visited = by f.older refl visited
      where
        by : (o : Option ℕ) → f.older ≡ o → after ≡ without_cell o left → after ≡ with_records new st
        by None oldest visited = visited ∙ order ∙ sym (settled_stay oldest)
        by (Some d) link visited = visited ∙ ap (filter (is_other d)) order ∙ sym (settled_without d link)
