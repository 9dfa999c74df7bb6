-- A new record of a key, newer than all others of it.
use Rattle.std.proofs.Common.{◌≡◌, ◌≢◌, ℕ, ◌+◌, ◌-◌, ◌<◌, ◌≤◌, List, length, get_or, set, Option, Some, None, option_map, sym, ap, ◌∙◌, arith, subst, inl, inr, ◌⊎◌, get_or-set_same, get_or-set_other, length-set}
use Rattle.std.specs.declared.cmp.Ordering.TheVariants.{Less, Greater}
use Rattle.std.specs.List.{insert}
use Rattle.std.proofs.lemmas.Bool.{cases_lt, cases_eq, cases_order}
use Rattle.std.proofs.lemmas.List.Edits.{length-insert, get_or-insert_below, get_or-insert_at, get_or-insert_above}
use Rattle.etcd_model.specs.Order.{key_cmp}
use Rattle.key_index.specs.Links.{Cells, Linked, IsChained, IsNewest, NoneAfter, IsPlaced, without, with_link, with_older}
use Rattle.key_index.specs.Index.{AreHeads, IsGapFor, IsAt}
use Rattle.key_index.specs.Sought.{entry_key}
use Rattle.key_index.proofs.Links.{one_linked, less_from_greater, not_less, if_same, if_other, without_some, none_from_gap}

module _ (w m : Cells) (cell : ℕ) (e1 : Linked)
    (fresh : w cell ≡ None) (here : m cell ≡ Some e1) (others : (c : ℕ) → c ≢ cell → m c ≡ w c)
    (later : (b : ℕ) (g : Linked) → w b ≡ Some g → g.change.key ≡ e1.change.key → g.change.revision < e1.change.revision) where
  -- a record from before is under another cell
  not_cell : (c : ℕ) (e : Linked) → w c ≡ Some e → c ≢ cell
  not_cell c e at same =
      let there : w cell ≡ Some e = subst (λ (x : ℕ). w x ≡ Some e) same at in
      cc

  -- a record from before is still there
  kept : (c : ℕ) (e : Linked) → w c ≡ Some e → m c ≡ Some e
  kept c e at = others c (not_cell c e at) ∙ at

  -- a record is the new one or from before
  back : (c : ℕ) (e : Linked) → m c ≡ Some e → ((c ≡ cell) × (e ≡ e1)) ⊎ (w c ≡ Some e)
  back c e at = elim (cases_eq c cell) [
    | inl same ↦ inl (same, one_linked (m cell) e e1 (subst (λ (x : ℕ). m x ≡ Some e) same at) here)
    | inr differs ↦ inr (sym (others c differs) ∙ at)
  ]

  pub chained_added : IsChained w
      → ((d : ℕ) → e1.older ≡ Some d → (f : Linked) × (w d ≡ Some f) × (f.change.key ≡ e1.change.key) × NoneAfter w f.change.key f.change.revision)
      → (e1.older ≡ None → (b : ℕ) (g : Linked) → w b ≡ Some g → g.change.key ≡ e1.change.key → ⊥)
      → IsChained m
  chained_added chained link first = record {
    linked = λ c d e at older. elim (back c e at) [
      | inl p ↦
          let f = link d (ap (λ (x : Linked). x.older) (sym p.1) ∙ older) in
          let less = later d f.0 f.1 f.2 in (
            f.0,
            record {
              at = kept d f.0 f.1;
              key = f.2 ∙ ap (λ (x : Linked). x.change.key) (sym p.1);
              earlier = omega (arith, less, ap (λ (x : Linked). x.change.revision) p.1);
              next = λ b g has key below. elim (back b g has) [
                | inl q ↦ absurd (omega (arith, ap (λ (x : Linked). x.change.revision) p.1, ap (λ (x : Linked). x.change.revision) q.1))
                | inr old ↦ f.3 b g old (key ∙ ap (λ (x : Linked). x.change.key) p.1 ∙ sym f.2)
              ];
            },
          )
      | inr old ↦
          let n = chained.linked c d e old older in (
            n.0,
            record {
              at = kept d n.0 n.1.at;
              key = n.1.key;
              earlier = n.1.earlier;
              next = λ b g has key below. elim (back b g has) [
                | inl q ↦ let less = later c e old (sym key ∙ ap (λ (x : Linked). x.change.key) q.1) in absurd (omega (arith, less, ap (λ (x : Linked). x.change.revision) q.1))
                | inr o ↦ n.1.next b g o key below
              ];
            },
          )
    ];
    oldest = λ c e at older b g has key. elim (back c e at) [
      | inl p ↦ elim (back b g has) [
        | inl q ↦ omega (arith, ap (λ (x : Linked). x.change.revision) p.1, ap (λ (x : Linked). x.change.revision) q.1)
        | inr o ↦ absurd (first (ap (λ (x : Linked). x.older) (sym p.1) ∙ older) b g o (key ∙ ap (λ (x : Linked). x.change.key) p.1))
      ]
      | inr old ↦ elim (back b g has) [
        | inl q ↦ let less = later c e old (sym key ∙ ap (λ (x : Linked). x.change.key) q.1) in omega (arith, less, ap (λ (x : Linked). x.change.revision) q.1)
        | inr o ↦ chained.oldest c e old older b g o key
      ]
    ];
    unique = λ b c g e has at key same. elim (back b g has) [
      | inl q ↦ elim (back c e at) [
        | inl p ↦ q.0 ∙ sym p.0
        | inr o ↦ let less = later c e o (sym key ∙ ap (λ (x : Linked). x.change.key) q.1) in absurd (omega (arith, less, ap (λ (x : Linked). x.change.revision) q.1))
      ]
      | inr n ↦ elim (back c e at) [
        | inl p ↦ let less = later b g n (key ∙ ap (λ (x : Linked). x.change.key) p.1) in absurd (omega (arith, less, ap (λ (x : Linked). x.change.revision) p.1))
        | inr o ↦ chained.unique b c g e n o key same
      ]
    ];
  }

  -- the new record is the newest of its key
  newest_here : IsNewest m cell
  newest_here = (
    e1,
    here,
    λ b g has key. elim (back b g has) [
      | inl q ↦ omega (arith, ap (λ (x : Linked). x.change.revision) q.1)
      | inr o ↦ omega (arith, later b g o key)
    ],
  )

  -- the newest of another key is still the newest
  newest_there : (c : ℕ) → (n : IsNewest w c) → n.0.change.key ≢ e1.change.key → IsNewest m c
  newest_there c n differs = (
    n.0,
    kept c n.0 n.1,
    λ b g has key. elim (back b g has) [
      | inl q ↦ absurd (differs (sym key ∙ ap (λ (x : Linked). x.change.key) q.1))
      | inr o ↦ n.2 b g o key
    ],
  )

  -- the new record takes the place of the one before
  pub index_replaced : (heads : List ℕ) (i : ℕ) → AreHeads w heads → IsAt w heads e1.change.key i → AreHeads m (set heads i cell)
  index_replaced heads i index at =
      let same_length = length-set heads i cell in
      let k0 = at.of_key.0 in
      let this : get_or (set heads i cell) i 0 ≡ cell = get_or-set_same heads i cell 0 at.in_range in
      let other : (j : ℕ) → j ≢ i → get_or (set heads i cell) j 0 ≡ get_or heads j 0 = λ j ne. get_or-set_other heads i j cell 0 ne in
      -- another place has another key
      let apart : (j : ℕ) (e : Linked) → j ≢ i → j < length heads → w (get_or heads j 0) ≡ Some e → e.change.key ≢ e1.change.key = λ j e ne lt has key.
      elim (cases_order j i) [
        | inl eq ↦ ne eq
        | inr o ↦ elim o [
          | inl low ↦ not_less e.change.key k0.change.key (key ∙ sym at.of_key.2) (index.sorted j i e k0 low at.in_range has at.of_key.1)
          | inr high ↦ not_less k0.change.key e.change.key (at.of_key.2 ∙ sym key) (index.sorted i j k0 e high lt at.of_key.1 has)
        ]
      ] in
      -- each new place has the key of the old one
      let before : (j : ℕ) (e : Linked) → j < length heads → m (get_or (set heads i cell) j 0) ≡ Some e → (f : Linked) × (w (get_or heads j 0) ≡ Some f) × (f.change.key ≡ e.change.key) = λ j e lt has.
      elim (cases_eq j i) [
        | inl eq ↦
            let there : m cell ≡ Some e = subst (λ (x : ℕ). m x ≡ Some e) (ap (λ (x : ℕ). get_or (set heads i cell) x 0) eq ∙ this) has in
            (k0, subst (λ (x : ℕ). w (get_or heads x 0) ≡ Some k0) (sym eq) at.of_key.1, at.of_key.2 ∙ ap (λ (x : Linked). x.change.key) (one_linked (m cell) e1 e here there))
        | inr ne ↦
            let there : m (get_or heads j 0) ≡ Some e = subst (λ (x : ℕ). m x ≡ Some e) (other j ne) has in
            let n = index.newest j lt in
            (n.0, n.1, ap (λ (x : Linked). x.change.key) (one_linked (m (get_or heads j 0)) n.0 e (kept _ n.0 n.1) there))
      ] in
      record {
        newest = λ j lt. elim (cases_eq j i) [
          | inl eq ↦ subst (λ (x : ℕ). IsNewest m x) (sym (ap (λ (x : ℕ). get_or (set heads i cell) x 0) eq ∙ this)) newest_here
          | inr ne ↦
              let lt' : j < length heads = omega arith in
              let n = index.newest j lt' in
              subst (λ (x : ℕ). IsNewest m x) (sym (other j ne)) (newest_there (get_or heads j 0) n (apart j n.0 ne lt' n.1))
        ];
        sorted = λ a b e f below lt has_e has_f.
            let x = before a e (omega arith) has_e in
            let y = before b f (omega arith) has_f in
            let less : key_cmp x.0.change.key y.0.change.key ≡ Less = index.sorted a b x.0 y.0 below (omega arith) x.1 y.1 in
            subst (λ (q : List ℕ). key_cmp e.change.key q ≡ Less) y.2 (subst (λ (q : List ℕ). key_cmp q y.0.change.key ≡ Less) x.2 less);
        whole = λ c e has. elim (back c e has) [
          | inl q ↦ (i, omega (arith, at.in_range), (e1, subst (λ (x : ℕ). m x ≡ Some e1) (sym this) here, ap (λ (x : Linked). x.change.key) (sym q.1)))
          | inr old ↦
              let p = index.whole c e old in
              elim (cases_eq p.0 i) [
                | inl eq ↦
                    let there : w (get_or heads i 0) ≡ Some p.2.0 = subst (λ (x : ℕ). w (get_or heads x 0) ≡ Some p.2.0) eq p.2.1 in
                    let same : p.2.0 ≡ k0 = one_linked (w (get_or heads i 0)) p.2.0 k0 there at.of_key.1 in
                    (i, omega (arith, at.in_range), (e1, subst (λ (x : ℕ). m x ≡ Some e1) (sym this) here, sym at.of_key.2 ∙ ap (λ (x : Linked). x.change.key) (sym same) ∙ p.2.2))
                | inr ne ↦ (p.0, omega (arith, p.1), (p.2.0, subst (λ (x : ℕ). m x ≡ Some p.2.0) (sym (other p.0 ne)) (kept _ p.2.0 p.2.1), p.2.2))
              ]
        ];
      }

  -- the new record goes where no record of its key was
  pub index_inserted : (heads : List ℕ) (i : ℕ) → AreHeads w heads → IsGapFor w heads e1.change.key i → AreHeads m (insert heads i cell)
  index_inserted heads i index gap =
      let longer = length-insert heads i cell gap.in_range in
      let new = insert heads i cell in
      let this : get_or new i 0 ≡ cell = get_or-insert_at heads i cell 0 gap.in_range in
      let low : (j : ℕ) → j < i → get_or new j 0 ≡ get_or heads j 0 = λ j lt. get_or-insert_below heads i cell 0 j lt gap.in_range in
      let high : (j : ℕ) → i ≤ j → get_or new (j + 1) 0 ≡ get_or heads j 0 = λ j le. get_or-insert_above heads i cell 0 j le gap.in_range in
      -- no old place has the key
      let apart : (j : ℕ) (e : Linked) → j < length heads → w (get_or heads j 0) ≡ Some e → e.change.key ≢ e1.change.key = λ j e lt has key.
      elim (cases_lt j i) [
        | inl below ↦ not_less e.change.key e1.change.key key (gap.smaller_before j e below has)
        | inr above ↦ not_less e1.change.key e.change.key (sym key) (less_from_greater e.change.key e1.change.key (gap.greater_after j e above lt has))
      ] in
      let kept_newest : (j : ℕ) → j < length heads → IsNewest m (get_or heads j 0) = λ j lt.
      let n = index.newest j lt in
      newest_there (get_or heads j 0) n (apart j n.0 lt n.1) in
      -- what an old place has now it had before
      let was : (j : ℕ) (e : Linked) → j < length heads → m (get_or heads j 0) ≡ Some e → w (get_or heads j 0) ≡ Some e = λ j e lt has.
      let n = index.newest j lt in
      let same : n.0 ≡ e = one_linked (m (get_or heads j 0)) n.0 e (kept _ n.0 n.1) has in
      n.1 ∙ ap (λ (x : Linked). let o : Option Linked = Some x in o) same in
      -- a place is an old one below, the new one, or an old one above
      let place : (j : ℕ) (e : Linked) → j < length heads + 1 → m (get_or new j 0) ≡ Some e → ((j < i) × (w (get_or heads j 0) ≡ Some e)) ⊎ (((j ≡ i) × (e ≡ e1)) ⊎ ((i < j) × (w (get_or heads (j - 1) 0) ≡ Some e))) = λ j e lt has.
      elim (cases_order j i) [
        | inl eq ↦ inr (inl (eq, one_linked (m cell) e e1 (subst (λ (x : ℕ). m x ≡ Some e) (ap (λ (x : ℕ). get_or new x 0) eq ∙ this) has) here))
        | inr o ↦ elim o [
          | inl below ↦ inl (below, was j e (omega (arith, gap.in_range)) (subst (λ (x : ℕ). m x ≡ Some e) (low j below) has))
          | inr above ↦
              let back_one : j - 1 + 1 ≡ j = omega arith in
              inr (inr (above, was (j - 1) e (omega arith) (subst (λ (x : ℕ). m x ≡ Some e) (ap (λ (x : ℕ). get_or new x 0) (sym back_one) ∙ high (j - 1) (omega arith)) has)))
        ]
      ] in
      record {
        newest = λ j lt. elim (cases_order j i) [
          | inl eq ↦ subst (λ (x : ℕ). IsNewest m x) (sym (ap (λ (x : ℕ). get_or new x 0) eq ∙ this)) newest_here
          | inr o ↦ elim o [
            | inl below ↦ subst (λ (x : ℕ). IsNewest m x) (sym (low j below)) (kept_newest j (omega (arith, gap.in_range)))
            | inr above ↦
                let back_one : j - 1 + 1 ≡ j = omega arith in
                subst (λ (x : ℕ). IsNewest m x) (sym (ap (λ (x : ℕ). get_or new x 0) (sym back_one) ∙ high (j - 1) (omega arith))) (kept_newest (j - 1) (omega arith))
          ]
        ];
        sorted = λ a b e f below lt has_e has_f.
            elim (place a e (omega arith) has_e) [
              | inl x ↦ elim (place b f (omega arith) has_f) [
                | inl y ↦ index.sorted a b e f below (omega (arith, gap.in_range, y.0)) x.1 y.1
                | inr q ↦ elim q [
                  | inl y ↦ subst (λ (z : Linked). key_cmp e.change.key z.change.key ≡ Less) (sym y.1) (gap.smaller_before a e x.0 x.1)
                  | inr y ↦ index.sorted a (b - 1) e f (omega (arith, x.0, y.0)) (omega arith) x.1 y.1
                ]
              ]
              | inr p ↦ elim p [
                | inl x ↦ elim (place b f (omega arith) has_f) [
                  | inl y ↦ absurd (omega (arith, x.0, y.0))
                  | inr q ↦ elim q [
                    | inl y ↦ absurd (omega (arith, x.0, y.0))
                    | inr y ↦ subst (λ (z : Linked). key_cmp z.change.key f.change.key ≡ Less) (sym x.1) (less_from_greater f.change.key e1.change.key (gap.greater_after (b - 1) f (omega (arith, y.0)) (omega arith) y.1))
                  ]
                ]
                | inr x ↦ elim (place b f (omega arith) has_f) [
                  | inl y ↦ absurd (omega (arith, x.0, y.0))
                  | inr q ↦ elim q [
                    | inl y ↦ absurd (omega (arith, x.0, y.0))
                    | inr y ↦ index.sorted (a - 1) (b - 1) e f (omega (arith, x.0, y.0)) (omega arith) x.1 y.1
                  ]
                ]
              ]
            ];
        whole = λ c e has. elim (back c e has) [
          | inl q ↦ (i, omega (arith, gap.in_range), (e1, subst (λ (x : ℕ). m x ≡ Some e1) (sym this) here, ap (λ (x : Linked). x.change.key) (sym q.1)))
          | inr old ↦
              let p = index.whole c e old in
              elim (cases_lt p.0 i) [
                | inl below ↦ (p.0, omega (arith, p.1), (p.2.0, subst (λ (x : ℕ). m x ≡ Some p.2.0) (sym (low p.0 below)) (kept _ p.2.0 p.2.1), p.2.2))
                | inr above ↦ (p.0 + 1, omega (arith, p.1), (p.2.0, subst (λ (x : ℕ). m x ≡ Some p.2.0) (sym (high p.0 above)) (kept _ p.2.0 p.2.1), p.2.2))
              ]
        ];
      }

-- what `add` sets: the index and the links with the new record, which has this link
pub record AreAdded (m : Cells) (heads : List ℕ) : Type 0 where
  pub index : AreHeads m heads
  pub chained : IsChained m

module _ (m : Cells) (cell : ℕ) (placed : IsPlaced m cell) where
  module _ (link : Option ℕ) where
    abbrev e1 : Linked
    e1 = with_older link placed.here.0

    here : with_link m cell link cell ≡ Some e1
    here = if_same cell (option_map (with_older link) (m cell)) (m cell) ∙ ap (option_map (with_older link)) placed.here.1

    fresh : without m cell cell ≡ None
    fresh = if_same cell None (m cell)

    others : (c : ℕ) → c ≢ cell → with_link m cell link c ≡ without m cell c
    others c differs = if_other c cell (option_map (with_older link) (m c)) (m c) differs ∙ sym (if_other c cell None (m c) differs)

    later : (b : ℕ) (g : Linked) → without m cell b ≡ Some g → g.change.key ≡ e1.change.key → g.change.revision < e1.change.revision
    later b g has same = placed.later placed.here.0 placed.here.1 b g has same

  same_key : entry_key (m cell) ≡ placed.here.0.change.key
  same_key = ap entry_key placed.here.1

  -- a head that has the key had it without the new record
  at_without : (heads : List ℕ) (i : ℕ) → AreHeads (without m cell) heads → IsAt m heads (entry_key (m cell)) i → IsAt (without m cell) heads placed.here.0.change.key i
  at_without heads i index at =
      let n = index.newest i at.in_range in
      let same : n.0 ≡ at.of_key.0 = one_linked (m (get_or heads i 0)) n.0 at.of_key.0 (without_some m cell _ n.0 n.1).1 at.of_key.1 in
      record { in_range = at.in_range; of_key = (n.0, n.1, ap (λ (x : Linked). x.change.key) same ∙ at.of_key.2 ∙ same_key) }

  gap_without : (heads : List ℕ) (i : ℕ) → IsGapFor m heads (entry_key (m cell)) i → IsGapFor (without m cell) heads placed.here.0.change.key i
  gap_without heads i gap = record {
    in_range = gap.in_range;
    smaller_before = λ j e lt has. subst (λ (k : List ℕ). key_cmp e.change.key k ≡ Less) same_key (gap.smaller_before j e lt (without_some m cell _ e has).1);
    greater_after = λ j e le lt has. subst (λ (k : List ℕ). key_cmp e.change.key k ≡ Greater) same_key (gap.greater_after j e le lt (without_some m cell _ e has).1);
  }

  pub added_at : (heads : List ℕ) (i h : ℕ) → AreHeads (without m cell) heads → IsChained (without m cell) → IsAt m heads (entry_key (m cell)) i → h ≡ get_or heads i 0 → AreAdded (with_link m cell (Some h)) (set heads i cell)
  added_at heads i h index chained at is =
      let link : Option ℕ = Some h in
      let old = at_without heads i index at in
      let n = index.newest i at.in_range in
      record {
        index = index_replaced _ _ cell (e1 link) (fresh link) (here link) (others link) (later link) heads i index old;
        chained = chained_added _ _ cell (e1 link) (fresh link) (here link) (others link) (later link) chained
            (λ d eq.
            let to : h ≡ d = let p : link ≡ Some d = eq in cc in
            let there : get_or heads i 0 ≡ d = sym is ∙ to in
            let same : n.0 ≡ old.of_key.0 = one_linked (without m cell (get_or heads i 0)) n.0 old.of_key.0 n.1 old.of_key.1 in
            (n.0, subst (λ (x : ℕ). without m cell x ≡ Some n.0) there n.1, ap (λ (x : Linked). x.change.key) same ∙ old.of_key.2, n.2))
            (λ eq. let p : link ≡ None = eq in let bad : ⊥ = cc in absurd bad);
      }

  pub added_new : (heads : List ℕ) (i : ℕ) → AreHeads (without m cell) heads → IsChained (without m cell) → IsGapFor m heads (entry_key (m cell)) i → AreAdded (with_link m cell None) (insert heads i cell)
  added_new heads i index chained gap =
      let link : Option ℕ = None in
      let old = gap_without heads i gap in
      record {
        index = index_inserted _ _ cell (e1 link) (fresh link) (here link) (others link) (later link) heads i index old;
        chained = chained_added _ _ cell (e1 link) (fresh link) (here link) (others link) (later link) chained
            (λ d eq. let p : link ≡ Some d = eq in let bad : ⊥ = cc in absurd bad)
            (λ _. none_from_gap _ heads _ i index old);
      }
