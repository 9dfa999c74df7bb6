-- Where a compaction cuts a chain.
use Rattle.std.proofs.Common.{◌≡◌, ℕ, ◌<◌, ◌≤◌, List, true, false, Option, Some, None, is_some, MatchOption, sym, ap, ◌∙◌, refl, subst, arith, inl, inr, ◌⊎◌}
use Rattle.std.proofs.lemmas.Bool.{cases_Bool, cases_eq, cases_lt}
use Rattle.key_index.specs.Links.{Cells, Linked, IsChained, IsBefore, IsNewest}
use Rattle.key_index.specs.Compaction.{IsKept, CutsAt}
use Rattle.key_index.proofs.Links.{one_linked, revision_at}
use Rattle.key_index.proofs.Dropped.{left}

-- those of the key that were passed are later than the revision, and the last of them links to the next
pub record IsWalking (m : Cells) (key : List ℕ) (revision head : ℕ) (last next : Option ℕ) : Type 0 where
  pub above : MatchOption next ((b : ℕ) (g : Linked) → m b ≡ Some g → g.change.key ≡ key → revision < g.change.revision)
      (λ c. (e : Linked) × (m c ≡ Some e) × (e.change.key ≡ key) × ((b : ℕ) (g : Linked) → m b ≡ Some g → g.change.key ≡ key → e.change.revision < g.change.revision → revision < g.change.revision))
  pub linked : MatchOption last (next ≡ Some head) (λ c. (e : Linked) × (m c ≡ Some e) × (e.change.key ≡ key) × (e.older ≡ next))

pub walk_start : (m : Cells) (revision head : ℕ) (n : IsNewest m head) → IsWalking m n.0.change.key revision head None (Some head)
walk_start m revision head n = record {
  above = (n.0, n.1, refl, λ b g has key later. absurd (omega (arith, later, n.2 b g has key)));
  linked = refl;
}

module _ (m : Cells) (key : List ℕ) (revision head : ℕ) (chained : IsChained m) where
  module _ (end : Option ℕ) (c : ℕ) (w : IsWalking m key revision head end (Some c)) where
    e : Linked
    e = w.above.0

    -- what isn't earlier than the record before is not earlier than this one
    from_before : (d : ℕ) (f : Linked) → IsBefore m d f w.above.0 → (b : ℕ) (g : Linked) → m b ≡ Some g → g.change.key ≡ key → f.change.revision < g.change.revision → w.above.0.change.revision ≤ g.change.revision
    from_before d f before b g has same later = elim (cases_lt g.change.revision w.above.0.change.revision) [
      | inl lt ↦ absurd (omega (arith, later, before.next b g has (same ∙ sym w.above.2) lt))
      | inr ge ↦ ge
    ]

    later : (b : ℕ) (g : Linked) → revision < w.above.0.change.revision → m b ≡ Some g → g.change.key ≡ key → w.above.0.change.revision ≤ g.change.revision → revision < g.change.revision
    later b g above has same le = omega arith

    pub walk_on : (o : Option ℕ) → w.above.0.older ≡ o → revision < w.above.0.change.revision → IsWalking m key revision head (Some c) o
    walk_on None link above = record {
      above = λ b g has same. omega (arith, above, chained.oldest c w.above.0 w.above.1 link b g has (same ∙ sym w.above.2));
      linked = (w.above.0, w.above.1, w.above.2, link);
    }
    walk_on (Some d) link above =
        let p = chained.linked c d w.above.0 w.above.1 link in
        record {
          above = (p.0, p.1.at, p.1.key ∙ w.above.2, λ b g has same after. omega (arith, above, from_before d p.0 p.1 b g has same after));
          linked = (w.above.0, w.above.1, w.above.2, link);
        }

    -- those that aren't earlier than a kept record are kept
    kept_from : IsKept m revision w.above.0.change → (b : ℕ) (g : Linked) → m b ≡ Some g → g.change.key ≡ key → w.above.0.change.revision ≤ g.change.revision → IsKept m revision g.change
    kept_from kept b g has same le = elim (cases_lt w.above.0.change.revision g.change.revision) [
      | inl lt ↦ inl (omega (arith, w.above.3 b g has same lt))
      | inr ge ↦
          let eq : b ≡ c = chained.unique b c g w.above.0 has w.above.1 (same ∙ sym w.above.2) (omega arith) in
          let one : w.above.0 ≡ g = one_linked (m c) w.above.0 g w.above.1 (subst (λ (x : ℕ). m x ≡ Some g) eq has) in
          subst (λ (x : Linked). IsKept m revision x.change) one kept
    ]

    -- nothing before a record up to the revision is kept
    not_kept : w.above.0.change.revision ≤ revision → (b : ℕ) (g : Linked) → m b ≡ Some g → g.change.key ≡ key → g.change.revision < w.above.0.change.revision → IsKept m revision g.change → ⊥
    not_kept le b g has same lt kept = elim kept [
      | inl from ↦ omega (arith, from, le, lt)
      | inr p ↦ omega (arith, lt, p.1 c w.above.0 w.above.1 (w.above.2 ∙ sym same) le)
    ]

    pub cut_after : (o : Option ℕ) → w.above.0.older ≡ o → w.above.0.change.revision ≤ revision → IsKept m revision w.above.0.change → CutsAt m key revision head (Some c) o
    cut_after None link le kept = record {
      first_gone = λ b g has same. kept_from kept b g has same (chained.oldest c w.above.0 w.above.1 link b g has (same ∙ sym w.above.2));
      last_kept = (w.above.0, w.above.1, w.above.2, link);
    }
    cut_after (Some d) link le kept =
        let p = chained.linked c d w.above.0 w.above.1 link in
        record {
          first_gone = (
            p.0,
            p.1.at,
            p.1.key ∙ w.above.2,
            λ b g has same after. kept_from kept b g has same (from_before d p.0 p.1 b g has same after),
            λ b g has same low. not_kept le b g has same (omega (arith, low, p.1.earlier)),
          );
          last_kept = (w.above.0, w.above.1, w.above.2, link);
        }

    pub cut_here : w.above.0.change.revision ≤ revision → (w.above.0.change.revision ≡ revision → ⊥) → is_some w.above.0.change.row ≡ false → CutsAt m key revision head end (Some c)
    cut_here le other delete = record {
      first_gone = (
        w.above.0,
        w.above.1,
        w.above.2,
        λ b g has same after. inl (omega (arith, w.above.3 b g has same after)),
        λ b g has same low kept. elim (cases_lt g.change.revision w.above.0.change.revision) [
          | inl lt ↦ not_kept le b g has same lt kept
          | inr ge ↦
              let eq : b ≡ c = chained.unique b c g w.above.0 has w.above.1 (same ∙ sym w.above.2) (omega arith) in
              let one : g ≡ w.above.0 = one_linked (m c) g w.above.0 (subst (λ (x : ℕ). m x ≡ Some g) eq has) w.above.1 in
              elim kept [
                | inl from ↦ other (omega (arith, from, le, ap (λ (x : Linked). x.change.revision) one))
                | inr p ↦ let put : is_some w.above.0.change.row ≡ true = subst (λ (x : Linked). is_some x.change.row ≡ true) one p.0 in cc (put, delete)
              ]
        ],
      );
      last_kept = w.linked;
    }

    -- from what the code tests
    pub cut_by_tests : (r0 r1 : Option ℕ) → w.above.0.change.revision ≤ revision
        → ((w.above.0.change.revision ≡ revision) ⊎ (is_some w.above.0.change.row ≡ true) → (r0 ≡ Some c) × (r1 ≡ w.above.0.older))
        → ((w.above.0.change.revision ≡ revision → ⊥) → is_some w.above.0.change.row ≡ false → (r0 ≡ end) × (r1 ≡ Some c))
        → CutsAt m key revision head r0 r1
    cut_by_tests r0 r1 le stays goes = elim (cases_eq w.above.0.change.revision revision) [
      | inl eq ↦
          let r = stays (inl eq) in
          subst (λ (o : Option ℕ). CutsAt m key revision head o r1) (sym r.0) (cut_after r1 (sym r.1) le (inl (omega (arith, eq))))
      | inr differs ↦ elim (cases_Bool (is_some w.above.0.change.row)) [
        | inl put ↦
            let r = stays (inr put) in
            subst (λ (o : Option ℕ). CutsAt m key revision head o r1) (sym r.0) (cut_after r1 (sym r.1) le (inr (
              put,
              λ b g has same low.
                  elim (cases_lt w.above.0.change.revision g.change.revision) [
                    | inl lt ↦ absurd (omega (arith, low, w.above.3 b g has (same ∙ w.above.2) lt))
                    | inr ge ↦ ge
                  ],
            )))
        | inr delete ↦
            let r = goes differs delete in
            subst (λ (o : Option ℕ). CutsAt m key revision head o r1) (sym r.0) (subst (λ (o : Option ℕ). CutsAt m key revision head end o) (sym r.1) (cut_here le differs delete))
      ]
    ]

-- the measure falls along a link
pub left_lower : (m : Cells) → IsChained m → (c : ℕ) (e : Linked) (o : Option ℕ) → m c ≡ Some e → e.older ≡ o → left m o < left m (Some c)
left_lower m chained c e None at link = omega arith
left_lower m chained c e (Some d) at link =
    let p = chained.linked c d e at link in
    let here : revision_at m c ≡ e.change.revision = rw at refl in
    let there : revision_at m d ≡ p.0.change.revision = rw p.1.at refl in
    omega (arith, here, there, p.1.earlier)
