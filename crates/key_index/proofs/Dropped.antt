-- A chain that is dropped from a record on.
use Rattle.std.proofs.Common.{◌≡◌, ◌≢◌, ℕ, suc, ◌<◌, ◌≤◌, List, Option, Some, None, MatchOption, sym, ap, ◌∙◌, refl, subst, arith, inl, inr}
use Rattle.std.proofs.lemmas.Bool.{cases_eq, cases_lt}
use Rattle.key_index.specs.Links.{Cells, Linked, IsChained, IsBefore, without}
use Rattle.key_index.specs.Compaction.{DropsBetween, DropsUpTo}
use Rattle.key_index.proofs.Links.{one_linked, if_same, if_other, without_some, revision_at}

-- the record that is next to be dropped
pub record IsNext (old new : Cells) (key : List ℕ) (top : ℕ) (c : ℕ) (e : Linked) : Type 0 where
  pub at : old c ≡ Some e
  pub of_key : e.change.key ≡ key
  pub below : e.change.revision ≤ top
  pub between : DropsBetween old new key e.change.revision top

-- what is dropped so far
abbrev pub Dropping : Cells → Cells → List ℕ → ℕ → Option ℕ → Type 0
Dropping old new key top next = MatchOption next (DropsUpTo old new key top) (λ c. (e : Linked) × IsNext old new key top c e)

abbrev pub left : Cells → Option ℕ → ℕ
left cells None = 0
left cells (Some c) = suc (revision_at cells c)

module _ (m n : Cells) (key : List ℕ) (top c : ℕ) (e : Linked) (chained : IsChained m) (next : IsNext m n key top c e) where
  -- it is still there
  pub still : n c ≡ Some e
  still = next.between.stays c e next.at (λ _. inl (omega arith))

  -- another record of the key that isn't later is earlier
  earlier : (b : ℕ) (g : Linked) → b ≢ c → m b ≡ Some g → g.change.key ≡ key → g.change.revision ≤ e.change.revision → g.change.revision < e.change.revision
  earlier b g differs has same le = elim (cases_lt g.change.revision e.change.revision) [
    | inl lt ↦ lt
    | inr ge ↦ absurd (differs (chained.unique b c g e has next.at (same ∙ sym next.of_key) (omega arith)))
  ]

  none_at : (b : ℕ) → n b ≡ None → without n c b ≡ None
  none_at b none = elim (cases_eq b c) [
    | inl same ↦ subst (λ (x : ℕ). without n c x ≡ None) (sym same) (if_same c None (n c))
    | inr differs ↦ if_other b c None (n b) differs ∙ none
  ]

  -- the next one goes too, down to the record before
  pub drops_to : (d : ℕ) (f : Linked) → IsBefore m d f e → IsNext m (without n c) key top d f
  drops_to d f before = record {
    at = before.at;
    of_key = before.key ∙ next.of_key;
    below = omega (arith, before.earlier, next.below);
    between = record {
      gone = λ b g has same low high. elim (cases_eq b c) [
        | inl eq ↦ subst (λ (x : ℕ). without n c x ≡ None) (sym eq) (if_same c None (n c))
        | inr differs ↦ elim (cases_lt e.change.revision g.change.revision) [
          | inl above ↦ none_at b (next.between.gone b g has same above high)
          | inr le ↦ absurd (omega (arith, low, before.next b g has (same ∙ sym next.of_key) (earlier b g differs has same le)))
        ]
      ];
      kept = λ b g has.
          let w = without_some n c b g has in
          let k = next.between.kept b g w.1 in (
            k.0,
            λ same. elim (k.1 same) [
              | inl le ↦ inl (before.next b g k.0 (same ∙ sym next.of_key) (earlier b g w.0 k.0 same le))
              | inr above ↦ inr above
            ],
          );
      stays = λ b g has where_it_is.
          let differs : b ≢ c = λ eq. (
          let one : g ≡ e = one_linked (m c) g e (subst (λ (x : ℕ). m x ≡ Some g) eq has) next.at in
          elim (where_it_is (ap (λ (x : Linked). x.change.key) one ∙ next.of_key)) [
            | inl low ↦ omega (arith, low, ap (λ (x : Linked). x.change.revision) one, before.earlier)
            | inr high ↦ omega (arith, high, ap (λ (x : Linked). x.change.revision) one, next.below)
          ]) in
          if_other b c None (n b) differs ∙ next.between.stays b g has (λ same. elim (where_it_is same) [
            | inl low ↦ inl (omega (arith, low, before.earlier))
            | inr high ↦ inr high
          ]);
    };
  }

  -- the oldest goes: then all are gone
  pub drops_all : ((b : ℕ) (g : Linked) → m b ≡ Some g → g.change.key ≡ e.change.key → e.change.revision ≤ g.change.revision) → DropsUpTo m (without n c) key top
  drops_all oldest = record {
    gone = λ b g has same high. elim (cases_eq b c) [
      | inl eq ↦ subst (λ (x : ℕ). without n c x ≡ None) (sym eq) (if_same c None (n c))
      | inr differs ↦ elim (cases_lt e.change.revision g.change.revision) [
        | inl above ↦ none_at b (next.between.gone b g has same above high)
        | inr le ↦ absurd (omega (arith, earlier b g differs has same le, oldest b g has (same ∙ sym next.of_key)))
      ]
    ];
    kept = λ b g has.
        let w = without_some n c b g has in
        let k = next.between.kept b g w.1 in (
          k.0,
          λ same. elim (k.1 same) [
            | inl le ↦ absurd (omega (arith, earlier b g w.0 k.0 same le, oldest b g k.0 (same ∙ sym next.of_key)))
            | inr above ↦ above
          ],
        );
    stays = λ b g has above.
        let differs : b ≢ c = λ eq. (
        let one : g ≡ e = one_linked (m c) g e (subst (λ (x : ℕ). m x ≡ Some g) eq has) next.at in
        omega (arith, above (ap (λ (x : Linked). x.change.key) one ∙ next.of_key), ap (λ (x : Linked). x.change.revision) one, next.below)) in
        if_other b c None (n b) differs ∙ next.between.stays b g has (λ same. inr (above same));
  }

  -- one step, whatever the link is
  pub drop_step : (o : Option ℕ) → e.older ≡ o → Dropping m (without n c) key top o
  drop_step None link = drops_all (chained.oldest c e next.at link)
  drop_step (Some d) link = let p = chained.linked c d e next.at link in (p.0, drops_to d p.0 p.1)

  pub left_falls : (o : Option ℕ) → e.older ≡ o → left m o < suc (revision_at m c)
  left_falls None link = omega arith
  left_falls (Some d) link =
      let p = chained.linked c d e next.at link in
      let here : revision_at m c ≡ e.change.revision = rw next.at refl in
      let there : revision_at m d ≡ p.0.change.revision = rw p.1.at refl in
      omega (arith, here, there, p.1.earlier)
