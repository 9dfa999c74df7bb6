-- A chain that was cut.
use Rattle.std.proofs.Common.{◌≡◌, ◌≢◌, ℕ, ◌<◌, ◌≤◌, List, Option, Some, None, option_map, Bool, true, false, sym, ap, ◌∙◌, refl, subst, arith, inl, inr, ◌⊎◌}
use Rattle.std.proofs.lemmas.Bool.{cases_eq, cases_lt}
use Rattle.etcd_model.specs.Changes.{Recorded}
use Rattle.key_index.specs.Links.{Cells, Linked, IsChained, IsBefore, IsNewest, change_at, with_link, with_older}
use Rattle.key_index.specs.Compaction.{IsKept, IsCompactedAt, Remains, DropsUpTo, CutsAt}
use Rattle.key_index.proofs.Links.{one_linked, if_same, if_other}

pub change_some : (m : Cells) (c : ℕ) (e : Linked) → m c ≡ Some e → change_at m c ≡ Some e.change
change_some m c e has = ap (option_map (λ (x : Linked). x.change)) has

pub linked_some : (m : Cells) (c : ℕ) (x : Recorded) → change_at m c ≡ Some x → (e : Linked) × (m c ≡ Some e) × (e.change ≡ x)
linked_some m c x is = go (m c) refl is
  where
    go : (o : Option Linked) → m c ≡ o → option_map (λ (e : Linked). e.change) o ≡ Some x → (e : Linked) × (m c ≡ Some e) × (e.change ≡ x)
    go None at h = let bad : ⊥ = cc in absurd bad
    go (Some e) at h = (e, at, cc)

-- A record that is left was there with the same change. It links on to what it linked to, which is left too, or it is the oldest that is left.
pub record IsLeft (m new : Cells) (e : Linked) (b : ℕ) : Type 0 where
  pub from : Linked
  pub at : m b ≡ Some from
  pub same : from.change ≡ e.change
  pub link : ((e.older ≡ from.older) × ((d : ℕ) (f : Linked) → from.older ≡ Some d → m d ≡ Some f → (h : Linked) × (new d ≡ Some h) × (h.change ≡ f.change)))
      ⊎ ((e.older ≡ None) × ((c : ℕ) (y : Linked) → new c ≡ Some y → y.change.key ≡ e.change.key → e.change.revision ≤ y.change.revision))

-- a record that is there as before is left, where what it links to is there with its change
untouched : (m new : Cells) → IsChained m → (b : ℕ) (e : Linked) → m b ≡ Some e → ((x : ℕ) (y : Linked) → IsBefore m x y e → (h : Linked) × (new x ≡ Some h) × (h.change ≡ y.change)) → IsLeft m new e b
untouched m new chained b e at there = record {
  from = e;
  at = at;
  same = refl;
  link = inl (
    refl,
    λ x y link has.
        let p = chained.linked b x e at link in
        there x y (subst (λ (z : Linked). IsBefore m x z e) (one_linked (m x) p.0 y p.1.at has) p.1),
  );
}

pub chained_left : (m new : Cells) → IsChained m → ((b : ℕ) (e : Linked) → new b ≡ Some e → IsLeft m new e b) → IsChained new
chained_left m new chained left = record {
  linked = λ c d e at older.
      let l = left c e at in
      elim l.link [
        | inl p ↦
            let link : l.from.older ≡ Some d = sym p.0 ∙ older in
            let n = chained.linked c d l.from l.at link in
            let f = n.0 in
            let h = p.1 d f link n.1.at in (
              h.0,
              record {
                at = h.1;
                key = ap (λ (x : Recorded). x.key) h.2 ∙ n.1.key ∙ ap (λ (x : Recorded). x.key) l.same;
                earlier = omega (arith, n.1.earlier, ap (λ (x : Recorded). x.revision) h.2, ap (λ (x : Recorded). x.revision) l.same);
                next = λ b g has key below.
                    let k = left b g has in
                    let less : k.from.change.revision < l.from.change.revision = omega (arith, below, ap (λ (x : Recorded). x.revision) k.same, ap (λ (x : Recorded). x.revision) l.same) in
                    let le = n.1.next b k.from k.at (ap (λ (x : Recorded). x.key) k.same ∙ key ∙ ap (λ (x : Recorded). x.key) (sym l.same)) less in
                    omega (arith, le, ap (λ (x : Recorded). x.revision) k.same, ap (λ (x : Recorded). x.revision) h.2);
              },
            )
        | inr p ↦ let bad : ⊥ = cc (p.0, older) in absurd bad
      ];
  oldest = λ c e at older b g has key.
      let l = left c e at in
      elim l.link [
        | inl p ↦
            let k = left b g has in
            let le = chained.oldest c l.from l.at (sym p.0 ∙ older) b k.from k.at (ap (λ (x : Recorded). x.key) k.same ∙ key ∙ ap (λ (x : Recorded). x.key) (sym l.same)) in
            omega (arith, le, ap (λ (x : Recorded). x.revision) k.same, ap (λ (x : Recorded). x.revision) l.same)
        | inr p ↦ p.1 b g has key
      ];
  unique = λ b c g e has at key same.
      let l = left c e at in
      let k = left b g has in
      chained.unique b c k.from l.from k.at l.at (ap (λ (x : Recorded). x.key) k.same ∙ key ∙ ap (λ (x : Recorded). x.key) (sym l.same)) (omega (arith, same, ap (λ (x : Recorded). x.revision) k.same, ap (λ (x : Recorded). x.revision) l.same));
}

-- what became of a chain
pub record IsCut (m new : Cells) (key : List ℕ) (revision head : ℕ) (left : Bool) : Type 0 where
  pub chained : IsChained new
  pub compacted : IsCompactedAt m new revision key
  pub remains : Remains new key head left

module _ (m : Cells) (revision head : ℕ) (chained : IsChained m) (n : IsNewest m head) where
  -- nothing goes
  pub cut_nothing : (last : Option ℕ) → CutsAt m n.0.change.key revision head last None → IsCut m m n.0.change.key revision head true
  cut_nothing last cut = record {
    chained = chained;
    compacted = record {
      stays = λ c e has key kept. change_some m c e has;
      only = λ c e has key. (change_some m c e has, cut.first_gone c e has key);
      others = λ c e other has. has;
      no_others = λ c e other has. has;
    };
    remains = n;
  }

  module _ (d : ℕ) (f : Linked) (at : m d ≡ Some f) (left : Cells) (drops : DropsUpTo m left f.change.key f.change.revision) where
    -- all goes, where the newest is the first to go
    pub cut_all : CutsAt m n.0.change.key revision head None (Some d) → IsCut m left n.0.change.key revision head false
    cut_all cut =
        let here : head ≡ d = let p : Some d ≡ Some head = cut.last_kept in cc in
        let one : n.0 ≡ f = one_linked (m d) n.0 f (subst (λ (x : ℕ). m x ≡ Some n.0) here n.1) at in
        let keys : n.0.change.key ≡ f.change.key = ap (λ (x : Linked). x.change.key) one in
        let revisions : n.0.change.revision ≡ f.change.revision = ap (λ (x : Linked). x.change.revision) one in
        -- none of the key is left
        let none : (c : ℕ) (e : Linked) → left c ≡ Some e → e.change.key ≢ n.0.change.key = λ c e has key.
        let k = drops.kept c e has in
        let above = k.1 (key ∙ keys) in
        let below = n.2 c e k.0 key in
        omega (arith, above, below, revisions) in
        record {
          chained = chained_left m left chained (λ b e has.
              untouched m left chained b e (drops.kept b e has).0 (λ x y linked_to.
              (y, drops.stays x y linked_to.at (λ key. absurd (none b e has (sym linked_to.key ∙ key ∙ sym keys))), refl)));
          compacted = record {
            stays = λ c e has key kept.
                let gone = cut.first_gone in
                let of : gone.0 ≡ f = one_linked (m d) gone.0 f gone.1 at in
                let below = n.2 c e has key in
                absurd (gone.4 c e has key (omega (arith, below, revisions, ap (λ (x : Linked). x.change.revision) of)) kept);
            only = λ c e has key. absurd (none c e has key);
            others = λ c e other has. drops.stays c e has (λ key. absurd (other (key ∙ sym keys)));
            no_others = λ c e other has. (drops.kept c e has).0;
          };
          remains = none;
        }

    module _ (l : ℕ) (cut : CutsAt m n.0.change.key revision head (Some l) (Some d)) where
      key0 : f.change.key ≡ n.0.change.key
      key0 = let gone = cut.first_gone in ap (λ (x : Linked). x.change.key) (one_linked (m d) f gone.0 at gone.1) ∙ gone.2

      -- the first that goes is the one before the last that stays
      before : IsBefore m d f cut.last_kept.0
      before =
          let p = chained.linked l d cut.last_kept.0 cut.last_kept.1 cut.last_kept.3 in
          subst (λ (x : Linked). IsBefore m d x cut.last_kept.0) (one_linked (m d) p.0 f p.1.at at) p.1

      -- what is later than the first that goes isn't earlier than the last that stays
      from_last : (c : ℕ) (e : Linked) → m c ≡ Some e → e.change.key ≡ n.0.change.key → f.change.revision < e.change.revision → cut.last_kept.0.change.revision ≤ e.change.revision
      from_last c e has key later = elim (cases_lt e.change.revision cut.last_kept.0.change.revision) [
        | inl lt ↦ absurd (omega (arith, later, before.next c e has (key ∙ sym cut.last_kept.2) lt))
        | inr ge ↦ ge
      ]

      -- and another one is later than it
      after_last : (c : ℕ) (e : Linked) → c ≢ l → m c ≡ Some e → e.change.key ≡ n.0.change.key → f.change.revision < e.change.revision → cut.last_kept.0.change.revision < e.change.revision
      after_last c e differs has key later = elim (cases_lt cut.last_kept.0.change.revision e.change.revision) [
        | inl lt ↦ lt
        | inr ge ↦ absurd (differs (chained.unique c l e cut.last_kept.0 has cut.last_kept.1 (key ∙ sym cut.last_kept.2) (omega (arith, ge, from_last c e has key later))))
      ]

      pub last_left : left l ≡ Some cut.last_kept.0
      last_left = drops.stays l cut.last_kept.0 cut.last_kept.1 (λ key. before.earlier)

      last_new : with_link left l None l ≡ Some (with_older None cut.last_kept.0)
      last_new = if_same l (option_map (with_older None) (left l)) (left l) ∙ ap (option_map (with_older None)) last_left

      other_new : (c : ℕ) → c ≢ l → with_link left l None c ≡ left c
      other_new c differs = if_other c l (option_map (with_older None) (left c)) (left c) differs

      -- what the drop left is there with its change
      still : (c : ℕ) (e : Linked) → left c ≡ Some e → (h : Linked) × (with_link left l None c ≡ Some h) × (h.change ≡ e.change)
      still c e has = elim (cases_eq c l) [
        | inl eq ↦ (
          with_older None cut.last_kept.0,
          subst (λ (x : ℕ). with_link left l None x ≡ Some (with_older None cut.last_kept.0)) (sym eq) last_new,
          ap (λ (x : Linked). x.change) (one_linked (left l) cut.last_kept.0 e last_left (subst (λ (x : ℕ). left x ≡ Some e) eq has)),
        )
        | inr differs ↦ (e, other_new c differs ∙ has, refl)
      ]

      -- a record that is left is the last that stays, or untouched
      was : (c : ℕ) (e : Linked) → with_link left l None c ≡ Some e → ((c ≡ l) × (e ≡ with_older None cut.last_kept.0)) ⊎ ((c ≢ l) × (left c ≡ Some e))
      was c e has = elim (cases_eq c l) [
        | inl eq ↦ inl (eq, one_linked (with_link left l None l) e (with_older None cut.last_kept.0) (subst (λ (x : ℕ). with_link left l None x ≡ Some e) eq has) last_new)
        | inr differs ↦ inr (differs, sym (other_new c differs) ∙ has)
      ]

      -- it was there with its change, and if it is of the key it is later than the first that goes
      was_there : (c : ℕ) (e : Linked) → with_link left l None c ≡ Some e → (g : Linked) × (m c ≡ Some g) × (g.change ≡ e.change) × (e.change.key ≡ n.0.change.key → f.change.revision < e.change.revision)
      was_there c e has = elim (was c e has) [
        | inl p ↦ (
          cut.last_kept.0,
          subst (λ (x : ℕ). m x ≡ Some cut.last_kept.0) (sym p.0) cut.last_kept.1,
          ap (λ (x : Linked). x.change) (sym p.1),
          λ key. omega (arith, before.earlier, ap (λ (x : Linked). x.change.revision) p.1),
        )
        | inr p ↦ let k = drops.kept c e p.1 in (e, k.0, refl, λ key. k.1 (key ∙ sym key0))
      ]

      is_left : (b : ℕ) (e : Linked) → with_link left l None b ≡ Some e → IsLeft m (with_link left l None) e b
      is_left b e has = elim (was b e has) [
        | inl p ↦ record {
          from = cut.last_kept.0;
          at = subst (λ (x : ℕ). m x ≡ Some cut.last_kept.0) (sym p.0) cut.last_kept.1;
          same = ap (λ (x : Linked). x.change) (sym p.1);
          link = inr (
            ap (λ (x : Linked). x.older) p.1,
            λ c y there key.
                let w = was_there c y there in
                let key_y : y.change.key ≡ n.0.change.key = key ∙ ap (λ (x : Linked). x.change.key) p.1 ∙ cut.last_kept.2 in
                let le = from_last c w.0 w.1 (ap (λ (x : Recorded). x.key) w.2 ∙ key_y) (omega (arith, w.3 key_y, ap (λ (x : Recorded). x.revision) w.2)) in
                omega (arith, le, ap (λ (x : Recorded). x.revision) w.2, ap (λ (x : Linked). x.change.revision) p.1),
          );
        }
        | inr p ↦
            let k = drops.kept b e p.1 in
            untouched m (with_link left l None) chained b e k.0 (λ x y linked_to.
            still x y (drops.stays x y linked_to.at (λ key.
            let key_e : e.change.key ≡ n.0.change.key = sym linked_to.key ∙ key ∙ key0 in
            let later = after_last b e p.0 k.0 key_e (k.1 (key_e ∙ sym key0)) in
            let le = linked_to.next l cut.last_kept.0 cut.last_kept.1 (cut.last_kept.2 ∙ sym key_e) later in
            omega (arith, le, before.earlier))))
      ]

      -- the newest is left
      newest_left : IsNewest (with_link left l None) head
      newest_left =
          let le = n.2 l cut.last_kept.0 cut.last_kept.1 cut.last_kept.2 in
          let h = still head n.0 (drops.stays head n.0 n.1 (λ key. omega (arith, le, before.earlier))) in (
            h.0,
            h.1,
            λ c e has key.
                let w = was_there c e has in
                let top = n.2 c w.0 w.1 (ap (λ (x : Recorded). x.key) w.2 ∙ key ∙ ap (λ (x : Recorded). x.key) h.2) in
                omega (arith, top, ap (λ (x : Recorded). x.revision) w.2, ap (λ (x : Recorded). x.revision) h.2),
          )

      pub cut_after : IsCut m (with_link left l None) n.0.change.key revision head true
      cut_after =
          let gone = cut.first_gone in
          let of : gone.0 ≡ f = one_linked (m d) gone.0 f gone.1 at in
          let top : gone.0.change.revision ≡ f.change.revision = ap (λ (x : Linked). x.change.revision) of in
          record {
            chained = chained_left m (with_link left l None) chained is_left;
            compacted = record {
              stays = λ c e has key kept. elim (cases_lt f.change.revision e.change.revision) [
                | inl later ↦
                    let h = still c e (drops.stays c e has (λ _. later)) in
                    change_some (with_link left l None) c h.0 h.1 ∙ ap (λ (x : Recorded). let o : Option Recorded = Some x in o) h.2
                | inr le ↦ absurd (gone.4 c e has key (omega (arith, le, top)) kept)
              ];
              only = λ c e has key.
                  let w = was_there c e has in
                  let later : gone.0.change.revision < w.0.change.revision = omega (arith, w.3 key, top, ap (λ (x : Recorded). x.revision) w.2) in
                  let kept = gone.3 c w.0 w.1 (ap (λ (x : Recorded). x.key) w.2 ∙ key) later in (
                    change_some m c w.0 w.1 ∙ ap (λ (x : Recorded). let o : Option Recorded = Some x in o) w.2,
                    subst (λ (x : Recorded). IsKept m revision x) w.2 kept,
                  );
              others = λ c e other has.
                  let differs : c ≢ l = λ eq. (
                  let one : e ≡ cut.last_kept.0 = one_linked (m l) e cut.last_kept.0 (subst (λ (x : ℕ). m x ≡ Some e) eq has) cut.last_kept.1 in
                  other (ap (λ (x : Linked). x.change.key) one ∙ cut.last_kept.2)) in
                  other_new c differs ∙ drops.stays c e has (λ key. absurd (other (key ∙ key0)));
              no_others = λ c e other has. elim (was c e has) [
                | inl p ↦ absurd (other (ap (λ (x : Linked). x.change.key) p.1 ∙ cut.last_kept.2))
                | inr p ↦ (drops.kept c e p.1).0
              ];
            };
            remains = newest_left;
          }
