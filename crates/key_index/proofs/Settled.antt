-- Cells that are settled, over a compaction and beside one record more.
use Rattle.std.proofs.Common.{◌≡◌, ℕ, ◌≤◌, List, [], ◌∷◌, filter, cond, Bool, Some, None, is_some, true, false, sym, ap, ◌∙◌, subst, arith, inl, inr}
use Rattle.std.specs.List.{All}
use Rattle.std.proofs.lemmas.Bool.{cases_eq}
use Rattle.std.proofs.lemmas.List.Elements.{All-head, All-tail}
use Rattle.etcd_model.specs.Changes.{Recorded}
use Rattle.key_index.specs.Links.{Cells, Linked, SameChanges, change_at}
use Rattle.key_index.specs.Compaction.{IsCompacted}
use Rattle.key_index.specs.Order.{AreSettled, IsSettled, with_record}
use Rattle.key_index.proofs.Links.{one_linked}
use Rattle.key_index.proofs.Compacted.{change_some, linked_some}
use Rattle.key_index.proofs.OrderAdded.{change_here, change_there, not_fresh}

-- ---- where each record had its change before

module _ (old new : Cells) (was : (c : ℕ) (e : Linked) → new c ≡ Some e → change_at old c ≡ Some e.change) where
  settled_still : (c : ℕ) → IsSettled old c → IsSettled new c
  settled_still c settled e at =
      let f = linked_some old c e.change (was c e at) in
      let first = settled f.0 f.1 in (
        subst (λ (x : Recorded). is_some x.row ≡ true) f.2 first.0,
        λ b g has key. (
            let h = linked_some old b g.change (was b g has) in
            let same = ap (λ (x : Recorded). x.key) h.2 ∙ key ∙ sym (ap (λ (x : Recorded). x.key) f.2) in
            omega (arith, first.1 b h.0 h.1 same, ap (λ (x : Recorded). x.revision) f.2, ap (λ (x : Recorded). x.revision) h.2)),
      )

  -- those of some that pass a test
  settled_passing : (p : ℕ → Bool) (cs : List ℕ) → AreSettled old cs → AreSettled new (filter p cs)
  settled_passing p [] all = tt
  settled_passing p (c ∷ cs) all = elim (p c) as (λ b. AreSettled new (cond b (c ∷ filter p cs) (filter p cs))) [
    | true ↦ (settled_still c all.0, settled_passing p cs all.1)
    | false ↦ settled_passing p cs all.1
  ]

-- those that a compaction leaves
pub settled_left : (old new : Cells) (r : ℕ) → IsCompacted old new r → (p : ℕ → Bool) (cs : List ℕ) → AreSettled old cs → AreSettled new (filter p cs)
settled_left old new r compacted = settled_passing old new (λ c e at. (compacted.only c e at).0)

-- ---- beside one record more, which is not before the others of its key

module _ (old new : Cells) (c : ℕ) (e : Linked) (fresh : old c ≡ None) (same : SameChanges (with_record old c e) new) (later : (b : ℕ) (g : Linked) → old b ≡ Some g → g.change.key ≡ e.change.key → g.change.revision ≤ e.change.revision) where
  settled_beside : (a : ℕ) → is_some (old a) ≡ true → IsSettled old a → IsSettled new a
  settled_beside a there settled f at =
      let g = linked_some old a f.change (sym (change_there old new c e fresh same a (not_fresh old new c e fresh same a there)) ∙ change_some new a f at) in
      let first = settled g.0 g.1 in (
        subst (λ (x : Recorded). is_some x.row ≡ true) g.2 first.0,
        λ b h has key. elim (cases_eq b c) [
          | inl eq ↦
              let here : change_at new b ≡ Some e.change = ap (change_at new) eq ∙ change_here old new c e fresh same in
              let k = linked_some new b e.change here in
              let is : h.change ≡ e.change = ap (λ (x : Linked). x.change) (one_linked (new b) h k.0 has k.1) ∙ k.2 in
              let of_key = ap (λ (x : Recorded). x.key) g.2 ∙ sym key ∙ ap (λ (x : Recorded). x.key) is in
              omega (arith, later a g.0 g.1 of_key, ap (λ (x : Recorded). x.revision) g.2, ap (λ (x : Recorded). x.revision) is)
          | inr differs ↦
              let k = linked_some old b h.change (sym (change_there old new c e fresh same b differs) ∙ change_some new b h has) in
              let of_key = ap (λ (x : Recorded). x.key) k.2 ∙ key ∙ sym (ap (λ (x : Recorded). x.key) g.2) in
              omega (arith, first.1 b k.0 k.1 of_key, ap (λ (x : Recorded). x.revision) g.2, ap (λ (x : Recorded). x.revision) k.2)
        ],
      )

  pub settled_added : (cs : List ℕ) → All (λ a. is_some (old a) ≡ true) cs → AreSettled old cs → AreSettled new cs
  settled_added [] there all = tt
  settled_added (a ∷ cs) there all = (
    settled_beside a (All-head (λ b. is_some (old b) ≡ true) a cs there) all.0,
    settled_added cs (All-tail (λ b. is_some (old b) ≡ true) a cs there) all.1,
  )
