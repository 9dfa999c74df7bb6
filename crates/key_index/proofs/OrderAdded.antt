-- One record more, after all others.
use Rattle.std.proofs.Common.{◌≡◌, ◌≢◌, ℕ, ◌<◌, ◌≤◌, List, [], ◌∷◌, ◌++◌, get_or, Option, Some, None, is_some, option_map, true, false, sym, ap, ◌∙◌, refl, subst, arith, inl, inr}
use mathlib.Core.Path.{fun_ext}
use Rattle.std.specs.List.{All, AllByRecursion, cons_option}
use Rattle.std.proofs.lemmas.Bool.{cases_eq}
use Rattle.std.proofs.lemmas.List.Elements.{All-head, All-tail, All-push, filter_map-append}
use Rattle.etcd_model.specs.Changes.{Recorded, Rises}
use Rattle.model_laws.proofs.HeldLaws.{rises_push}
use Rattle.model_laws.proofs.LastIsLaws.{all_in}
use Rattle.key_index.specs.Links.{Cells, Linked, change_at, without, IsPlaced, SameChanges}
use Rattle.key_index.specs.Compaction.{times}
use Rattle.key_index.specs.Order.{AreAll, IsInOrder, changes_in, with_record}
use Rattle.key_index.proofs.Links.{if_same, if_other, one_linked}
use Rattle.key_index.proofs.Compacted.{change_some, linked_some}
use Rattle.key_index.proofs.Times.{times_push_here, times_push_other, times_none}
use Rattle.key_index.proofs.Order.{all_from_each, which, change_in, cell_in}

-- ---- what holds of each record, and of each change in order

pub each_change : (P : Recorded → Type 0) (cells : Cells) (cs : List ℕ) → ((c : ℕ) (e : Linked) → cells c ≡ Some e → P e.change) → AllByRecursion P (changes_in cells cs)
each_change P cells cs each = all_from_each P (changes_in cells cs) (λ y h. (let q = cell_in cells y cs h in subst P q.is (each q.cell q.linked q.at)))

pub each_record : (P : Recorded → Type 0) (cells : Cells) (order : List ℕ) → AreAll cells order → AllByRecursion P (changes_in cells order) → (c : ℕ) (e : Linked) → cells c ≡ Some e → P e.change
each_record P cells order all holds c e at = all_in P (changes_in cells order) e.change holds (change_in cells c e order at (omega (arith, all.once c e at)))

-- ---- a record under a fresh cell

pub at_record : (cells : Cells) (c : ℕ) (e : Linked) → with_record cells c e c ≡ Some e
at_record cells c e = if_same c (Some e) (cells c)

-- without it all is as before
pub without_record : (cells : Cells) (c : ℕ) (e : Linked) → cells c ≡ None → without (with_record cells c e) c ≡ cells
without_record cells c e fresh = fun_ext (λ b. elim (cases_eq b c) [
  | inl same ↦ subst (λ (x : ℕ). without (with_record cells c e) c x ≡ cells x) (sym same) (if_same c None (with_record cells c e c) ∙ sym fresh)
  | inr differs ↦ if_other b c None (with_record cells c e b) differs ∙ if_other b c (Some e) (cells b) differs
])

-- where it is newer than the others of its key it can be taken up
pub placed_record : (cells : Cells) (c : ℕ) (e : Linked) → cells c ≡ None
    → ((b : ℕ) (g : Linked) → cells b ≡ Some g → g.change.key ≡ e.change.key → g.change.revision < e.change.revision) → IsPlaced (with_record cells c e) c
placed_record cells c e fresh later = record {
  here = (e, at_record cells c e);
  later = λ f at b g has same.
      let one : f ≡ e = one_linked (with_record cells c e c) f e at (at_record cells c e) in
      let old : cells b ≡ Some g = subst (λ (m : Cells). m b ≡ Some g) (without_record cells c e fresh) has in
      subst (λ (x : Linked). g.change.revision < x.change.revision) (sym one) (later b g old (subst (λ (x : Linked). g.change.key ≡ x.change.key) one same));
}

-- where the same changes stand under some cells
changes_alike : (old new : Cells) (cs : List ℕ) → All (λ c. change_at new c ≡ change_at old c) cs → changes_in new cs ≡ changes_in old cs
changes_alike old new [] alike = refl
changes_alike old new (c ∷ cs) alike =
    ap (λ o. cons_option o (changes_in new cs)) (All-head (λ c. change_at new c ≡ change_at old c) c cs alike)
    ∙ ap (cons_option (change_at old c)) (changes_alike old new cs (All-tail (λ c. change_at new c ≡ change_at old c) c cs alike))

has_change : (cells : Cells) (c : ℕ) (x : Recorded) → change_at cells c ≡ Some x → is_some (cells c) ≡ true
has_change cells c x is = let e = linked_some cells c x is in ap is_some e.1

-- Under a fresh cell is one record more, and links may differ.
module _ (old new : Cells) (c : ℕ) (e : Linked) (fresh : old c ≡ None) (same : SameChanges (with_record old c e) new) where
  pub change_here : change_at new c ≡ Some e.change
  change_here = same c ∙ change_some (with_record old c e) c e (at_record old c e)

  pub change_there : (b : ℕ) → b ≢ c → change_at new b ≡ change_at old b
  change_there b differs = same b ∙ ap (option_map (λ (x : Linked). x.change)) (if_other b c (Some e) (old b) differs)

  pub not_fresh : (b : ℕ) → is_some (old b) ≡ true → b ≢ c
  not_fresh b has eq =
      let none : is_some (old b) ≡ false = ap (λ (x : ℕ). is_some (old x)) eq ∙ ap is_some fresh in
      cc

  module _ (order : List ℕ) (all : AreAll old order) where
    -- its change comes after all others
    pub changes_added : changes_in new (order ++ c ∷ []) ≡ changes_in old order ++ e.change ∷ []
    changes_added =
        let before : changes_in new order ≡ changes_in old order = changes_alike old new order (λ k d lt. change_there (get_or order k d) (not_fresh (get_or order k d) (all.some k d lt))) in
        filter_map-append (change_at new) order (c ∷ [])
        ∙ ap (λ (xs : List Recorded). xs ++ changes_in new (c ∷ [])) before
        ∙ ap (λ (o : Option Recorded). changes_in old order ++ cons_option o []) change_here

    -- its cell stands once among all
    pub all_added : AreAll new (order ++ c ∷ [])
    all_added = record {
      once = λ b g has. elim (cases_eq b c) [
        | inl eq ↦
            let none = times_none c order (λ i lt. not_fresh (get_or order i 0) (all.some i 0 lt)) in
            let once : times c (order ++ c ∷ []) ≡ 1 = omega (arith, none, times_push_here c order) in
            subst (λ (x : ℕ). times x (order ++ c ∷ []) ≡ 1) (sym eq) once
        | inr differs ↦
            let f = linked_some old b g.change (sym (change_there b differs) ∙ change_some new b g has) in
            times_push_other b c order (λ eq. differs (sym eq)) ∙ all.once b f.0 f.1
      ];
      some = All-push (λ x. is_some (new x) ≡ true) order c (λ k d lt. (
          let f = which (old (get_or order k d)) (all.some k d lt) in
          has_change new (get_or order k d) f.0.change (change_there (get_or order k d) (not_fresh (get_or order k d) (all.some k d lt)) ∙ change_some old (get_or order k d) f.0 f.1)))
          (has_change new c e.change change_here);
    }

    -- in order, where no other is of a later revision
    pub in_order_added : IsInOrder old order → AllByRecursion (λ x. x.revision ≤ e.change.revision) (changes_in old order) → IsInOrder new (order ++ c ∷ [])
    in_order_added rises up = subst Rises (sym changes_added) (rises_push (changes_in old order) e.change rises up)
