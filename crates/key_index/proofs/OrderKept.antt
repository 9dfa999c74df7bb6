-- What a compaction leaves of the cells of all records.
use Rattle.std.proofs.Common.{◌≡◌, ℕ, ◌+◌, ◌<◌, ◌≤◌, List, [], ◌∷◌, Option, Some, is_some, true, sym, ap, ◌∙◌, refl, subst, arith, inl, inr, ◌⊎◌}
use Rattle.std.specs.Prelude.{sum_by}
use Rattle.std.specs.List.{All, AllByRecursion}
use Rattle.std.proofs.lemmas.Bool.{cases_Bool, cases_lt}
use Rattle.std.proofs.lemmas.List.Elements.{All-head, All-tail, filter_passes}
use Rattle.etcd_model.specs.Changes.{Recorded, Rises, keeps, kept}
use Rattle.model_laws.proofs.LastLaws.{some_or_none}
use Rattle.model_laws.proofs.LastIsLaws.{all_in, contains_from}
use Rattle.model_laws.proofs.KeptLaws.{kept_true, kept_false, kept_rises}
use Rattle.key_index.specs.Links.{Cells, Linked, IsChained, change_at}
use Rattle.key_index.specs.Compaction.{IsCompacted, IsKept, HasLater, GivesBack, held, times}
use Rattle.key_index.specs.Order.{AreAll, IsInOrder, changes_in, with_records}
use Rattle.key_index.proofs.Links.{one_linked}
use Rattle.key_index.proofs.Compacted.{change_some, linked_some}
use Rattle.key_index.proofs.Kept.{kept_as_defined}
use Rattle.key_index.proofs.Times.{times_cases, times_rest, times_here, times_filter, filter_yes, filter_no}
use Rattle.key_index.proofs.Order.{all_from_each, which, changes_some, changes_none, change_in, cell_in, held_is}

-- ---- those that have a record

-- a cell with no record has no change
pub changes_left : (cells : Cells) (cs : List ℕ) → changes_in cells (with_records cells cs) ≡ changes_in cells cs
changes_left cells [] = refl
changes_left cells (c ∷ cs) =
    let rest = changes_left cells cs in
    elim (some_or_none (cells c)) [
      | inl none ↦ ap (changes_in cells) (filter_no (λ x. is_some (cells x)) c cs (ap is_some none)) ∙ rest ∙ sym (changes_none cells c cs none)
      | inr e ↦
          ap (changes_in cells) (filter_yes (λ x. is_some (cells x)) c cs (ap is_some e.1))
          ∙ changes_some cells c e.0 (with_records cells cs) e.1 ∙ ap (λ (xs : List Recorded). e.0.change ∷ xs) rest ∙ sym (changes_some cells c e.0 cs e.1)
    ]

-- ---- the end of an order

-- Of all records in order, those of some cells are the last: another one isn't later than any of them.
record AreLast (cells : Cells) (cs : List ℕ) : Type 0 where
  some : All (λ c. is_some (cells c) ≡ true) cs
  once : (c : ℕ) (e : Linked) → cells c ≡ Some e → times c cs ≤ 1
  rises : Rises (changes_in cells cs)
  others : (c : ℕ) (e : Linked) → cells c ≡ Some e → (1 ≤ times c cs) ⊎ AllByRecursion (λ y. e.change.revision ≤ y.revision) (changes_in cells cs)

all_last : (cells : Cells) (order : List ℕ) → AreAll cells order → IsInOrder cells order → AreLast cells order
all_last cells order all rises = record {
  some = all.some;
  once = λ c e at. omega (arith, all.once c e at);
  rises = rises;
  others = λ c e at. inl (omega (arith, all.once c e at));
}

module _ (cells : Cells) (c : ℕ) (cs : List ℕ) (e : Linked) (at : cells c ≡ Some e) (last : AreLast cells (c ∷ cs)) where
  rises_from : Rises (e.change ∷ changes_in cells cs)
  rises_from = subst Rises (changes_some cells c e cs at) last.rises

  rest_last : AreLast cells cs
  rest_last = record {
    some = All-tail (λ x. is_some (cells x) ≡ true) c cs last.some;
    once = λ b g has. omega (arith, last.once b g has, times_rest b c cs);
    rises = rises_from.1;
    others = λ b g has. elim (last.others b g has) [
      | inl stands ↦ elim (times_cases b c cs stands) [
        | inl same ↦
            let one : e ≡ g = one_linked (cells c) e g at (subst (λ (x : ℕ). cells x ≡ Some g) (sym same) has) in
            inr (subst (λ (x : Linked). AllByRecursion (λ y. x.change.revision ≤ y.revision) (changes_in cells cs)) one rises_from.0)
        | inr later ↦ inl later
      ]
      | inr all ↦ inr (subst (AllByRecursion (λ y. g.change.revision ≤ y.revision)) (changes_some cells c e cs at) all).1
    ];
  }

  -- another record of the key that is later is among the rest
  later_there : (b : ℕ) (g : Linked) → cells b ≡ Some g → e.change.revision < g.change.revision → 1 ≤ times b cs
  later_there b g has after = elim (last.others b g has) [
    | inl stands ↦ elim (times_cases b c cs stands) [
      | inl same ↦
          let one : e ≡ g = one_linked (cells c) e g at (subst (λ (x : ℕ). cells x ≡ Some g) (sym same) has) in
          absurd (omega (arith, after, ap (λ (x : Linked). x.change.revision) one))
      | inr later ↦ later
    ]
    | inr all ↦
        let here : g.change.revision ≤ e.change.revision = (subst (AllByRecursion (λ y. g.change.revision ≤ y.revision)) (changes_some cells c e cs at) all).0 in
        absurd (omega (arith, here, after))
  ]

  -- among the rest a key changes later
  later_here : IsChained cells → (b : ℕ) (g : Linked) → cells b ≡ Some g → 1 ≤ times b cs → g.change.key ≡ e.change.key → e.change.revision ≤ g.change.revision → e.change.revision < g.change.revision
  later_here chained b g has stands key le = elim (cases_lt e.change.revision g.change.revision) [
    | inl less ↦ less
    | inr ge ↦
        let same : b ≡ c = chained.unique b c g e has at key (omega (arith, le, ge)) in
        absurd (omega (arith, last.once b g has, times_here b c cs (sym same), stands))
  ]

  has_later : IsChained cells → HasLater cells e.change (changes_in cells cs)
  has_later chained = record {
    there = λ b g has key after. contains_from g.change (changes_in cells cs) (change_in cells b g cs has (later_there b g has after));
    only = all_from_each (λ y. y.key ≡ e.change.key → (e.change.revision < y.revision) × ((b : ℕ) × (change_at cells b ≡ Some y))) (changes_in cells cs) (λ y h key. (
        let q = cell_in cells y cs h in
        let revision : q.linked.change.revision ≡ y.revision = ap (λ (x : Recorded). x.revision) q.is in
        let le : e.change.revision ≤ y.revision = all_in (λ x. e.change.revision ≤ x.revision) (changes_in cells cs) y rises_from.0 h in
        let less = later_here chained q.cell q.linked q.at q.stands (ap (λ (x : Recorded). x.key) q.is ∙ key) (omega (arith, le, revision)) in
        (omega (arith, less, revision), (q.cell, change_some cells q.cell q.linked q.at ∙ ap (λ (x : Recorded). let o : Option Recorded = Some x in o) q.is))));
  }

-- ---- what is kept

module _ (old new : Cells) (r : ℕ) (chained : IsChained old) (compacted : IsCompacted old new r) where
  kept_step : (c : ℕ) (cs : List ℕ) (e : Linked) → old c ≡ Some e → AreLast old (c ∷ cs) → changes_in new cs ≡ kept r (changes_in old cs) → changes_in new (c ∷ cs) ≡ kept r (changes_in old (c ∷ cs))
  kept_step c cs e at last rest =
      let defined = kept_as_defined old r e.change (changes_in old cs) (has_later old c cs e at last chained) in
      let before : kept r (changes_in old (c ∷ cs)) ≡ kept r (e.change ∷ changes_in old cs) = ap (kept r) (changes_some old c e cs at) in
      elim (cases_Bool (keeps r e.change (changes_in old cs))) [
        | inl keep ↦
            let f = linked_some new c e.change (compacted.stays c e at (defined.1 keep)) in
            changes_some new c f.0 cs f.1
            ∙ ap (λ (x : Recorded). x ∷ changes_in new cs) f.2
            ∙ ap (λ (xs : List Recorded). e.change ∷ xs) rest
            ∙ sym (kept_true r e.change (changes_in old cs) keep)
            ∙ sym before
        | inr lost ↦ elim (some_or_none (new c)) [
          | inl none ↦ changes_none new c cs none ∙ rest ∙ sym (kept_false r e.change (changes_in old cs) lost) ∙ sym before
          | inr g ↦
              let o = compacted.only c g.0 g.1 in
              let f = linked_some old c g.0.change o.0 in
              let one : g.0.change ≡ e.change = sym f.2 ∙ ap (λ (x : Linked). x.change) (one_linked (old c) f.0 e f.1 at) in
              let keep : keeps r e.change (changes_in old cs) ≡ true = defined.0 (subst (IsKept old r) one o.1) in
              let bad : ⊥ = cc (keep, lost) in absurd bad
        ]
      ]

  kept_of : (cs : List ℕ) → AreLast old cs → changes_in new cs ≡ kept r (changes_in old cs)
  kept_of [] last = refl
  kept_of (c ∷ cs) last =
      let e = which (old c) (All-head (λ x. is_some (old x) ≡ true) c cs last.some) in
      kept_step c cs e.0 e.1 last (kept_of cs (rest_last old c cs e.0 e.1 last))

  module _ (order : List ℕ) (all : AreAll old order) where
    -- what is left is what the definition keeps
    pub kept_in_order : IsInOrder old order → changes_in new (with_records new order) ≡ kept r (changes_in old order)
    kept_in_order rises = changes_left new order ∙ kept_of order (all_last old order all rises)

    -- in order
    pub in_order_left : IsInOrder old order → IsInOrder new (with_records new order)
    in_order_left rises = subst Rises (sym (kept_in_order rises)) (kept_rises r (changes_in old order) rises)

module _ (old new : Cells) (r : ℕ) (compacted : IsCompacted old new r) (order : List ℕ) (all : AreAll old order) where
  -- and of all records that are left
  pub all_left : AreAll new (with_records new order)
  all_left = record {
    once = λ c e has.
        let f = linked_some old c e.change (compacted.only c e has).0 in
        times_filter (λ x. is_some (new x)) c order (ap is_some has) ∙ all.once c f.0 f.1;
    some = filter_passes (λ x. is_some (new x)) order;
  }

-- what is free and what the records cost is as much as before
pub free_left : (cost : Recorded → ℕ) (old new : Cells) (free_old free_new : ℕ) (order : List ℕ) → GivesBack cost old new free_old free_new → AreAll old order
    → free_new + sum_by cost (changes_in new (with_records new order)) ≡ free_old + sum_by cost (changes_in old order)
free_left cost old new free_old free_new order gives all =
    let h = gives order all.once in
    let after : sum_by cost (changes_in new (with_records new order)) ≡ held cost new order = ap (sum_by cost) (changes_left new order) ∙ sym (held_is cost new order) in
    let before = held_is cost old order in
    omega (arith, h, after, before)
