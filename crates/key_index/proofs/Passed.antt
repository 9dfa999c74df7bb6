-- A compaction that has visited all changes up to its revision.
use Rattle.std.proofs.Common.{◌≡◌, ℕ, suc, ◌+◌, ◌<◌, ◌≤◌, List, [], ◌∷◌, ◌++◌, length, get_or, take, drop, Option, Some, is_some, Bool, true, sym, ap, ◌∙◌, refl, subst, append_assoc, arith, inl, inr, ◌⊎◌}
use Rattle.std.specs.Prelude.{filter, if◌then◌else◌, ◌==◌}
use Rattle.std.proofs.lemmas.Bool.{cases_Bool, cases_lt}
use Rattle.std.proofs.lemmas.List.{get_or-drop, length-drop, take-append-drop}
use Rattle.std.proofs.lemmas.List.Elements.{filter-append}
use Rattle.std.proofs.lemmas.List.Sums.{sum_by-append}
use Rattle.etcd_model.specs.Changes.{Recorded}
use Rattle.key_index.specs.Links.{Cells, Linked}
use Rattle.key_index.specs.Compaction.{AreDone, IsBehindNone, IsCompacted, IsKept, times}
use Rattle.key_index.specs.Order.{AreAll, AreSettled, IsSettled, with_records}
use Rattle.key_index.proofs.Compacted.{change_some, linked_some}
use Rattle.key_index.proofs.Leaving.{settled_at}
use Rattle.key_index.proofs.Times.{filter_no, filter_yes}
use Rattle.key_index.proofs.Visited.{done_or_not, place_of}
use Rattle.key_index.proofs.Whole.{key_of}

module _ (m now : Cells) (st cs : List ℕ) (revision i : ℕ) (all : AreAll m (st ++ cs)) (settled : AreSettled m st) (so_far : AreDone m now cs revision i) (later : (j : ℕ) (e : Linked) → i ≤ j → j < length cs → m (get_or cs j 0) ≡ Some e → revision < e.change.revision) where
  where_is : (c : ℕ) (e : Linked) → m c ≡ Some e → (1 ≤ times c st) ⊎ ((j : ℕ) × (j < length cs) × (get_or cs j 0 ≡ c))
  where_is c e has =
      let both = sum_by-append (λ x. if x == c then 1 else 0) st cs in
      elim (cases_lt 0 (times c st)) [
        | inl stands ↦ inl stands
        | inr few ↦ inr (place_of c cs (omega (arith, all.once c e has, both, few)))
      ]

  -- nothing of a key that was not visited has to go
  kept_unvisited : (c : ℕ) (e : Linked) → m c ≡ Some e → IsBehindNone m cs i e.change.key → IsKept m revision e.change
  kept_unvisited c e has none = elim (where_is c e has) [
    | inl stands ↦
        let s = settled_at m st settled c stands e has in
        inr (
          s.0,
          λ b g at same below. elim (where_is b g at) [
            | inl too ↦ (settled_at m st settled b too g at).1 c e has (sym same)
            | inr p ↦
                let there : m (get_or cs p.0 0) ≡ Some g = subst (λ (x : ℕ). m x ≡ Some g) (sym p.2) at in
                elim (cases_lt p.0 i) [
                  | inl before ↦ absurd (none p.0 g before there same)
                  | inr from ↦ absurd (omega (arith, later p.0 g from p.1 there, below))
                ]
          ],
        )
    | inr p ↦
        let there : m (get_or cs p.0 0) ≡ Some e = subst (λ (x : ℕ). m x ≡ Some e) (sym p.2) has in
        elim (cases_lt p.0 i) [
          | inl before ↦ absurd (none p.0 e before there refl)
          | inr from ↦ inl (omega (arith, later p.0 e from p.1 there))
        ]
  ]

  pub all_passed : IsCompacted m now revision
  all_passed = record {
    stays = λ c e has kept. elim (done_or_not m now cs revision i so_far e.change.key) [
      | inl done ↦ done.stays c e has refl kept
      | inr none ↦ change_some now c e ((so_far.others e.change.key none).there c e has refl)
    ];
    only = λ c e has. elim (done_or_not m now cs revision i so_far e.change.key) [
      | inl done ↦ done.only c e has refl
      | inr none ↦
          let f = so_far.back c e has in (
            change_some m c f.0 f.1 ∙ ap (λ (x : Recorded). let q : Option Recorded = Some x in q) f.2,
            subst (IsKept m revision) f.2 (kept_unvisited c f.0 f.1 (subst (IsBehindNone m cs i) (sym (key_of f.0 e f.2)) none)),
          )
    ];
  }

-- ---- what is settled then

module _ (m new : Cells) (revision : ℕ) (compacted : IsCompacted m new revision) where
  -- what is left from below the revision
  pub newly_settled : (s : ℕ) → ((e : Linked) → m s ≡ Some e → e.change.revision < revision) → IsSettled new s
  newly_settled s below e has =
      let o = compacted.only s e has in
      let f = linked_some m s e.change o.0 in
      let rev : f.0.change.revision ≡ e.change.revision = ap (λ (y : Recorded). y.revision) f.2 in
      let less = below f.0 f.1 in
      elim o.1 [
        | inl from ↦ absurd (omega (arith, from, less, rev))
        | inr p ↦ (
          p.0,
          λ b g at same. elim (compacted.only b g at).1 [
            | inl from ↦ omega (arith, from, less, rev)
            | inr q ↦ omega (arith, q.1 s f.0 f.1 (key_of f.0 e f.2 ∙ sym same) (omega (arith, less)), rev)
          ],
        )
      ]

  kept_from : (s : ℕ) (e : Linked) → m s ≡ Some e → revision ≤ e.change.revision → is_some (new s) ≡ true
  kept_from s e has from = let h = linked_some new s e.change (compacted.stays s e has (inl from)) in ap is_some h.1

-- those from the revision on all stay
pub all_pass : (p : ℕ → Bool) (xs : List ℕ) → ((j : ℕ) → j < length xs → p (get_or xs j 0) ≡ true) → filter p xs ≡ xs
all_pass p [] each = refl
all_pass p (x ∷ xs) each = filter_yes p x xs (each 0 (omega arith)) ∙ ap (λ (ys : List ℕ). x ∷ ys) (all_pass p xs (λ j lt. each (suc j) (omega (arith, lt))))

-- the cells that are left are those that were settled, those below the revision, and all from it on
pub order_left : (m new : Cells) (st cs : List ℕ) (revision n : ℕ) → IsCompacted m new revision
    → ((j : ℕ) → n ≤ j → j < length cs → (e : Linked) × (m (get_or cs j 0) ≡ Some e) × (revision ≤ e.change.revision))
    → (with_records new st ++ with_records new (take n cs)) ++ drop n cs ≡ with_records new (st ++ cs)
order_left m new st cs revision n compacted from =
    let p = λ (c : ℕ). is_some (new c) in
    let rest : filter p (drop n cs) ≡ drop n cs = all_pass p (drop n cs) (λ j lt. (
    let f = from (n + j) (omega arith) (omega (arith, lt, length-drop n cs)) in
    subst (λ (x : ℕ). is_some (new x) ≡ true) (sym (get_or-drop n cs j 0)) (kept_from m new revision compacted (get_or cs (n + j) 0) f.0 f.1 f.2))) in
    ap (λ (ys : List ℕ). (filter p st ++ filter p (take n cs)) ++ ys) (sym rest)
    ∙ ap (λ (ys : List ℕ). ys ++ filter p (drop n cs)) (sym (filter-append p st (take n cs)))
    ∙ sym (filter-append p (st ++ take n cs) (drop n cs))
    ∙ ap (filter p) (append_assoc st (take n cs) (drop n cs) ∙ ap (λ (ys : List ℕ). st ++ ys) (take-append-drop n cs))

-- ---- lists of settled cells

pub settled_both : (cells : Cells) (xs ys : List ℕ) → AreSettled cells xs → AreSettled cells ys → AreSettled cells (xs ++ ys)
settled_both cells [] ys first second = second
settled_both cells (x ∷ xs) ys first second = (first.0, settled_both cells xs ys first.1 second)

pub settled_filtered : (cells : Cells) (p : ℕ → Bool) (xs : List ℕ) → AreSettled cells xs → AreSettled cells (filter p xs)
settled_filtered cells p [] all = tt
settled_filtered cells p (x ∷ xs) all = elim (cases_Bool (p x)) [
  | inl on ↦ subst (AreSettled cells) (sym (filter_yes p x xs on)) (all.0, settled_filtered cells p xs all.1)
  | inr off ↦ subst (AreSettled cells) (sym (filter_no p x xs off)) (settled_filtered cells p xs all.1)
]

-- what is left from below the revision is settled
pub settled_newly : (m new : Cells) (revision : ℕ) → IsCompacted m new revision → (xs : List ℕ) → ((j : ℕ) (e : Linked) → j < length xs → m (get_or xs j 0) ≡ Some e → e.change.revision < revision) → AreSettled new xs
settled_newly m new revision compacted [] below = tt
settled_newly m new revision compacted (x ∷ xs) below = (newly_settled m new revision compacted x (λ e has. below 0 e (omega arith) has), settled_newly m new revision compacted xs (λ j e lt has. below (suc j) e (omega (arith, lt)) has))

-- those that pass are no more than all
pub no_more : (p : ℕ → Bool) (xs : List ℕ) → length (filter p xs) ≤ length xs
no_more p [] = omega arith
no_more p (x ∷ xs) = elim (cases_Bool (p x)) [
  | inl on ↦ omega (arith, ap (λ (ys : List ℕ). length ys) (filter_yes p x xs on), no_more p xs)
  | inr off ↦ omega (arith, ap (λ (ys : List ℕ). length ys) (filter_no p x xs off), no_more p xs)
]
