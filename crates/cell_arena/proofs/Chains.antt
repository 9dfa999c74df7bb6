-- Chains over writes.
use Rattle.std.proofs.Common.{◌≡◌, ◌≢◌, ℕ, zero, suc, true, false, ◌+◌, ◌-◌, ◌^◌, ◌<◌, List, ◌++◌, length, Option, Some, None, refl, sym, ap, ◌∙◌, inl, inr, arith, subst, ◌⊎◌}
use Rattle.std.proofs.lemmas.Bool.{cases_eq, true≢false}
use Rattle.cell_arena.specs.declared.cell.Cell.{Cell}
use Rattle.cell_arena.specs.declared.cell.Cell.TheVariants.{Free, Head, Rest}
use Rattle.cell_arena.specs.declared.cell.HeadCell.{HeadCell}
use Rattle.cell_arena.specs.declared.cell.Kind.{Kind}
use Rattle.cell_arena.specs.Chain.{is_rest, link_of, bytes_of, Writes, IsChain, chain_bytes, head_pieces, IsUnlinked, IsLoose, IsLinked, record_with, record_of, record_at}

-- what the first cell of a chain adds
pub bytes_next : (at : ℕ → Cell) (m n : ℕ) (link next : Option ℕ) (bytes : List ℕ) → link ≡ Some n → at n ≡ Rest bytes next → chain_bytes at (suc m) link ≡ bytes ++ chain_bytes at m next
bytes_next at m n link next bytes is read =
    ap (chain_bytes at (suc m)) is ∙ ap (λ (c : Cell). bytes_of c ++ chain_bytes at m (link_of c)) read

-- a cell that is no Rest is linked by none
pub unlinked : (at : ℕ → Cell) (k : ℕ) → IsLinked at → is_rest (at k) ≡ false → IsUnlinked at k
unlinked at k linked isnt i names = true≢false (sym (linked.rests i k names) ∙ isnt)

-- a write of an unlinked cell leaves each chain that doesn't begin there
pub chain_kept : (old new : ℕ → Cell) (k : ℕ) (cell : Cell) → Writes old new k cell → IsUnlinked old k → (m : ℕ) (link : Option ℕ) → link ≢ Some k → IsChain old m link → IsChain new m link × (chain_bytes new m link ≡ chain_bytes old m link)
chain_kept old new k cell written free zero link apart p = (p, refl)
chain_kept old new k cell written free (suc m) link apart p =
    let other : p.0 ≢ k = λ same. apart (p.3 ∙ ap Some same) in
    let read : new p.0 ≡ Rest p.1 p.2 = written.others p.0 other ∙ p.4 in
    let apart' : p.2 ≢ Some k = λ same. free p.0 (ap link_of p.4 ∙ same) in
    let rest = chain_kept old new k cell written free m p.2 apart' p.6 in (
      (p.0, p.1, p.2, p.3, read, p.5, rest.0),
      bytes_next new m p.0 link p.2 p.1 p.3 read ∙ ap (λ (bs : List ℕ). p.1 ++ bs) rest.1 ∙ sym (bytes_next old m p.0 link p.2 p.1 p.3 p.4),
    )

-- what a cell may be written over an unlinked one: it names a Rest that no other cell names, and a head its chain
pub record MayWrite (at : ℕ → Cell) (k : ℕ) (cell : Cell) : Type 0 where
  pub rest : (n : ℕ) → link_of cell ≡ Some n → is_rest (at n) ≡ true
  pub apart : link_of cell ≢ Some k
  pub alone : (n i : ℕ) → link_of cell ≡ Some n → i ≢ k → link_of (at i) ≡ Some n → ⊥
  pub short : (kind : Kind) (head : HeadCell) → cell ≡ Head kind head → head.key_len + head.value_len < 2 ^ 31
  pub chain : (kind : Kind) (head : HeadCell) → cell ≡ Head kind head → IsChain at (head_pieces head) head.first

module _ (old new : ℕ → Cell) (k : ℕ) (cell : Cell) (written : Writes old new k cell) (linked : IsLinked old) (free : IsUnlinked old k) where
  -- a record that is not written stays
  pub record_kept : (q : ℕ) → q ≢ k → record_at new q ≡ record_at old q
  record_kept q other = by_cell (old q) refl
    where
      by_cell : (c : Cell) → old q ≡ c → record_at new q ≡ record_at old q
      by_cell (Free next) e = ap (record_of new) (written.others q other ∙ e) ∙ sym (ap (record_of old) e)
      by_cell (Rest bytes next) e = ap (record_of new) (written.others q other ∙ e) ∙ sym (ap (record_of old) e)
      by_cell (Head kind head) e =
          let apart : head.first ≢ Some k = λ same. free q (ap link_of e ∙ same) in
          let kept = chain_kept old new k cell written free (head_pieces head) head.first apart (linked.heads q kind head e) in
          ap (record_of new) (written.others q other ∙ e) ∙ ap (λ (bs : List ℕ). Some (record_with kind head bs)) kept.1 ∙ sym (ap (record_of old) e)

  module _ (may : MayWrite old k cell) where
    linked_short : (c : ℕ) (kind : Kind) (head : HeadCell) → new c ≡ Head kind head → head.key_len + head.value_len < 2 ^ 31
    linked_short c kind head e =
        elim (cases_eq c k) [
          | inl same ↦ may.short kind head (sym written.here ∙ ap new (sym same) ∙ e)
          | inr other ↦ linked.short c kind head (sym (written.others c other) ∙ e)
        ]

    linked_heads : (c : ℕ) (kind : Kind) (head : HeadCell) → new c ≡ Head kind head → IsChain new (head_pieces head) head.first
    linked_heads c kind head e =
        elim (cases_eq c k) [
          | inl same ↦
              let is : cell ≡ Head kind head = sym written.here ∙ ap new (sym same) ∙ e in
              let apart : head.first ≢ Some k = λ names. may.apart (ap link_of is ∙ names) in
              (chain_kept old new k cell written free (head_pieces head) head.first apart (may.chain kind head is)).0
          | inr other ↦
              let is : old c ≡ Head kind head = sym (written.others c other) ∙ e in
              let apart : head.first ≢ Some k = λ names. free c (ap link_of is ∙ names) in
              (chain_kept old new k cell written free (head_pieces head) head.first apart (linked.heads c kind head is)).0
        ]

    -- who names n now: the written cell, or one that did before
    who : (i n : ℕ) → link_of (new i) ≡ Some n → ((i ≡ k) × (link_of cell ≡ Some n)) ⊎ ((i ≢ k) × (link_of (old i) ≡ Some n))
    who i n names =
        elim (cases_eq i k) [
          | inl same ↦ inl (same, ap link_of (sym written.here) ∙ ap (λ j. link_of (new j)) (sym same) ∙ names)
          | inr other ↦ inr (other, ap link_of (sym (written.others i other)) ∙ names)
        ]

    pub unlinked_still : IsUnlinked new k
    unlinked_still i names =
        elim (who i k names) [
          | inl here ↦ may.apart here.1
          | inr there ↦ free i there.1
        ]

    rest_still : (n : ℕ) → n ≢ k → is_rest (old n) ≡ true → is_rest (new n) ≡ true
    rest_still n other is = ap is_rest (written.others n other) ∙ is

    linked_rests : (i n : ℕ) → link_of (new i) ≡ Some n → is_rest (new n) ≡ true
    linked_rests i n names =
        elim (who i n names) [
          | inl here ↦ rest_still n (λ same. may.apart (here.1 ∙ ap Some same)) (may.rest n here.1)
          | inr there ↦ rest_still n (λ same. free i (there.1 ∙ ap Some same)) (linked.rests i n there.1)
        ]

    linked_single : (i j n : ℕ) → link_of (new i) ≡ Some n → link_of (new j) ≡ Some n → i ≡ j
    linked_single i j n a b =
        elim (who i n a) [
          | inl here ↦ elim (who j n b) [
            | inl too ↦ here.0 ∙ sym too.0
            | inr there ↦ absurd (may.alone n j here.1 there.0 there.1)
          ]
          | inr there ↦ elim (who j n b) [
            | inl here ↦ absurd (may.alone n i here.1 there.0 there.1)
            | inr too ↦ linked.single i j n there.1 too.1
          ]
        ]

    pub linked_written : IsLinked new
    linked_written = record { short = linked_short; heads = linked_heads; rests = linked_rests; single = linked_single }

-- a free cell may be written over any unlinked one
pub may_free : (at : ℕ → Cell) (k : ℕ) (next : Option ℕ) → MayWrite at k (Free next)
may_free at k next = record {
  rest = λ n names. absurd (cc);
  apart = λ names. absurd (cc);
  alone = λ n i names other there. absurd (cc);
  short = λ kind head is. absurd (cc);
  chain = λ kind head is. absurd (cc);
}

-- the rest of a chain is loose once its first is free
pub loose_next : (old new : ℕ → Cell) (k : ℕ) (first next : Option ℕ) (bytes : List ℕ) → Writes old new k (Free first) → IsLinked old → old k ≡ Rest bytes next → IsLoose new next
loose_next old new k first next bytes written linked read n is i names =
    elim (cases_eq i k) [
      | inl same ↦
          let none : link_of (new i) ≡ None = ap (λ j. link_of (new j)) same ∙ ap link_of written.here in
          absurd (cc (none, names))
      | inr other ↦ other (linked.single i k n (ap link_of (sym (written.others i other)) ∙ names) (ap link_of read ∙ is))
    ]

-- the same of a head
pub loose_first : (old new : ℕ → Cell) (k : ℕ) (first : Option ℕ) (kind : Kind) (head : HeadCell) → Writes old new k (Free first) → IsLinked old → old k ≡ Head kind head → IsLoose new head.first
loose_first old new k first kind head written linked read n is i names =
    elim (cases_eq i k) [
      | inl same ↦
          let none : link_of (new i) ≡ None = ap (λ j. link_of (new j)) same ∙ ap link_of written.here in
          absurd (cc (none, names))
      | inr other ↦ other (linked.single i k n (ap link_of (sym (written.others i other)) ∙ names) (ap link_of read ∙ is))
    ]

-- the first cell of a chain that is not empty, where the link names it
pub chain_first : (at : ℕ → Cell) (m : ℕ) (link : Option ℕ) (n : ℕ) → 0 < m → IsChain at m link → link ≡ Some n → (bytes : List ℕ) × (next : Option ℕ) × (at n ≡ Rest bytes next) × (length bytes ≡ 48) × IsChain at (m - 1) next
chain_first at zero link n some p is = absurd (omega arith)
chain_first at (suc m) link n some p is =
    let same : p.0 ≡ n = cc (p.3, is) in
    let fewer : m ≡ suc m - 1 = omega arith in
    (p.1, p.2, subst (λ k. at k ≡ Rest p.1 p.2) same p.4, p.5, subst (λ k. IsChain at k p.2) fewer p.6)

pub chain_rest : (at : ℕ → Cell) (m : ℕ) (link : Option ℕ) (n : ℕ) (bytes : List ℕ) (next : Option ℕ) → 0 < m → IsChain at m link → link ≡ Some n → at n ≡ Rest bytes next → IsChain at (m - 1) next
chain_rest at m link n bytes next some p is read =
    let found = chain_first at m link n some p is in
    let same : found.1 ≡ next = cc (found.2, read) in
    subst (λ l. IsChain at (m - 1) l) same found.4

-- a chain that is not empty has a link
pub chain_some : (at : ℕ → Cell) (m : ℕ) (link : Option ℕ) → 0 < m → IsChain at m link → link ≡ None → ⊥
chain_some at zero link some p is = absurd (omega arith)
chain_some at (suc m) link some p is = absurd (cc (p.3, is))

-- what the first cell of a chain adds to the rest
pub chain_bytes_first : (at : ℕ → Cell) (m n : ℕ) (link next : Option ℕ) (bytes : List ℕ) → 0 < m → link ≡ Some n → at n ≡ Rest bytes next → chain_bytes at m link ≡ bytes ++ chain_bytes at (m - 1) next
chain_bytes_first at zero n link next bytes some is read = absurd (omega arith)
chain_bytes_first at (suc m) n link next bytes some is read =
    let fewer : m ≡ suc m - 1 = omega arith in
    bytes_next at m n link next bytes is read ∙ ap (λ k. bytes ++ chain_bytes at k next) fewer
