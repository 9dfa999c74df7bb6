-- Chains that are copied, and turned the other way round.
use Rattle.std.proofs.Common.{◌≡◌, ◌≢◌, ℕ, zero, suc, true, ◌-◌, ◌*◌, ◌<◌, ◌≤◌, List, [], ◌++◌, length, take, Option, Some, None, refl, sym, ap, ◌∙◌, inl, inr, arith, subst}
use Rattle.std.proofs.lemmas.Bool.{cases_eq}
use Rattle.std.proofs.lemmas.Option.{same_Some}
use Rattle.std.proofs.lemmas.List.{append_assoc, append-nil, take_at, take-take, length-append, length-take}
use Rattle.cell_arena.specs.declared.cell.Cell.{Cell}
use Rattle.cell_arena.specs.declared.cell.Cell.TheVariants.{Rest}
use Rattle.cell_arena.specs.Chain.{is_free, link_of, bytes_of, Writes, IsChain, chain_bytes, turned_bytes, IsUnlinked, IsLoose, IsLinked, record_of, record_at, SameRecords}
use Rattle.cell_arena.proofs.Chains.{MayWrite, bytes_next, chain_bytes_first, chain_kept, record_kept, linked_written, unlinked_still}
use Rattle.cell_arena.proofs.Storing.{begins, begins_not_free, free_unlinked, free_is_none, may_store}

-- what the first cell of a chain adds at the end
turned_next : (at : ℕ → Cell) (m n : ℕ) (link next : Option ℕ) (bytes : List ℕ) → link ≡ Some n → at n ≡ Rest bytes next → turned_bytes at (suc m) link ≡ turned_bytes at m next ++ bytes
turned_next at m n link next bytes is read =
    ap (turned_bytes at (suc m)) is ∙ ap (λ (c : Cell). turned_bytes at m (link_of c) ++ bytes_of c) read

turned_first : (at : ℕ → Cell) (m n : ℕ) (link next : Option ℕ) (bytes : List ℕ) → 0 < m → link ≡ Some n → at n ≡ Rest bytes next → turned_bytes at m link ≡ turned_bytes at (m - 1) next ++ bytes
turned_first at zero n link next bytes some is read = absurd (omega arith)
turned_first at (suc m) n link next bytes some is read =
    let fewer : m ≡ suc m - 1 = omega arith in
    turned_next at m n link next bytes is read ∙ ap (λ k. turned_bytes at k next ++ bytes) fewer

-- a write of an unlinked cell leaves each chain that doesn't begin there
turned_kept : (old new : ℕ → Cell) (k : ℕ) (cell : Cell) → Writes old new k cell → IsUnlinked old k → (m : ℕ) (link : Option ℕ) → link ≢ Some k → IsChain old m link → turned_bytes new m link ≡ turned_bytes old m link
turned_kept old new k cell written free zero link apart p = refl
turned_kept old new k cell written free (suc m) link apart p =
    let other : p.0 ≢ k = λ same. apart (p.3 ∙ ap Some same) in
    let read : new p.0 ≡ Rest p.1 p.2 = written.others p.0 other ∙ p.4 in
    let apart' : p.2 ≢ Some k = λ same. free p.0 (ap link_of p.4 ∙ same) in
    turned_next new m p.0 link p.2 p.1 p.3 read ∙ ap (λ (bs : List ℕ). bs ++ p.1) (turned_kept old new k cell written free m p.2 apart' p.6) ∙ sym (turned_next old m p.0 link p.2 p.1 p.3 p.4)

-- so many cells were copied, the last of them first, and so many are left
pub record IsCopying (at : ℕ → Cell) (done left : ℕ) (back source : Option ℕ) (bytes : List ℕ) : Type 0 where
  pub linked : IsLinked at
  pub copied : IsChain at done back
  pub loose : IsLoose at back
  pub rest : IsChain at left source
  pub holds : turned_bytes at done back ++ chain_bytes at left source ≡ bytes

pub copying_none : (at : ℕ → Cell) (left : ℕ) (back source : Option ℕ) → IsLinked at → back ≡ None → IsChain at left source → IsCopying at 0 left back source (chain_bytes at left source)
copying_none at left back source linked none chain = record {
  linked = linked;
  copied = none;
  loose = λ n is. absurd (cc (none, is));
  rest = chain;
  holds = refl;
}

module _ (old new : ℕ → Cell) (done left k s : ℕ) (back source next : Option ℕ) (piece bytes : List ℕ) (was : IsCopying old done left back source bytes) (some : 0 < left) (is : source ≡ Some s) (read : old s ≡ Rest piece next) (size : length piece ≡ 48) (rest : IsChain old (left - 1) next) (free : is_free (old k) ≡ true) (written : Writes old new k (Rest piece back)) where
  apart_next : next ≢ Some k
  apart_next = begins_not_free old (left - 1) next k rest free

  copy_may : MayWrite old k (Rest piece back)
  copy_may = may_store old k done (Rest piece back) free was.copied was.loose (λ kind head is. absurd (cc))

  -- one more cell is copied
  pub copied_more : IsCopying new (suc done) (left - 1) (Some k) next bytes
  copied_more =
      let loose : IsUnlinked old k = free_unlinked old k was.linked free in
      let front = chain_kept old new k (Rest piece back) written loose done back copy_may.apart was.copied in
      let tail = chain_kept old new k (Rest piece back) written loose (left - 1) next apart_next rest in
      let turned = turned_kept old new k (Rest piece back) written loose done back copy_may.apart was.copied in
      record {
        linked = linked_written old new k (Rest piece back) written was.linked loose copy_may;
        copied = (k, piece, back, refl, written.here, size, front.0);
        loose = λ n e. subst (λ j. IsUnlinked new j) (same_Some k n e) (unlinked_still old new k (Rest piece back) written was.linked loose copy_may);
        rest = tail.0;
        holds =
            ap (λ xs. xs ++ chain_bytes new (left - 1) next) (turned_next new done k (Some k) back piece refl written.here)
            ∙ ap (λ xs. (turned_bytes new done back ++ piece) ++ xs) tail.1
            ∙ ap (λ xs. (xs ++ piece) ++ chain_bytes old (left - 1) next) turned
            ∙ append_assoc (turned_bytes old done back) piece (chain_bytes old (left - 1) next)
            ∙ ap (λ xs. turned_bytes old done back ++ xs) (sym (chain_bytes_first old left s source next piece some is read))
            ∙ was.holds;
      }

  pub copied_same : SameRecords old new
  copied_same q =
      elim (cases_eq q k) [
        | inl here ↦ ap (record_at new) here ∙ ap (record_of new) written.here ∙ sym (ap (record_at old) here ∙ free_is_none old (old k) free)
        | inr other ↦ record_kept old new k (Rest piece back) written was.linked (free_unlinked old k was.linked free) q other
      ]

-- of a chain so many cells are turned, and so many are left
pub record IsTurning (at : ℕ → Cell) (done left : ℕ) (next back : Option ℕ) (bytes : List ℕ) : Type 0 where
  pub linked : IsLinked at
  pub turned : IsChain at done next
  pub behind : IsChain at left back
  pub loose : IsLoose at next
  pub loose_rest : IsLoose at back
  pub apart : (n : ℕ) → next ≡ Some n → back ≡ Some n → ⊥
  pub holds : turned_bytes at left back ++ chain_bytes at done next ≡ bytes

pub turning_none : (at : ℕ → Cell) (left : ℕ) (next back : Option ℕ) → IsLinked at → next ≡ None → IsChain at left back → IsLoose at back → IsTurning at 0 left next back (turned_bytes at left back ++ [])
turning_none at left next back linked none chain loose = record {
  linked = linked;
  turned = none;
  behind = chain;
  loose = λ n is. absurd (cc (none, is));
  loose_rest = loose;
  apart = λ n is. absurd (cc (none, is));
  holds = refl;
}

module _ (old new : ℕ → Cell) (done left k : ℕ) (next back rest : Option ℕ) (piece bytes : List ℕ) (was : IsTurning old done left next back bytes) (some : 0 < left) (is : back ≡ Some k) (read : old k ≡ Rest piece rest) (size : length piece ≡ 48) (chain : IsChain old (left - 1) rest) (written : Writes old new k (Rest piece next)) where
  turn_loose : IsUnlinked old k
  turn_loose = was.loose_rest k is

  apart_rest : rest ≢ Some k
  apart_rest same = turn_loose k (ap link_of read ∙ same)

  turn_may : MayWrite old k (Rest piece next)
  turn_may = record {
    rest = λ n names. begins old done next n was.turned names;
    apart = λ same. was.apart k same is;
    alone = λ n i names other there. was.loose n names i there;
    short = λ kind head e. absurd (cc);
    chain = λ kind head e. absurd (cc);
  }

  loose_after : IsLoose new rest
  loose_after n e i names =
      elim (cases_eq i k) [
        | inl same ↦ was.loose n (ap link_of (sym written.here) ∙ ap (λ j. link_of (new j)) (sym same) ∙ names) k (ap link_of read ∙ e)
        | inr other ↦ other (was.linked.single i k n (ap link_of (sym (written.others i other)) ∙ names) (ap link_of read ∙ e))
      ]

  -- one more cell is turned
  pub turned_more : IsTurning new (suc done) (left - 1) (Some k) rest bytes
  turned_more =
      let front = chain_kept old new k (Rest piece next) written turn_loose done next turn_may.apart was.turned in
      let tail = chain_kept old new k (Rest piece next) written turn_loose (left - 1) rest apart_rest chain in
      let turned = turned_kept old new k (Rest piece next) written turn_loose (left - 1) rest apart_rest chain in
      record {
        linked = linked_written old new k (Rest piece next) written was.linked turn_loose turn_may;
        turned = (k, piece, next, refl, written.here, size, front.0);
        behind = tail.0;
        loose = λ n e. subst (λ j. IsUnlinked new j) (same_Some k n e) (unlinked_still old new k (Rest piece next) written was.linked turn_loose turn_may);
        loose_rest = loose_after;
        apart = λ n e names. apart_rest (names ∙ sym e);
        holds =
            ap (λ xs. turned_bytes new (left - 1) rest ++ xs) (bytes_next new done k (Some k) next piece refl written.here ∙ ap (λ xs. piece ++ xs) front.1)
            ∙ ap (λ xs. xs ++ (piece ++ chain_bytes old done next)) turned
            ∙ sym (append_assoc (turned_bytes old (left - 1) rest) piece (chain_bytes old done next))
            ∙ ap (λ xs. xs ++ chain_bytes old done next) (sym (turned_first old left k back rest piece some is read))
            ∙ was.holds;
      }

  pub turned_same : SameRecords old new
  turned_same q =
      elim (cases_eq q k) [
        | inl here ↦ ap (record_at new) here ∙ ap (record_of new) written.here ∙ sym (ap (record_at old) here ∙ ap (record_of old) read)
        | inr other ↦ record_kept old new k (Rest piece next) written was.linked turn_loose q other
      ]

pub length-turned_bytes : (at : ℕ → Cell) (m : ℕ) (link : Option ℕ) → IsChain at m link → length (turned_bytes at m link) ≡ m * 48
length-turned_bytes at zero link p = refl
length-turned_bytes at (suc m) link p =
    ap length (turned_next at m p.0 link p.2 p.1 p.3 p.4) ∙ length-append (turned_bytes at m p.2) p.1 ∙ omega (arith, p.5, length-turned_bytes at m p.2 p.6)

-- what the copied cells hold, from the last to the first
pub copied_bytes : (at : ℕ → Cell) (done left : ℕ) (back source : Option ℕ) (bytes : List ℕ) → IsCopying at done left back source bytes → turned_bytes at done back ≡ take (done * 48) bytes
copied_bytes at done left back source bytes was =
    sym (ap (take (done * 48)) (sym was.holds) ∙ take_at (turned_bytes at done back) (chain_bytes at left source) (done * 48) (length-turned_bytes at done back was.copied))

-- what the turned cells hold
pub turned_all : (at : ℕ → Cell) (done left : ℕ) (next back : Option ℕ) (bytes : List ℕ) → left ≡ 0 → IsTurning at done left next back (bytes ++ []) → chain_bytes at done next ≡ bytes
turned_all at done left next back bytes none was =
    sym (ap (λ n. turned_bytes at n back ++ chain_bytes at done next) none) ∙ was.holds ∙ append-nil bytes

-- a key out of the front of the bytes
pub delete_bytes : (key_len count : ℕ) (bytes chain : List ℕ) → chain ≡ take (count * 48) bytes → key_len ≤ count * 48 → key_len ≤ length bytes → take (length (take key_len bytes ++ [])) chain ≡ take key_len bytes ++ []
delete_bytes key_len count bytes chain is fits within =
    let long : length (take key_len bytes ++ []) ≡ key_len = ap length (append-nil (take key_len bytes)) ∙ length-take key_len bytes ∙ omega arith in
    ap (λ n. take n chain) long ∙ ap (take key_len) is ∙ take-take key_len (count * 48) bytes fits ∙ sym (append-nil (take key_len bytes))
