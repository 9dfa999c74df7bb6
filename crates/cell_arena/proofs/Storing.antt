-- A chain while it is filled, from its last cell on.
use Rattle.std.proofs.Common.{◌≡◌, ◌≢◌, ℕ, zero, suc, true, false, ◌+◌, ◌-◌, ◌*◌, ◌/◌, ◌<◌, ◌≤◌, ◌^◌, List, ◌++◌, length, take, drop, Option, Some, None, refl, sym, ap, ◌∙◌, inl, inr, arith, subst}
use Rattle.std.proofs.lemmas.Bool.{cases_eq, true≢false}
use Rattle.std.proofs.lemmas.Option.{same_Some}
use Rattle.std.proofs.lemmas.List.{length-append, take-take, drop-take, take_at, drop_at, drop_all}
use Rattle.cell_arena.specs.declared.cell.Cell.{Cell}
use Rattle.cell_arena.specs.declared.cell.Cell.TheVariants.{Free, Head, Rest}
use Rattle.cell_arena.specs.declared.cell.HeadCell.{HeadCell}
use Rattle.cell_arena.specs.declared.cell.Kind.{Kind}
use Rattle.cell_arena.specs.declared.table.Table.{Table}
use Rattle.cell_arena.specs.Table.{IsTable, table_at}
use Rattle.cell_arena.specs.Storing.{IsStoring}
use Rattle.cell_arena.specs.Chain.{is_free, is_rest, link_of, Writes, IsChain, chain_bytes, IsUnlinked, IsLoose, IsLinked, record_with, record_of, record_at, SameRecords, head_pieces, Record}
use Rattle.cell_arena.proofs.Chains.{MayWrite, chain_kept, bytes_next, record_kept, linked_written, unlinked, unlinked_still}
use Rattle.cell_arena.proofs.Cutting.{piece_joined}

-- a chain begins with a cell of bytes
pub begins : (at : ℕ → Cell) (m : ℕ) (link : Option ℕ) (n : ℕ) → IsChain at m link → link ≡ Some n → is_rest (at n) ≡ true
begins at zero link n p is = absurd (cc (p, is))
begins at (suc m) link n p is =
    let same : p.0 ≡ n = cc (p.3, is) in
    ap (λ k. is_rest (at k)) (sym same) ∙ ap is_rest p.4

pub free_no_rest : (c : Cell) → is_free c ≡ true → is_rest c ≡ false
free_no_rest (Free next) e = refl
free_no_rest (Head kind head) e = refl
free_no_rest (Rest bytes next) e = absurd (cc)

-- so it begins with no free cell
pub begins_not_free : (at : ℕ → Cell) (m : ℕ) (link : Option ℕ) (k : ℕ) → IsChain at m link → is_free (at k) ≡ true → link ≢ Some k
begins_not_free at m link k chain free same = true≢false (sym (begins at m link k chain same) ∙ free_no_rest (at k) free)

-- a free cell stands for nothing
pub free_is_none : (at : ℕ → Cell) (c : Cell) → is_free c ≡ true → record_of at c ≡ None
free_is_none at (Free next) e = refl
free_is_none at (Head kind head) e = absurd (cc)
free_is_none at (Rest bytes next) e = refl

pub free_unlinked : (at : ℕ → Cell) (k : ℕ) → IsLinked at → is_free (at k) ≡ true → IsUnlinked at k
free_unlinked at k linked was = unlinked at k linked (free_no_rest (at k) was)

-- a free cell may get one that goes on with a loose chain
pub may_store : (at : ℕ → Cell) (k m : ℕ) (cell : Cell) → is_free (at k) ≡ true → IsChain at m (link_of cell) → IsLoose at (link_of cell) → ((kind : Kind) (head : HeadCell) → cell ≡ Head kind head → (head_pieces head ≡ m) × (head.key_len + head.value_len < 2 ^ 31)) → MayWrite at k cell
may_store at k m cell was chain loose head = record {
  rest = λ n names. begins at m (link_of cell) n chain names;
  apart = begins_not_free at m (link_of cell) k chain was;
  alone = λ n i names other there. loose n names i there;
  short = λ q h is. (head q h is).1;
  chain = λ q h is. subst (λ n. IsChain at n h.first) (sym (head q h is).0) (subst (λ l. IsChain at m l) (ap link_of is) chain);
}

-- one more cell is filled
pub stored_more : (old now then' : Table) (left : ℕ) (link : Option ℕ) (count k : ℕ) (piece text : List ℕ) → 0 < left → IsStoring old now left link count text → length piece ≡ 48 → take (length text - (left - 1) * 48) piece ≡ take 48 (drop ((left - 1) * 48) text) → is_free (table_at now k) ≡ true → Writes (table_at now) (table_at then') k (Rest piece link) → IsTable then' → then'.used ≡ now.used + 1 → then'.reserved ≡ now.reserved → length then'.bays.items ≡ length now.bays.items → IsStoring old then' (left - 1) (Some k) count text
stored_more old now then' left link count k piece text some was size holds free written table more_used same_reserved long =
    let at = table_at now in
    let new = table_at then' in
    let cell = Rest piece link in
    let may : MayWrite at k cell = may_store at k (count - left) cell free was.chain was.loose (λ kind head is. absurd (cc)) in
    let loose : IsUnlinked at k = free_unlinked at k was.linked free in
    let kept = chain_kept at new k cell written loose (count - left) link may.apart was.chain in
    let more : suc (count - left) ≡ count - (left - 1) = omega (arith, was.within) in
    let chain : IsChain new (suc (count - left)) (Some k) = (k, piece, link, refl, written.here, size, kept.0) in
    let from : (left - 1) * 48 + 48 ≡ left * 48 = omega arith in
    let later : take (length text - ((left - 1) * 48 + 48)) (chain_bytes new (count - left) link) ≡ drop ((left - 1) * 48 + 48) text =
    ap (take (length text - ((left - 1) * 48 + 48))) kept.1 ∙ subst (λ n. take (length text - n) (chain_bytes at (count - left) link) ≡ drop n text) (sym from) was.holds in
    record {
      within = omega (arith, was.within);
      table = table;
      linked = linked_written at new k cell written was.linked loose may;
      chain = subst (λ n. IsChain new n (Some k)) more chain;
      loose = λ n is. subst (λ j. IsUnlinked new j) (same_Some k n is) (unlinked_still at new k cell written was.linked loose may);
      used = omega (arith, was.used, more_used);
      holds = subst (λ n. take (length text - (left - 1) * 48) (chain_bytes new n (Some k)) ≡ drop ((left - 1) * 48) text) more
          (ap (take (length text - (left - 1) * 48)) (bytes_next new (count - left) k (Some k) link piece refl written.here)
          ∙ piece_joined piece (chain_bytes new (count - left) link) text ((left - 1) * 48) size holds later);
      kept = λ q. same_stored q ∙ was.kept q;
      reserved = same_reserved ∙ was.reserved;
      size = long ∙ was.size;
    }
  where
    same_stored : SameRecords (table_at now) (table_at then')
    same_stored q =
        elim (cases_eq q k) [
          | inl here ↦ ap (record_at (table_at then')) here ∙ ap (record_of (table_at then')) written.here ∙ sym (ap (record_at (table_at now)) here ∙ free_is_none (table_at now) (table_at now k) free)
          | inr other ↦ record_kept (table_at now) (table_at then') k (Rest piece link) written was.linked (free_unlinked (table_at now) k was.linked free) q other
        ]

-- a head over a chain
pub head_may : (at : ℕ → Cell) (k : ℕ) (kind : Kind) (head : HeadCell) → is_free (at k) ≡ true → IsChain at (head_pieces head) head.first → IsLoose at head.first → head.key_len + head.value_len < 2 ^ 31 → MayWrite at k (Head kind head)
head_may at k kind head was chain loose short = may_store at k (head_pieces head) (Head kind head) was chain loose (λ q h is. let same : head ≡ h = cc in (ap head_pieces (sym same), subst (λ x. x.key_len + x.value_len < 2 ^ 31) same short))

pub head_linked : (old new : ℕ → Cell) (k : ℕ) (kind : Kind) (head : HeadCell) → Writes old new k (Head kind head) → IsLinked old → is_free (old k) ≡ true → IsChain old (head_pieces head) head.first → IsLoose old head.first → head.key_len + head.value_len < 2 ^ 31 → IsLinked new
head_linked old new k kind head written linked was chain loose short =
    linked_written old new k (Head kind head) written linked (free_unlinked old k linked was) (head_may old k kind head was chain loose short)

-- a key and a value out of the bytes of a chain
pub key_of : (bytes key value : List ℕ) → take (length (key ++ value)) bytes ≡ key ++ value → take (length key) bytes ≡ key
key_of bytes key value holds =
    sym (take-take (length key) (length (key ++ value)) bytes (omega (arith, length-append key value))) ∙ ap (take (length key)) holds ∙ take_at key value (length key) refl

pub value_of : (bytes key value : List ℕ) → take (length (key ++ value)) bytes ≡ key ++ value → take (length value) (drop (length key) bytes) ≡ value
value_of bytes key value holds =
    sym (drop-take (length key) (length value) bytes) ∙ ap (λ n. drop (length key) (take n bytes)) (sym (length-append key value)) ∙ ap (drop (length key)) holds ∙ drop_at key value (length key) refl

pub head_stands : (old new : ℕ → Cell) (k : ℕ) (kind : Kind) (head : HeadCell) (key value : List ℕ) → Writes old new k (Head kind head) → IsLinked old → is_free (old k) ≡ true → IsChain old (head_pieces head) head.first → IsLoose old head.first → head.key_len ≡ length key → head.value_len ≡ length value → take (length (key ++ value)) (chain_bytes old (head_pieces head) head.first) ≡ key ++ value → record_at new k ≡ Some (record { kind = kind; fields = head.fields; key = key; value = value; older = head.older })
head_stands old new k kind head key value written linked was chain loose long_key long_value holds =
    let free = free_unlinked old k linked was in
    let apart = begins_not_free old (head_pieces head) head.first k chain was in
    let kept = chain_kept old new k (Head kind head) written free (head_pieces head) head.first apart chain in
    let bytes = chain_bytes old (head_pieces head) head.first in
    let a : take head.key_len bytes ≡ key = ap (λ n. take n bytes) long_key ∙ key_of bytes key value holds in
    let b : take head.value_len (drop head.key_len bytes) ≡ value = ap (λ n. take n (drop head.key_len bytes)) long_value ∙ ap (λ n. take (length value) (drop n bytes)) long_key ∙ value_of bytes key value holds in
    ap (record_of new) written.here ∙ ap (λ bs. Some (record_with kind head bs)) kept.1 ∙ with_parts a b
  where
    with_parts : {x y : List ℕ} → x ≡ key → y ≡ value → ◌≡◌ {A = Option Record} (Some (record { kind = kind; fields = head.fields; key = x; value = y; older = head.older })) (Some (record { kind = kind; fields = head.fields; key = key; value = value; older = head.older }))
    with_parts a b = λ i. Some (record { kind = kind; fields = head.fields; key = a i; value = b i; older = head.older })

-- the whole chain
pub stored_all : (old now : Table) (link : Option ℕ) (count : ℕ) (text : List ℕ) → IsStoring old now 0 link count text → IsChain (table_at now) count link × (take (length text) (chain_bytes (table_at now) count link) ≡ text)
stored_all old now link count text stored =
    let all : count - 0 ≡ count = omega arith in
    let size : length text - 0 * 48 ≡ length text = omega arith in (
      subst (λ n. IsChain (table_at now) n link) all stored.chain,
      subst (λ n. take n (chain_bytes (table_at now) count link) ≡ text) size (subst (λ n. take (length text - 0 * 48) (chain_bytes (table_at now) n link) ≡ text) all stored.holds),
    )

-- what fits in the cells is short
pub short_text : (t : Table) (n : ℕ) → IsTable t → t.used + (1 + (n + 47) / 48) ≤ 64 * t.reserved → n < 2 ^ 31
short_text t n table room = omega (arith, table.few, table.reserved)

-- nothing is filled yet
pub storing_none : (t : Table) (link : Option ℕ) (left count : ℕ) (text : List ℕ) → IsTable t → IsLinked (table_at t) → link ≡ None → left ≡ count → length text ≤ count * 48 → IsStoring t t left link count text
storing_none t link left count text table linked none all fits =
    let zero' : 0 ≡ count - left = omega arith in
    let past : length text ≤ left * 48 = omega arith in
    let nothing : length text - left * 48 ≡ 0 = omega arith in
    record {
      within = omega arith;
      table = table;
      linked = linked;
      chain = subst (λ n. IsChain (table_at t) n link) zero' none;
      loose = λ n is. absurd (cc (none, is));
      used = omega arith;
      holds = ap (λ n. take n (chain_bytes (table_at t) (count - left) link)) nothing ∙ sym (drop_all (left * 48) text past);
      kept = λ q. refl;
      reserved = refl;
      size = refl;
    }
