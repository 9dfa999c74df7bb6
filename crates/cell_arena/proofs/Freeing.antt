-- A chain while its cells are freed.
use Rattle.std.proofs.Common.{◌≡◌, ◌≢◌, ℕ, ◌+◌, ◌-◌, ◌<◌, ◌≤◌, List, length, Option, Some, sym, ap, ◌∙◌, inl, inr, arith}
use Rattle.std.proofs.lemmas.Bool.{cases_eq}
use Rattle.cell_arena.specs.declared.cell.Cell.{Cell}
use Rattle.cell_arena.specs.declared.cell.Cell.TheVariants.{Free, Head, Rest}
use Rattle.cell_arena.specs.declared.cell.HeadCell.{HeadCell}
use Rattle.cell_arena.specs.declared.cell.Kind.{Kind}
use Rattle.cell_arena.specs.declared.table.Table.{Table}
use Rattle.cell_arena.specs.Table.{IsTable, table_at}
use Rattle.cell_arena.specs.Chain.{is_rest, link_of, Writes, IsChain, IsUnlinked, IsLoose, IsLinked, record_of, record_at, SameRecords, head_pieces}
use Rattle.cell_arena.proofs.Chains.{chain_kept, record_kept, linked_written, may_free, loose_next, unlinked}

-- of `count` cells so many are left, from this link on
pub record IsFreeing (old now : Table) (left : ℕ) (link : Option ℕ) (count : ℕ) : Type 0 where
  pub within : left ≤ count
  pub table : IsTable now
  pub linked : IsLinked (table_at now)
  pub chain : IsChain (table_at now) left link
  pub loose : IsLoose (table_at now) link
  pub used : now.used + count ≡ old.used + left
  pub kept : SameRecords (table_at old) (table_at now)
  pub reserved : now.reserved ≡ old.reserved
  pub size : length now.bays.items ≡ length old.bays.items

-- a cell of bytes stands for nothing, free or not
pub same_freed : (old new : ℕ → Cell) (k : ℕ) (first next : Option ℕ) (bytes : List ℕ) → Writes old new k (Free first) → IsLinked old → IsUnlinked old k → old k ≡ Rest bytes next → SameRecords old new
same_freed old new k first next bytes written linked free read q =
    elim (cases_eq q k) [
      | inl same ↦ ap (record_at new) same ∙ ap (record_of new) written.here ∙ sym (ap (record_at old) same ∙ ap (record_of old) read)
      | inr other ↦ record_kept old new k (Free first) written linked free q other
    ]

-- one more cell is freed
pub freed_more : (old now then' : Table) (left : ℕ) (link first next : Option ℕ) (count k : ℕ) (bytes : List ℕ) → 0 < left → IsFreeing old now left link count → link ≡ Some k → table_at now k ≡ Rest bytes next → IsChain (table_at now) (left - 1) next → IsTable then' → then'.used + 1 ≡ now.used → Writes (table_at now) (table_at then') k (Free first) → then'.reserved ≡ now.reserved → length then'.bays.items ≡ length now.bays.items → IsFreeing old then' (left - 1) next count
freed_more old now then' left link first next count k bytes some was is read rest table fewer written same_reserved size =
    let loose : IsUnlinked (table_at now) k = was.loose k is in
    let apart : next ≢ Some k = λ same. loose k (ap link_of read ∙ same) in
    let same = same_freed (table_at now) (table_at then') k first next bytes written was.linked loose read in
    record {
      within = omega (arith, was.within);
      table = table;
      linked = linked_written (table_at now) (table_at then') k (Free first) written was.linked loose (may_free (table_at now) k first);
      chain = (chain_kept (table_at now) (table_at then') k (Free first) written loose (left - 1) next apart rest).0;
      loose = loose_next (table_at now) (table_at then') k first next bytes written was.linked read;
      used = omega (arith, was.used, fewer);
      kept = λ q. same q ∙ was.kept q;
      reserved = same_reserved ∙ was.reserved;
      size = size ∙ was.size;
    }

-- a head is freed
pub head_freed_linked : (old new : ℕ → Cell) (k : ℕ) (first : Option ℕ) (kind : Kind) (head : HeadCell) → Writes old new k (Free first) → IsLinked old → old k ≡ Head kind head → IsLinked new
head_freed_linked old new k first kind head written linked read =
    linked_written old new k (Free first) written linked (unlinked old k linked (ap is_rest read)) (may_free old k first)

pub head_freed_chain : (old new : ℕ → Cell) (k : ℕ) (first : Option ℕ) (kind : Kind) (head : HeadCell) → Writes old new k (Free first) → IsLinked old → old k ≡ Head kind head → IsChain new (head_pieces head) head.first
head_freed_chain old new k first kind head written linked read =
    let loose = unlinked old k linked (ap is_rest read) in
    (chain_kept old new k (Free first) written loose (head_pieces head) head.first (λ same. loose k (ap link_of read ∙ same)) (linked.heads k kind head read)).0
