-- A head that is written again with another older one.
use Rattle.std.proofs.Common.{◌≡◌, ◌≢◌, ℕ, ◌+◌, ◌<◌, ◌^◌, List, Option, Some, ap, ◌∙◌, subst}
use Rattle.cell_arena.specs.declared.cell.Cell.{Cell}
use Rattle.cell_arena.specs.declared.cell.Cell.TheVariants.{Head}
use Rattle.cell_arena.specs.declared.cell.HeadCell.{HeadCell}
use Rattle.cell_arena.specs.declared.cell.Kind.{Kind}
use Rattle.cell_arena.specs.Chain.{is_rest, link_of, Writes, IsChain, chain_bytes, IsUnlinked, IsLinked, head_pieces, record_with, record_of, record_at, SameRecordsBut}
use Rattle.cell_arena.proofs.Chains.{MayWrite, chain_kept, record_kept, linked_written, unlinked}

module _ (old new : ℕ → Cell) (k : ℕ) (kind : Kind) (head : HeadCell) (older : Option ℕ) (written : Writes old new k (Head kind (record head { older = older }))) (linked : IsLinked old) (read : old k ≡ Head kind head) where
  loose : IsUnlinked old k
  loose = unlinked old k linked (ap is_rest read)

  older_apart : head.first ≢ Some k
  older_apart names = loose k (ap link_of read ∙ names)

  older_may : MayWrite old k (Head kind (record head { older = older }))
  older_may = record {
    rest = λ n names. linked.rests k n (ap link_of read ∙ names);
    apart = older_apart;
    alone = λ n i names other there. other (linked.single i k n there (ap link_of read ∙ names));
    short = λ q h is. let same : record head { older = older } ≡ h = cc in subst (λ (x : HeadCell). x.key_len + x.value_len < 2 ^ 31) same (linked.short k kind head read);
    chain = λ q h is. let same : record head { older = older } ≡ h = cc in subst (λ (x : HeadCell). IsChain old (head_pieces x) x.first) same (linked.heads k kind head read);
  }

  pub older_linked : IsLinked new
  older_linked = linked_written old new k (Head kind (record head { older = older })) written linked loose older_may

  pub older_kept : SameRecordsBut k old new
  older_kept q other = record_kept old new k (Head kind (record head { older = older })) written linked loose q other

  pub older_set : record_at new k ≡ Some (record_with kind (record head { older = older }) (chain_bytes old (head_pieces head) head.first))
  older_set =
      ap (record_of new) written.here
      ∙ ap (λ (bs : List ℕ). Some (record_with kind (record head { older = older }) bs)) (chain_kept old new k (Head kind (record head { older = older })) written loose (head_pieces head) head.first older_apart (linked.heads k kind head read)).1
