use Rattle.std.proofs.Common.{◌≡◌, Some, ap}
use Rattle.cell_arena.specs.Chain.{Record, is_free, record_at}
use Rattle.cell_arena.specs.Table.{table_at}
use Rattle.cell_arena.proofs.Records.{at_some}
use Rattle.cell_arena.proofs.Rewriting.{older_linked, older_kept, older_set}
use Rattle.cell_arena.proofs.chain.set_older.Goals as goal

pub rewrite-requires-clause-used : goal.rewrite-requires-clause-used
rewrite-requires-clause-used c = ap is_free c.head_at-kind.ensures

pub returns-clause-linked : goal.returns-clause-linked
returns-clause-linked c = older_linked _ _ _ c.head_at-kind.result.0 c.head_at-kind.result.1.now c.args.older c.rewrite.ensures.written c.requires.linked c.head_at-kind.ensures

pub returns-clause-set : goal.returns-clause-set
returns-clause-set c =
    at_some (table_at c.args.table.now) c.args.at c.head_at-kind.result.0 c.head_at-kind.result.1.now (λ (r : Record). record_at (table_at c.rewrite.new.table) c.args.at ≡ Some (record r { older = c.args.older })) c.head_at-kind.ensures
    (older_set _ _ _ c.head_at-kind.result.0 c.head_at-kind.result.1.now c.args.older c.rewrite.ensures.written c.requires.linked c.head_at-kind.ensures)

pub returns-clause-kept : goal.returns-clause-kept
returns-clause-kept c = older_kept _ _ _ c.head_at-kind.result.0 c.head_at-kind.result.1.now c.args.older c.rewrite.ensures.written c.requires.linked c.head_at-kind.ensures
