use Rattle.std.proofs.Common.{◌≡◌, length, ap, sym, ◌∙◌}
use Rattle.cell_arena.specs.declared.cell.Cell.TheVariants.{Rest}
use Rattle.cell_arena.proofs.Chains.{chain_first, chain_rest, chain_bytes_first}
use Rattle.cell_arena.specs.Chain.{is_free}
use Rattle.cell_arena.specs.Table.{table_at}
use Rattle.cell_arena.proofs.chain.rest_at.Goals as goal

pub look-requires : goal.look-requires
look-requires c = ap is_free (chain_first (table_at c.args.table.now) c.requires.0 c.args.link c.in-Some.at c.requires.1 c.requires.2 (sym c.cell.ensures ∙ c.in-Some.is)).2

pub unreachable-requires-in_default : goal.unreachable-requires-in_default
unreachable-requires-in_default c =
    let found = chain_first (table_at c.args.table.now) c.requires.0 c.args.link c.in-Some.at c.requires.1 c.requires.2 (sym c.cell.ensures ∙ c.in-Some.is) in
    c.in_default.not-Rest found.0 found.1 (sym c.look.ensures ∙ found.2)

pub returns-clause-size : goal.returns-clause-size
returns-clause-size c =
    let found = chain_first (table_at c.args.table.now) c.requires.0 c.args.link c.in-Some.at c.requires.1 c.requires.2 (sym c.cell.ensures ∙ c.in-Some.is) in
    let read : table_at c.args.table.now c.in-Some.at ≡ Rest c.in-Rest.bytes c.in-Rest.next = c.look.ensures ∙ c.in-Rest.is in
    let same : found.0 ≡ c.in-Rest.bytes = cc (found.2, read) in
    ap length (sym same) ∙ found.3

pub returns-clause-bytes : goal.returns-clause-bytes
returns-clause-bytes c count some p =
    chain_bytes_first (table_at c.args.table.now) count c.in-Some.at c.args.link _ _ some (sym c.cell.ensures ∙ c.in-Some.is) (c.look.ensures ∙ c.in-Rest.is)

pub returns-clause-rest : goal.returns-clause-rest
returns-clause-rest c count some p =
    chain_rest _ count _ _ _ _ some p (sym c.cell.ensures ∙ c.in-Some.is) (c.look.ensures ∙ c.in-Rest.is)
