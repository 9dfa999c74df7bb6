use Rattle.std.specs.Prelude.{◌≡◌, ◌+◌, ◌*◌, ◌≤◌, IfSome}
use Rattle.std.proofs.Common.{take, drop, sym, ap, arith, subst}
use Rattle.cell_arena.specs.Chain.{IsChain, chain_bytes, record_at}
use Rattle.cell_arena.specs.Part.{part_bytes}
use Rattle.cell_arena.specs.Table.{table_at}
use Rattle.cell_arena.proofs.Records.{at_some}
use Rattle.cell_arena.proofs.chain.value_part.Goals as goal

pub pieces-requires : goal.pieces-requires
pieces-requires c = omega (arith, c.requires.linked.short c.args.at c.head_at-kind.result.0 c.head_at-kind.result.1.now c.head_at-kind.ensures)

pub returns-clause-part : goal.returns-clause-part
returns-clause-part c = record {
  chain = subst (λ n. IsChain (table_at c.args.table.now) n c.head_at-kind.result.1.now.first) (sym c.pieces.ensures) (c.requires.linked.heads c.args.at c.head_at-kind.result.0 c.head_at-kind.result.1.now c.head_at-kind.ensures);
  fits = subst (λ s. s.from + s.count ≤ c.pieces.result * 48) (sym c.value_span-span.ensures) (omega (arith, c.pieces.ensures));
}

pub returns-clause-bytes : goal.returns-clause-bytes
returns-clause-bytes c = subst (λ s. IfSome (record_at (table_at c.args.table.now) c.args.at) (λ r. part_bytes (table_at c.args.table.now) (record { first = c.head_at-kind.result.1.now.first; cells = c.pieces.result; from = s.from; count = s.count }) ≡ r.value)) (sym c.value_span-span.ensures) (at_some (table_at c.args.table.now) c.args.at c.head_at-kind.result.0 c.head_at-kind.result.1.now _ c.head_at-kind.ensures (ap (λ n. take c.head_at-kind.result.1.now.value_len (drop c.head_at-kind.result.1.now.key_len (chain_bytes (table_at c.args.table.now) n c.head_at-kind.result.1.now.first))) c.pieces.ensures))
