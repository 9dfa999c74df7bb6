use Rattle.std.proofs.Common.{◌≡◌, ◌≤◌, ◌+◌, ◌*◌, ◌/◌, ◌++◌, [], ℕ, List, Some, None, length, take, refl, arith, subst, sym, ap, ◌∙◌}
use Rattle.cell_arena.specs.declared.cell.Kind.TheVariants.{Delete}
use Rattle.cell_arena.specs.Chain.{Record, IsChain, chain_bytes, head_pieces, record_at}
use Rattle.cell_arena.specs.Table.{table_at}
use Rattle.cell_arena.proofs.Chains.{record_kept}
use Rattle.cell_arena.proofs.Loans.{settles_both, settles_kept, lent_still}
use Rattle.cell_arena.proofs.Records.{at_some, some_at, key_size, head_size}
use Rattle.cell_arena.proofs.Storing.{head_linked, head_stands, free_unlinked, free_is_none}
use Rattle.cell_arena.proofs.Turning.{delete_bytes}
use Rattle.cell_arena.proofs.copying.place_delete.Goals as goal

pub pieces-cells-requires : goal.pieces-cells-requires
pieces-cells-requires g c = omega (arith, c.requires.linked.short c.args.of c.head_at-kind.result.0 c.head_at-kind.result.1.now c.head_at-kind.ensures)

pub pieces-count-requires : goal.pieces-count-requires
pieces-count-requires g c = omega (arith, c.requires.linked.short c.args.of c.head_at-kind.result.0 c.head_at-kind.result.1.now c.head_at-kind.ensures)

pub copy_cells-back-requires-clause-chain : goal.copy_cells-back-requires-clause-chain
copy_cells-back-requires-clause-chain g c = rw c.pieces-cells.ensures (c.requires.linked.heads c.args.of c.head_at-kind.result.0 c.head_at-kind.result.1.now c.head_at-kind.ensures)

pub copy_cells-back-requires-clause-fits : goal.copy_cells-back-requires-clause-fits
copy_cells-back-requires-clause-fits g c = omega (arith, c.pieces-cells.ensures, c.pieces-count.ensures)

pub copy_cells-back-requires-clause-space : goal.copy_cells-back-requires-clause-space
copy_cells-back-requires-clause-space g c =
    let at = table_at c.args.table.now in
    let room = some_at at c.args.of c.head_at-kind.result.0 c.head_at-kind.result.1.now (λ (r : Record). c.args.table.now.used + (1 + (length r.key + 47) / 48) ≤ 64 * c.args.table.now.reserved) c.head_at-kind.ensures c.requires.space in
    omega (arith, room, key_size at c.args.of c.head_at-kind.result.0 c.head_at-kind.result.1.now c.requires.linked c.head_at-kind.ensures, c.pieces-count.ensures)

pub put-requires-clause-space : goal.put-requires-clause-space
put-requires-clause-space g c =
    let at = table_at c.args.table.now in
    let room = some_at at c.args.of c.head_at-kind.result.0 c.head_at-kind.result.1.now (λ (r : Record). c.args.table.now.used + (1 + (length r.key + 47) / 48) ≤ 64 * c.args.table.now.reserved) c.head_at-kind.ensures c.requires.space in
    omega (arith, room, key_size at c.args.of c.head_at-kind.result.0 c.head_at-kind.result.1.now c.requires.linked c.head_at-kind.ensures, c.pieces-count.ensures, c.copy_cells-back.ensures.used, c.copy_cells-back.ensures.settles.reserved, c.turn_chain-first.ensures.used, c.turn_chain-first.ensures.share.reserved)

pub put-requires-clause-lent : goal.put-requires-clause-lent
put-requires-clause-lent g c = lent_still _ _ _ _ c.requires.lent (settles_kept _ _ _ _ _ c.copy_cells-back.ensures.settles c.turn_chain-first.ensures.share)

pub returns-clause-linked : goal.returns-clause-linked
returns-clause-linked g c =
    let now = table_at c.turn_chain-first.new.table in
    let same : c.pieces-count.result ≡ (c.head_at-kind.result.1.now.key_len + 0 + 47) / 48 = omega (arith, c.pieces-count.ensures) in
    let chain = subst (λ n. IsChain now n c.turn_chain-first.result) same c.turn_chain-first.ensures.chain in
    head_linked now _ c.put.result _ _ c.put.ensures.written c.turn_chain-first.ensures.linked c.put.ensures.was_free chain c.turn_chain-first.ensures.loose (omega (arith, c.requires.linked.short c.args.of c.head_at-kind.result.0 c.head_at-kind.result.1.now c.head_at-kind.ensures))

pub returns-clause-used : goal.returns-clause-used
returns-clause-used g c =
    let at = table_at c.args.table.now in
    at_some at c.args.of c.head_at-kind.result.0 c.head_at-kind.result.1.now (λ (r : Record). c.put.new.table.used ≡ c.args.table.now.used + (1 + (length r.key + 47) / 48)) c.head_at-kind.ensures
    (omega (arith, key_size at c.args.of c.head_at-kind.result.0 c.head_at-kind.result.1.now c.requires.linked c.head_at-kind.ensures, c.pieces-count.ensures, c.copy_cells-back.ensures.used, c.turn_chain-first.ensures.used, c.put.ensures.used))

pub returns-clause-fresh : goal.returns-clause-fresh
returns-clause-fresh g c = sym (c.turn_chain-first.ensures.kept c.put.result ∙ c.copy_cells-back.ensures.kept c.put.result) ∙ free_is_none (table_at c.turn_chain-first.new.table) (table_at c.turn_chain-first.new.table c.put.result) c.put.ensures.was_free

pub returns-clause-placed : goal.returns-clause-placed
returns-clause-placed g c =
    let at = table_at c.args.table.now in
    let now = table_at c.turn_chain-first.new.table in
    let head = c.head_at-kind.result.1.now in
    let bytes = chain_bytes at (head_pieces head) head.first in
    let key : List ℕ = take head.key_len bytes in
    let long : length key ≡ head.key_len = key_size at c.args.of c.head_at-kind.result.0 c.head_at-kind.result.1.now c.requires.linked c.head_at-kind.ensures in
    let all : length bytes ≡ head_pieces head * 48 = head_size at c.args.of c.head_at-kind.result.0 head c.requires.linked c.head_at-kind.ensures in
    let same : c.pieces-count.result ≡ (head.key_len + 0 + 47) / 48 = omega (arith, c.pieces-count.ensures) in
    let chain = subst (λ n. IsChain now n c.turn_chain-first.result) same c.turn_chain-first.ensures.chain in
    let front : chain_bytes now c.pieces-count.result c.turn_chain-first.result ≡ take (c.pieces-count.result * 48) bytes = c.turn_chain-first.ensures.bytes ∙ c.copy_cells-back.ensures.bytes ∙ ap (λ n. take (c.pieces-count.result * 48) (chain_bytes at n head.first)) c.pieces-cells.ensures in
    let holds = subst (λ n. take (length (key ++ [])) (chain_bytes now n c.turn_chain-first.result) ≡ key ++ []) same (delete_bytes head.key_len c.pieces-count.result bytes (chain_bytes now c.pieces-count.result c.turn_chain-first.result) front (omega (arith, c.pieces-count.ensures)) (omega (arith, all))) in
    at_some at c.args.of c.head_at-kind.result.0 c.head_at-kind.result.1.now (λ (r : Record). record_at (table_at c.put.new.table) c.put.result ≡ Some (record { kind = Delete; fields = c.args.fields; key = r.key; value = []; older = None })) c.head_at-kind.ensures
    (rw c.none.ensures at (head_stands now (table_at c.put.new.table) c.put.result _ _ key [] c.put.ensures.written c.turn_chain-first.ensures.linked c.put.ensures.was_free chain c.turn_chain-first.ensures.loose (sym long) refl holds))

pub returns-clause-kept : goal.returns-clause-kept
returns-clause-kept g c q other =
    record_kept _ _ c.put.result _ c.put.ensures.written c.turn_chain-first.ensures.linked (free_unlinked _ _ c.turn_chain-first.ensures.linked c.put.ensures.was_free) q other ∙ c.turn_chain-first.ensures.kept q ∙ c.copy_cells-back.ensures.kept q

pub returns-clause-settles : goal.returns-clause-settles
returns-clause-settles g c = settles_both _ _ _ _ _ _ (settles_kept _ _ _ _ _ c.copy_cells-back.ensures.settles c.turn_chain-first.ensures.share) c.put.ensures.settles

pub returns-clause-draws : goal.returns-clause-draws
returns-clause-draws g c = omega (arith, c.copy_cells-back.ensures.draws, c.turn_chain-first.ensures.share.drawn, c.turn_chain-first.ensures.used, c.put.ensures.draws, c.put.ensures.used)
