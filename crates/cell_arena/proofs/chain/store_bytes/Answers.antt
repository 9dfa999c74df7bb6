use Rattle.std.proofs.Common.{◌++◌, arith}
use Rattle.std.proofs.lemmas.List.{length-append}
use Rattle.cell_arena.proofs.Loans.{settles_none, settles_both}
use Rattle.cell_arena.proofs.Storing.{stored_more, storing_none}
use Rattle.cell_arena.proofs.chain.store_bytes.Goals as goal

pub storing-init : goal.storing-init
storing-init g c = record {
  stored = storing_none c.args.table.now _ _ _ (c.args.key.now ++ c.args.value.now) c.requires.table c.requires.linked c.none-next.ensures c.pieces-left.ensures (omega (arith, length-append c.args.key.now c.args.value.now));
  settles = settles_none _ _;
  draws = omega (arith, c.requires.table.used, c.requires.table.ready);
}

pub storing-preserved : goal.storing-preserved
storing-preserved g c = record {
  stored = rw c.to-next.ensures (stored_more c.args.table.now c.storing.table c.put.new.table c.storing.left c.storing.next _ c.put.result c.piece_at-bytes.result _ (omega arith) c.storing.invariant.stored c.piece_at-bytes.ensures.size c.piece_at-bytes.ensures.bytes c.put.ensures.was_free c.put.ensures.written c.put.ensures.table c.put.ensures.used c.put.ensures.settles.reserved c.put.ensures.length);
  settles = settles_both _ _ _ _ _ _ c.storing.invariant.settles c.put.ensures.settles;
  draws = omega (arith, c.storing.invariant.draws, c.put.ensures.draws, c.put.ensures.used);
}
