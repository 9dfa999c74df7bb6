use Rattle.std.proofs.Common.{◌-◌, length}
use Rattle.std.proofs.lemmas.List.{take_rest}
use Rattle.cell_arena.proofs.Cutting.{piece_behind}
use Rattle.cell_arena.proofs.pieces.piece_at.Goals as goal

pub returns-else-from-key-clause-bytes : goal.returns-else-from-key-clause-bytes
returns-else-from-key-clause-bytes c = piece_behind _ _ _ _ _ c.if-from-key.false (take_rest c.args.value.now (c.args.from - length c.args.key.now)) c.piece_of-else-from-key.ensures.bytes
