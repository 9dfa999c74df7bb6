use Rattle.std.proofs.Common.{refl}
use Rattle.cell_arena.proofs.Cutting.{piece_filled}
use Rattle.cell_arena.proofs.pieces.piece_of.Goals as goal

pub returns-clause-bytes : goal.returns-clause-bytes
returns-clause-bytes c = piece_filled _ _ _ _ _ _ _ refl c.fill-filled.ensures.count c.fill-filled.ensures.bytes c.fill.ensures.count c.fill.ensures.bytes
