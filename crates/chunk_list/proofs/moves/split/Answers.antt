use Rattle.chunk_list.proofs.Chunks.{chunks_cut}
use Rattle.chunk_list.proofs.moves.split.Goals as goal

pub returns-clause-chunks : goal.returns-clause-chunks
returns-clause-chunks g c = chunks_cut c.args.shelf.now.chunks c.open_after.new.self.chunks c.copy_on.new.self.chunks c.truncate.new.self.chunks c.args.at c.args.keep c.requires.at c.open_after.ensures.chunks c.copy_on.ensures.chunks c.truncate.ensures.chunks

pub open_after-requires-clause-chunk : goal.open_after-requires-clause-chunk
open_after-requires-clause-chunk g c =
    c.requires.at

pub open_after-requires-clause-room : goal.open_after-requires-clause-room
open_after-requires-clause-room g c =
    c.requires.room
