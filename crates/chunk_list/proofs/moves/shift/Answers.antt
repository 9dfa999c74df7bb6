use Rattle.chunk_list.proofs.Chunks.{chunks_shifted}
use Rattle.chunk_list.proofs.moves.shift.Goals as goal

pub returns-clause-chunks : goal.returns-clause-chunks
returns-clause-chunks g c = chunks_shifted c.args.shelf.now.chunks c.remove-item.new.self.chunks c.insert.new.self.chunks c.args.at c.len-end.result c.remove-item.result c.requires.at c.requires.some c.len-end.ensures.len c.remove-item.ensures.value c.remove-item.ensures.chunks c.insert.ensures.chunks
