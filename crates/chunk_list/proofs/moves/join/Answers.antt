use Rattle.chunk_list.proofs.Chunks.{chunks_joined}
use Rattle.chunk_list.proofs.moves.join.Goals as goal

pub returns-clause-chunks : goal.returns-clause-chunks
returns-clause-chunks g c = chunks_joined c.args.shelf.now.chunks c.append_next.new.self.chunks c.close_next.new.self.chunks c.args.at c.requires.at c.append_next.ensures.chunks c.close_next.ensures.chunks
