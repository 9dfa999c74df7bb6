use Rattle.chunk_list.proofs.Stretches.{put_at}
use Rattle.chunk_list.proofs.stretch.put_before.Goals as goal

pub returns-clause-items : goal.returns-clause-items
returns-clause-items g c = put_at c.args.places.now.items c.copy_within.new.self.items c.args.at c.args.count c.args.item c.requires c.copy_within.ensures.items
