use Rattle.key_index.proofs.Kept.{kept_as_defined}
use Rattle.key_index.proofs.compaction.kept_as_defined.Goals as goal

pub returns : goal.returns
returns c = kept_as_defined
