use Rattle.gateway_text.proofs.ReadBackLaws.{reads_back}
use Rattle.gateway_text.proofs.law.answers_read_back.Goals as goal

pub returns : goal.returns
returns c = reads_back
