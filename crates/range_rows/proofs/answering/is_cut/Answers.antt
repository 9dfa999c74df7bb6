use Rattle.range_rows.proofs.AnsweringLaws.{says_more}
use Rattle.range_rows.proofs.answering.is_cut.Goals as goal

pub returns : goal.returns
returns c = says_more c.args.request.now c.args.wanted c.limit_of.result c.requires c.limit_of.ensures.limit
