use Rattle.std.specs.Prelude.{IfSome}
use Rattle.std.proofs.Common.{rules, sym, subst}
use Rattle.gateway_http.specs.Exchanges.{IsStageAnswer}
use Rattle.gateway_http.proofs.RequestLemmas.{reads_on, taken_answered, taken_on}
use Rattle.gateway_http.proofs.exchange.Exchange.poll_begun.Goals as goal

pub returns-2-clause-goes_on : goal.returns-2-clause-goes_on
returns-2-clause-goes_on g c = λ answer is. subst (λ s. IsStageAnswer s answer) (sym c.in-Reading.is) (reads_on c.in-Reading.reading c.poll_whole.new.self (search rules) answer is)

pub returns-in-Ok-clause-answered : goal.returns-in-Ok-clause-answered
returns-in-Ok-clause-answered g c = subst (λ s. IfSome c.begin.result (λ told. IsStageAnswer s told.answer)) (sym c.in-Reading.is) (taken_answered c.in-Reading.reading c.poll_whole.new.self c.begin.result c.begin.new.self.stage (search rules) c.begin.ensures)

pub returns-in-Ok-clause-goes_on : goal.returns-in-Ok-clause-goes_on
returns-in-Ok-clause-goes_on g c = λ answer may. subst (λ s. IsStageAnswer s answer) (sym c.in-Reading.is) (taken_on c.in-Reading.reading c.poll_whole.new.self c.begin.result c.begin.new.self.stage (search rules) c.begin.ensures answer may)
