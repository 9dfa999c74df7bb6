use Rattle.gateway_http.proofs.RequestLemmas.{gives_on}
use Rattle.gateway_http.proofs.exchange.ExchangeFuture.poll.Goals as goal

pub returns-clause-same : goal.returns-clause-same
returns-clause-same g c = gives_on c.args.self.now.stage c.poll_told.new.self.stage c.poll_told.ensures.goes_on
