use Rattle.gateway_http.proofs.RequestLemmas.{without_server}
use Rattle.gateway_http.proofs.reading.Reading.begin.Goals as goal

pub returns-in_default-server : goal.returns-in_default-server
returns-in_default-server g c = without_server c.args.self.route c.args.self.lost c.args.self.read.items c.in-Ok.route c.refused-in_default-server.result c.in-Ok.is c.in_default.is c.refused-in_default-server.ensures
