use Rattle.serde_json.specs.View.{view}
use Rattle.host_operator.proofs.operator.adding.WantedTenant.of.Goals as goal

pub returns : goal.returns
returns c = (view c.in_ok-object.object, c.in_ok-object.ensures.read, c.in_ok-config.ensures)
