use Rattle.steps_core.proofs.Served.{opened}
use Rattle.steps_core.proofs.host.Host.new.Goals as goal

pub invariant_of-result-2 : goal.invariant_of-result-2
invariant_of-result-2 c = opened c.new.result.entries _ c.args.segments _ c.new.ensures.empty c.in_ok-new.ensures c.idle.ensures
