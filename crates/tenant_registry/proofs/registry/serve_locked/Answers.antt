use Rattle.tenant_registry.proofs.KeptLemmas.{is_served}
use Rattle.tenant_registry.proofs.registry.serve_locked.Goals as goal

pub returns-clause-served : goal.returns-clause-served
returns-clause-served g c = is_served _ _ c.args.opening c.args.seat c.args.step c.serve_there.result c.serve_there.ensures.served
