use Rattle.tenant_machine.proofs.DecidingSpace.{writing_fits}
use Rattle.tenant_machine.proofs.machine.Machine.writing.Goals as goal

pub returns-clause-fits : goal.returns-clause-fits
returns-clause-fits c = writing_fits c.args.self.now c.self.inside.cluster c.self.inside.store c.self.inside.leases c.self.inside.watchers c.self.inside.moment c.self.inside.quota c.args.plan c.args.used c.self.view_is c.self.invariant.0 c.use_invariant.ensures c.requires.plan c.requires.revisions c.requires.used c.requires.within
