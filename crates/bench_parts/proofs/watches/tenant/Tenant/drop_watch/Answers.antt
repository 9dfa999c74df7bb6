use Rattle.bench_parts.proofs.watches.tenant.Tenant.drop_watch.Goals as goal

pub invariant_of-self : goal.invariant_of-self
invariant_of-self c = (c.self.invariant.0, (c.self.invariant.1.0, c.drop_watch.ensures.agree c.self.inside.store c.self.invariant.1.1))
