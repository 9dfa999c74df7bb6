use Rattle.tenant_machine.proofs.Holding.{stepped}
use Rattle.tenant_machine.proofs.machine.Machine.step.Goals as goal

pub returns-in-Ok-clause-steps : goal.returns-in-Ok-clause-steps
returns-in-Ok-clause-steps g c = stepped c.args.self.now c.commit.new.self c.args.step.now c.in-Ok.planned c.commit.result c.in-Ok.ensures.plans c.commit.ensures.after c.commit.ensures.reply
