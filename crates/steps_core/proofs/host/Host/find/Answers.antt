use Rattle.steps_core.proofs.Shown.{shown_at}
use Rattle.steps_core.proofs.Stepped.{finds_nowhere, finds_there, found_at, sure_there}
use Rattle.steps_core.proofs.host.Host.find.Goals as goal

pub returns-in-Some-clause-plan : goal.returns-in-Some-clause-plan
returns-in-Some-clause-plan c =
    found_at c.args.self.now c.args.tenant.now c.args.step.now c.in-Some.found.now.machine
    (shown_at c.args.tenant.now c.self.inside.tenants.entries c.self.inside.desk _ _ c.self.view_is c.in-Some.ensures.value)
    c.find.result c.find.ensures.plan

pub returns-in-Some-clause-found : goal.returns-in-Some-clause-found
returns-in-Some-clause-found c =
    finds_there c.args.self.now c.args.tenant.now c.args.step.now c.in-Some.found.now.machine
    (shown_at c.args.tenant.now c.self.inside.tenants.entries c.self.inside.desk _ _ c.self.view_is c.in-Some.ensures.value)
    c.find.result c.find.ensures.found

pub returns-in-Some-clause-sure : goal.returns-in-Some-clause-sure
returns-in-Some-clause-sure c =
    sure_there c.args.self.now c.args.tenant.now c.args.step.now c.in-Some.found.now.machine
    (shown_at c.args.tenant.now c.self.inside.tenants.entries c.self.inside.desk _ _ c.self.view_is c.in-Some.ensures.value)
    c.find.result c.find.ensures.sure

pub returns-in-None-clause-found : goal.returns-in-None-clause-found
returns-in-None-clause-found c =
    finds_nowhere c.args.self.now c.args.tenant.now c.args.step.now
    (shown_at c.args.tenant.now c.self.inside.tenants.entries c.self.inside.desk _ _ c.self.view_is c.in-None.ensures.value)
