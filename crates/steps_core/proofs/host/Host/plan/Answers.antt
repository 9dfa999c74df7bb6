use Rattle.std.proofs.Common.{◌≡◌, sym, subst, true, None, Some}
use Rattle.tenant_machine.specs.Deciding.{is_sure}
use Rattle.tenant_machine.specs.Tenants.{tenant}
use Rattle.steps_core.specs.Hosts.{machine_at}
use Rattle.steps_core.proofs.Shown.{shown_at}
use Rattle.steps_core.proofs.Stepped.{unplanned_by}
use Rattle.steps_core.proofs.host.Host.plan.Goals as goal

pub returns-in-Ok-clause-ok : goal.returns-in-Ok-clause-ok
returns-in-Ok-clause-ok c = record {
  fits = record {
    machine = c.in-Some.tenant.now.machine;
    is = shown_at c.args.tenant.now c.self.inside.tenants.entries c.self.inside.desk _ _ c.self.view_is c.in-Some.ensures.value;
    fits = c.in-Ok.ensures.fits;
  };
  plans = c.in-Ok.ensures.plans;
}

pub returns-in-Err-clause-err : goal.returns-in-Err-clause-err
returns-in-Err-clause-err c = sym (unplanned_by c.args.self.now c.args.tenant.now (shown_at c.args.tenant.now c.self.inside.tenants.entries c.self.inside.desk _ _ c.self.view_is c.in-Some.ensures.value))

pub returns-in-Err-clause-sure : goal.returns-in-Err-clause-sure
returns-in-Err-clause-sure c = λ at.
    let found : machine_at c.args.self.now c.args.tenant.now ≡ Some c.in-Some.tenant.now.machine = shown_at c.args.tenant.now c.self.inside.tenants.entries c.self.inside.desk _ _ c.self.view_is c.in-Some.ensures.value in
    let same : at.machine ≡ c.in-Some.tenant.now.machine = cc (found, at.is) in
    c.in-Err.ensures.sure (subst (λ m. is_sure (tenant m) c.args.step.now ≡ true) same at.sure)

pub returns-in-None-clause-err : goal.returns-in-None-clause-err
returns-in-None-clause-err c = sym (unplanned_by c.args.self.now c.args.tenant.now (shown_at c.args.tenant.now c.self.inside.tenants.entries c.self.inside.desk _ _ c.self.view_is c.in-None.ensures.value))

pub returns-in-None-clause-sure : goal.returns-in-None-clause-sure
returns-in-None-clause-sure c = λ at.
    let none : machine_at c.args.self.now c.args.tenant.now ≡ None = shown_at c.args.tenant.now c.self.inside.tenants.entries c.self.inside.desk _ _ c.self.view_is c.in-None.ensures.value in
    cc (none, at.is)
