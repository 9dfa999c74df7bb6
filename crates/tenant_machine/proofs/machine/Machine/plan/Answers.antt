use Rattle.std.proofs.Common.{◌≡◌, None, ap, is_some}
use Rattle.etcd_model.specs.Stepping.{look_up}
use Rattle.etcd_model.specs.Store.{kept_store}
use Rattle.tenant_machine.specs.Deciding.{early_refusal, holds_nothing}
use Rattle.tenant_machine.specs.Plans.{takes_memory}
use Rattle.tenant_machine.specs.Tenants.{tenant}
use Rattle.tenant_machine.proofs.EarlyRefusals.{let_through_does, refused_does, sure_past_refusals}
use Rattle.tenant_machine.proofs.Holding.{plans, plans_where}
use Rattle.tenant_machine.proofs.machine.Machine.plan.Goals as goal

pub returns-in-Some-clause-plans : goal.returns-in-Some-clause-plans
returns-in-Some-clause-plans c =
    plans c.args.self.now c.args.step.now c.refused.result
    (refused_does c.args.self.now c.args.step.now c.in-Some.refusal c.refused.result (cc) c.refused.ensures)

pub returns-in-None-clause-plans : goal.returns-in-None-clause-plans
returns-in-None-clause-plans c =
    plans_where c.args.self.now c.args.step.now c.decide.result
    (let_through_does c.args.self.now c.args.step.now c.decide.result (cc) c.decide.ensures.does)

pub returns-in-None-clause-sure : goal.returns-in-None-clause-sure
returns-in-None-clause-sure c =
    let t = tenant c.args.self.now in
    let step = c.args.step.now in
    let none : early_refusal t step ≡ None = cc in
    sure_past_refusals (takes_memory step) (holds_nothing t step) (is_some (early_refusal t step)) (is_some (look_up kept_store t step)) (ap is_some none) c.decide.ensures.sure c.decide.ensures.nothing c.decide.ensures.stopped
