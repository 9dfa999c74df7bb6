use Rattle.std.proofs.Common.{sym, subst}
use Rattle.std.specs.Prelude.{IfOk}
use Rattle.etcd_types.specs.declared.step.Step.{Step}
use Rattle.tenant_machine.specs.Deciding.{Does, past_early}
use Rattle.tenant_machine.specs.Tenants.{tenant}
use Rattle.tenant_machine.proofs.machine.Machine.decide.Goals as goal

pub returns-in-Put-clause-does : goal.returns-in-Put-clause-does
returns-in-Put-clause-does c = subst (λ (s : Step). IfOk c.plan_put.result (λ p. Does c.args.self.now p (past_early (tenant c.args.self.now) s))) (sym c.in-Put.is) c.plan_put.ensures.does

pub returns-in-Txn-clause-does : goal.returns-in-Txn-clause-does
returns-in-Txn-clause-does c = subst (λ (s : Step). IfOk c.plan_txn.result (λ p. Does c.args.self.now p (past_early (tenant c.args.self.now) s))) (sym c.in-Txn.is) c.plan_txn.ensures.does

pub returns-in-Grant-clause-does : goal.returns-in-Grant-clause-does
returns-in-Grant-clause-does c = subst (λ (s : Step). Does c.args.self.now c.plan_grant.result (past_early (tenant c.args.self.now) s)) (sym c.in-Grant.is) c.plan_grant.ensures.does
