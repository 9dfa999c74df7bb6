use Rattle.std.proofs.Common.{◌≡◌, false, refl, subst, sym, true}
use Rattle.watch_sync.specs.Slots.{PlansTake, gives_events, watch_in, watches}
use Rattle.tenant_machine.specs.Tenants.{MachineState}
use Rattle.tenant_machine.proofs.DecidingWatches.{take_does}
use Rattle.tenant_machine.proofs.EarlyRefusals.{not_so}
use Rattle.tenant_machine.proofs.machine.Machine.plan_take.Goals as goal

pub returns-clause-does : goal.returns-clause-does
returns-clause-does c =
    let plans = subst (λ (m : MachineState). PlansTake m.watchers m.store c.header.result m.moment c.args.slot c.in_ok-planned.planned) c.self.view_is c.in_ok-planned.ensures.plans in
    take_does c.args.self.now c.args.slot c.header.result c.in_ok-planned.planned _ c.header.ensures plans refl

pub returns-in_err-planned-clause-sure : goal.returns-in_err-planned-clause-sure
returns-in_err-planned-clause-sure c = λ nothing.
    let none = subst (λ (m : MachineState). gives_events m.store.kept (watch_in (watches m.watchers) c.args.slot) ≡ false) (sym c.self.view_is) (not_so _ nothing) in
    let no : false ≡ true = c.in_err-planned.ensures.sure none in
    absurd (cc)
