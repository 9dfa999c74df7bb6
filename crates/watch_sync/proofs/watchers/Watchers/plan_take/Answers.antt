use Rattle.std.proofs.Common.{◌≡◌, ◌∙◌, Some, ap, refl, subst, sym, false}
use Rattle.std.specs.Prelude.{Option, slice_get}
use Rattle.etcd_model.specs.declared.state.Watch.{Watch}
use Rattle.watch_sync.specs.Agreeing.{WatchState}
use Rattle.watch_sync.specs.Slots.{gives_events, hinted}
use Rattle.watch_sync.proofs.Slotted.{agrees_in, of_watch, open_slot, watch_in-map}
use Rattle.watch_sync.proofs.Takes.{plans_quiet}
use Rattle.watch_sync.proofs.watchers.Watchers.plan_take.Goals as goal

pub plan-requires : goal.plan-requires
plan-requires c = agrees_in c.args.store.now c.args.self.now c.args.slot c.in-Some.watch.now c.requires (open_slot c.args.self.now c.args.slot c.in-Some.watch.now (sym c.in-Some.ensures))

pub returns-in-None-clause-plans : goal.returns-in-None-clause-plans
returns-in-None-clause-plans c = plans_quiet c.args.self.now c.args.store.now c.args.header c.args.moment c.args.slot (slice_get c.args.self.now c.args.slot) refl (sym c.in-None.ensures)

pub returns-in-Some-clause-sure : goal.returns-in-Some-clause-sure
returns-in-Some-clause-sure c = λ none.
    let slots = c.args.self.now in
    let at = watch_in-map slots c.args.slot ∙ ap of_watch (sym c.in-Some.ensures) in
    c.plan.ensures.sure (subst (λ (w : Option Watch). gives_events c.args.store.now.kept w ≡ false) at none)

pub returns-in-Some-clause-quiet : goal.returns-in-Some-clause-quiet
returns-in-Some-clause-quiet c = λ quiet.
    c.plan.ensures.quiet (subst (λ (w : Option WatchState). hinted c.args.store.now c.args.moment w ≡ false) (sym c.in-Some.ensures) quiet)
