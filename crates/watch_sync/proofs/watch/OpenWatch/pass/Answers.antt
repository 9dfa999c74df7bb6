use Rattle.std.proofs.Common.{subst, sym}
use Rattle.watch_sync.specs.Agreeing.{Agrees, WatchState}
use Rattle.watch_sync.proofs.Rings.{passes_on, stretch_there}
use Rattle.watch_sync.proofs.watch.OpenWatch.pass.Goals as goal

pub take_up-requires : goal.take_up-requires
take_up-requires c = stretch_there c.args.store.now c.args.self.now.position c.args.to c.args.changes.now c.requires.stretch

pub returns-then-not-take_up-clause-agrees : goal.returns-then-not-take_up-clause-agrees
returns-then-not-take_up-clause-agrees c = λ agrees. subst (λ (w : WatchState). Agrees w c.args.store.now) (sym (c.take_up.ensures.none c.if-not-take_up.true)) agrees

pub returns-clause-agrees : goal.returns-clause-agrees
returns-clause-agrees c = λ agrees.
    passes_on c.args.self.now c.take_up.new.self c.move_to.new.self c.args.store.now c.args.changes.now c.args.to c.use_invariant.ensures.kept c.requires.whole c.requires.stretch
    (c.take_up.ensures.all c.if-not-take_up.false) c.move_to.ensures agrees
