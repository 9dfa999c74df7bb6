use Rattle.std.proofs.Common.{◌≡◌, ◌≤◌, ◌+◌, ◌∙◌, ap, arith, refl, subst, sym}
use Rattle.std.proofs.lemmas.Bool.Decides.{nat_tests}
use Rattle.etcd_model.specs.declared.state.Watch.{Watch}
use Rattle.watch_sync.specs.Agreeing.{WatchState}
use Rattle.watch_sync.specs.Catching.{IsStuck, passed}
use Rattle.watch_sync.proofs.Passing.{passed_more, passed_none}
use Rattle.watch_sync.proofs.watch.OpenWatch.catch_up.Goals as goal

pub go_on-requires-clause-whole : goal.go_on-requires-clause-whole
go_on-requires-clause-whole c =
    let next = ap (λ (w : Watch). w.next) c.loop-self.invariant.watch in
    let whole : c.args.store.now.kept.compacted ≤ c.args.self.now.watch.next = grind (arith, nat_tests) in
    omega (arith, next, whole)

pub loop-self-init : goal.loop-self-init
loop-self-init c = record {
  watch = refl;
  agrees = λ agrees. agrees;
  forth = omega arith;
  left = omega (arith, passed_none c.args.store.now.kept c.args.self.now.position);
}

pub loop-self-preserved : goal.loop-self-preserved
loop-self-preserved c =
    let further = c.in-Some.ensures.further in
    let more = passed_more c.args.store.now.kept c.args.self.now.position c.loop-self.self.position c.go_on.new.self.position c.loop-self.invariant.forth (omega (arith, further)) c.current.ensures.sound.kept.rises in
    record {
      watch = c.go_on.ensures.watch ∙ c.loop-self.invariant.watch;
      agrees = λ agrees. c.go_on.ensures.agrees (c.loop-self.invariant.agrees agrees);
      forth = omega (arith, c.loop-self.invariant.forth, further);
      left = omega (arith, more, c.in-Some.ensures.passed, c.in-Some.ensures.within, c.loop-self.invariant.left);
    }

pub returns-in-None-clause-budget : goal.returns-in-None-clause-budget
returns-in-None-clause-budget c =
    ap (λ (w : WatchState). passed c.args.store.now.kept c.args.self.now.position w.position + c.loop-self.left) (c.go_on.ensures.stays c.in-None.is) ∙ c.loop-self.invariant.left

pub returns-in-None-clause-stops : goal.returns-in-None-clause-stops
returns-in-None-clause-stops c = λ whole behind.
    subst (IsStuck c.args.store.now.kept c.loop-self.left) (sym (c.go_on.ensures.stays c.in-None.is)) (c.go_on.ensures.stuck c.in-None.is)

pub returns-then-not-is_whole-clause-budget : goal.returns-then-not-is_whole-clause-budget
returns-then-not-is_whole-clause-budget c = omega (arith, passed_none c.args.store.now.kept c.args.self.now.position)
