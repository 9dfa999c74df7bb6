use Rattle.std.proofs.Common.{sym, subst, arith, take, ◌+◌}
use Rattle.steps_core.specs.Hosts.{StepsAt}
use Rattle.steps_core.specs.Isolation.{IsIsolated, step_turns}
use Rattle.steps_core.proofs.Runs.{isolated_more}
use Rattle.steps_core.proofs.host.Host.run.Goals as goal

pub loop-call-preserved : goal.loop-call-preserved
loop-call-preserved c =
    let steps = subst (λ t. StepsAt c.loop-call.self t c.call-item.result.1 c.step-reply.result c.step-reply.new.self) c.as_slice.ensures.value c.step-reply.ensures in
    record {
      told = subst (λ rs. IsIsolated c.args.self.now (step_turns (take (c.loop-call.call-index + 1) c.args.calls.now) rs) c.step-reply.new.self) (sym c.push_reserved.ensures.items)
          (isolated_more _ _ _ c.args.calls.now c.loop-call.call-index c.call-item.result c.loop-call.replies.items c.step-reply.result c.loop-call.invariant.told steps (omega (arith, c.loop-call.replies.ok.0, c.loop-call.invariant.count)) c.loop-call-test.true c.call-item.is);
      count = omega arith;
      room = omega arith;
    }
