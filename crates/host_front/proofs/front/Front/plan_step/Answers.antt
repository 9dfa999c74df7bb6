use Rattle.std.proofs.Common.{◌∙◌, ap}
use Rattle.etcd_model.specs.ReplyText.{text}
use Rattle.host_front.specs.Answering.{has_fixed_text}
use Rattle.host_front.proofs.Answered.{step_made, step_unplanned, step_untold}
use Rattle.host_front.proofs.front.Front.plan_step.Goals as goal

pub returns : goal.returns
returns c =
    step_made _ _ _ _ _ _ c.in-Ok.ensures.ok c.commit.ensures.after (c.in-Ok-to.ensures.told ∙ ap text c.reply.ensures)

pub returns-in-Err : goal.returns-in-Err
returns-in-Err c =
    step_unplanned c.args.self.now.host c.args.tenant.now c.args.step.now c.in-Err.refusal c.refused.result
    c.in-Err.ensures.err c.in-Err.ensures.sure c.refused.ensures

pub returns-in_default : goal.returns-in_default
returns-in_default c =
    step_untold c.args.self.now.host c.args.tenant.now c.args.step.now _ c.no_memory.result c.in-Ok.ensures.ok
    (λ fixed. c.in_default.ensures.sure (ap has_fixed_text c.reply.ensures ∙ fixed)) c.no_memory.ensures
