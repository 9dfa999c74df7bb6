use Rattle.steps_core.proofs.Stepped.{stepped_at, refused_at}
use Rattle.steps_core.proofs.host.Host.step.Goals as goal

pub returns-in-Ok : goal.returns-in-Ok
returns-in-Ok c = stepped_at _ _ _ _ _ _ c.in-Ok.ensures.ok c.commit.ensures.after c.commit.ensures.reply

pub returns-in-Err : goal.returns-in-Err
returns-in-Err c = refused_at _ _ _ _ c.in-Err.ensures.err c.in-Err.ensures.sure
