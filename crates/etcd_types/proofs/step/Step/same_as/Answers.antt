use Rattle.etcd_types.proofs.step.Step.same_as.Goals as goal
use Rattle.std.proofs.lemmas.Bool.Decides.{Decides-at}
use Rattle.etcd_types.proofs.SameLaws.{step_decides}

pub returns : goal.returns
returns c = Decides-at _ _ c.eq.ensures (step_decides c.args.self.now c.args.other.now)
