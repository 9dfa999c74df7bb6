use Rattle.etcd_types.proofs.reply.Reply.same_as.Goals as goal
use Rattle.std.proofs.lemmas.Bool.Decides.{Decides-at}
use Rattle.etcd_types.proofs.SameLaws.{reply_decides}

pub returns : goal.returns
returns c = Decides-at _ _ c.eq.ensures (reply_decides c.args.self.now c.args.other.now)
