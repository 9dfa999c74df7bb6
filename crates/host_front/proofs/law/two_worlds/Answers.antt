use Rattle.std.proofs.Common.{refl}
use Rattle.model_laws.proofs.WorldLaws.{two_worlds}
use Rattle.host_front.proofs.law.two_worlds.Goals as goal

pub returns : goal.returns
returns c = λ t S here there left gone xs ys held same one two events.
    (two_worlds t S S xs ys refl events (one.alone t S held).answers (two.alone t S same).answers).0
