use Rattle.std.proofs.Common.{◌∙◌, sym, ap}
use Rattle.host_front.specs.Quotas.{quota_alone}
use Rattle.host_front.proofs.law.two_lived_worlds.Goals as goal

pub returns : goal.returns
returns c = λ t S here there left gone xs ys later last one two from since same.
    (one.alone t S later from).answers ∙ ap (quota_alone S) same ∙ sym (two.alone t S last since).answers
