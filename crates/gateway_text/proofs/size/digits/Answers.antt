use Rattle.std.proofs.Common.{sym}
use Rattle.gateway_text.proofs.DigitLemmas.{digits_are}
use Rattle.gateway_text.proofs.size.digits.Goals as goal

pub returns-in-Some-clause-exact : goal.returns-in-Some-clause-exact
returns-in-Some-clause-exact c = sym (digits_are c.in-Some.power c.args.number c.in-Some.ensures.power_le c.in-Some.ensures.next_power_gt c.ranges.number.fits)
