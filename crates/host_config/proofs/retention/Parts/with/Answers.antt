use Rattle.std.proofs.Common.{arith, refl}
use Rattle.host_config.proofs.DurationLemmas.{with_other, with_unit}
use Rattle.host_config.proofs.retention.Parts.with.Goals as goal

pub returns-in-104 : goal.returns-in-104
returns-in-104 c text = rw (c.in-104.is, c.with_unit.ensures) (with_unit c.args.self 104 3600 text refl refl)

pub returns-in-109 : goal.returns-in-109
returns-in-109 c text = rw (c.in-109.is, c.with_unit-in-109.ensures) (with_unit c.args.self 109 60 text refl refl)

pub returns-in-115 : goal.returns-in-115
returns-in-115 c text = rw (c.in-115.is, c.with_unit-in-115.ensures) (with_unit c.args.self 115 1 text refl refl)

pub returns-in_default : goal.returns-in_default
returns-in_default c text = rw (c.with_digit.ensures) (with_other c.args.self c.args.byte text (λ h. omega arith) (λ h. omega arith) (λ h. omega arith))
