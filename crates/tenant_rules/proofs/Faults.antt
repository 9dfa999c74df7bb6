-- Which of several faults is told.
use Rattle.std.proofs.Common.{◌≡◌, refl, Bool, true, false, not, ◌||◌, Option, None, Some}
use Rattle.std.specs.Prelude.{if◌then◌else◌}
use Rattle.tenant_rules.specs.declared.fault.OperatorFault.TheVariants.{Name, Limits, NoTenant, Short}
use Rattle.tenant_rules.specs.Rules.{first_fault}

-- if none of four faults is the first, none is there
pub no_faults : (name limits taken short : Bool) → first_fault name limits taken short ≡ None → (name ≡ false) × ((limits ≡ false) × ((taken ≡ false) × (short ≡ false)))
no_faults false false false false h = (refl, (refl, (refl, refl)))
no_faults true limits taken short h = absurd (cc)
no_faults false true taken short h = absurd (cc)
no_faults false false true short h = absurd (cc)
no_faults false false false true h = absurd (cc)

pub neither : (a b : Bool) → (not a || b) ≡ false → (a ≡ true) × (b ≡ false)
neither true false h = (refl, refl)
neither true true h = absurd (cc)
neither false b h = absurd (cc)

-- the fault that four tests tell
pub by_tests : (named limits there lacks : Bool) {a b c d : Bool} → named ≡ a → limits ≡ b → there ≡ c → lacks ≡ d → (if not named then Some Name else if not limits then Some Limits else if not there then Some NoTenant else if lacks then Some Short else None) ≡ (if not a then Some Name else if not b then Some Limits else if not c then Some NoTenant else if d then Some Short else None)
by_tests named limits there lacks x y z u = rw (x, y, z, u) refl

-- the fault that two tests tell
pub by_two : (named there : Bool) {a b : Bool} → named ≡ a → there ≡ b → (if not named then Some Name else if not there then Some NoTenant else None) ≡ (if not a then Some Name else if not b then Some NoTenant else None)
by_two named there x y = rw (x, y) refl
