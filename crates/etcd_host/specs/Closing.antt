-- How closing ends.
use Rattle.std.specs.Prelude.{◌≢◌, ◌⊎◌, ℕ, List}
use Rattle.tenant_audit.specs.declared.audit.Opening.{Opening}
use Rattle.tenant_audit.specs.declared.closed.CloseFault.{CloseFault}
use Rattle.tenant_audit.specs.declared.closed.CloseFault.TheVariants.{Memory}
use Rattle.tenant_audit.specs.Audits.{Log}
use Rattle.tenant_audit.specs.Closed.{AreClosed, HasFault}
use Rattle.tenant_audit.specs.Seats.{SeatState}
use Rattle.tenant_registry.specs.Registries.{HasKeyOut}

-- the audits of these tenants are the seats' lists
abbrev pub HaveClosed : List (List ℕ × Opening) → List SeatState → Type 0
HaveClosed given seats = (audits : List (List ℕ × Log)) × AreClosed given seats audits

-- they are not, or somebody has a key to one of them
abbrev pub HaveDiffered : List (List ℕ × Opening) → List SeatState → Type 0
HaveDiffered given seats =
    (f : CloseFault) × (f ≢ Memory) × (HasFault given seats f ⊎ HasKeyOut given f)
