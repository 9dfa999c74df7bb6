-- What is made of a brief request where it was read.
use Rattle.std.specs.Prelude.{ℕ, List, Result, Ok, Err}
use Rattle.etcd_types.specs.declared.step.Step.{Step}
use Rattle.tenant_audit.specs.Receipts.{Slip}
use Rattle.tenant_calls.specs.Counts.{Counts, IsNoMore}
use Rattle.pending_calls.specs.declared.brief_request.BriefRequest.{BriefRequest}
use Rattle.pending_calls.specs.declared.told.Told.{Told}
use Rattle.tenant_scheduler.specs.Makes.{IsMade}

-- its step is served once, on its own tenant; or no call was made
abbrev pub IsOutcome : {R K : Type 0} → (K → ℕ) → (K → List ℕ) → (ℕ → Step → Slip → Type 0) → BriefRequest
    → Result (Told R) BriefRequest → Counts → Counts → Type 0
IsOutcome number_of name_of gives brief (Ok told) old new =
    IsMade number_of name_of gives brief.asked.request.route.tenant.value brief.step told.answer old new
IsOutcome number_of name_of gives brief (Err left) old new = IsNoMore old new
