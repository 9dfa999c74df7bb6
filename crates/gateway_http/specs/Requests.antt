-- What a request that was read comes to.
use Rattle.std.specs.Prelude.{◌≡◌, ◌≢◌, ◌<◌, ◌≤◌, ⊤, ℕ, List, map, Option, Some, None, Result, Ok, Err, codes}
use Rattle.std.specs.Char.{to_ascii_lowercase}
use Rattle.http_header.specs.FieldValue.{FieldValue}
use Rattle.http_header.specs.HeaderMap.{Entries, get}
use Rattle.etcd_types.specs.Limits.{max_body}
use Rattle.etcd_types.specs.declared.call.Call.{Call}
use Rattle.etcd_types.specs.declared.refusal.Refusal.{Refusal}
use Rattle.etcd_types.specs.declared.refusal.Refusal.TheVariants as refusal
use Rattle.etcd_model.specs.Calls.{Target, call_of, target_of}
use Rattle.fair_turns.specs.Answers.{Refuses}
use Rattle.pending_calls.specs.declared.request.Route.{Route}
use Rattle.pending_calls.specs.declared.begun.Begun.{Begun}
use Rattle.pending_calls.specs.declared.begun.Begun.TheVariants.{Pending, Answered}
use Rattle.pending_calls.specs.Begins.{IsBegun}
use Rattle.gateway_http.specs.declared.reading.Loss.{Loss}
use Rattle.gateway_http.specs.declared.reading.Loss.TheVariants as loss

-- a target names a tenant and a call
pub record Names (target : List ℕ) (tenant : List ℕ) (call : Call) : Type 0 where
  pub place : Target
  pub found : target_of target ≡ Some place
  pub whose : place.tenant ≡ tenant
  pub named : call_of place.path ≡ Some call

-- why a request has no route: it names no call, or one on a tenant that is not there, or is no POST; or there is no memory
abbrev pub IsUnrouted : List ℕ → List ℕ → Refusal → Type 0
IsUnrouted method target refusal.NoPath = (tenant : List ℕ) → (call : Call) → Names target tenant call → ⊥
IsUnrouted method target refusal.NoTenant = (tenant : List ℕ) × (call : Call) × Names target tenant call
IsUnrouted method target refusal.NotPost = ((tenant : List ℕ) × (call : Call) × Names target tenant call) × (method ≢ codes "POST")
IsUnrouted method target refusal.Memory = ⊤
IsUnrouted method target r = ⊥

-- the route of a request by this method and target is to the tenant and the call that it names, or why it has none
abbrev pub IsRouteOf : List ℕ → List ℕ → Result Route Refusal → Type 0
IsRouteOf method target (Ok route) = Names target route.tenant.value.name.items route.call × (method ≡ codes "POST")
IsRouteOf method target (Err r) = IsUnrouted method target r

-- a body has a transfer coding other than in chunks, by the header of that name
abbrev pub IsCoded : Option FieldValue → Type 0
IsCoded (Some coding) = map to_ascii_lowercase coding.bytes ≢ codes "chunked"
IsCoded None = ⊥

-- it has none
abbrev pub IsPlain : Option FieldValue → Type 0
IsPlain (Some coding) = map to_ascii_lowercase coding.bytes ≡ codes "chunked"
IsPlain None = ⊤

-- the most bytes that a body comes to have, of which so many are announced, or none are
abbrev pub most_of : Option ℕ → ℕ
most_of (Some announced) = announced
most_of None = max_body

-- why a body is thrown away by its head, which has these headers: it has a coding that is not offered, or else too many bytes
-- are announced; any other body is kept
abbrev pub IsLossOf : Entries FieldValue → ℕ → Option Loss → Type 0
IsLossOf headers most (Some loss.Coded) = IsCoded (get headers (codes "transfer-encoding"))
IsLossOf headers most (Some loss.TooLarge) = IsPlain (get headers (codes "transfer-encoding")) × (max_body < most)
IsLossOf headers most (Some loss.NoMemory) = ⊥
IsLossOf headers most None = IsPlain (get headers (codes "transfer-encoding")) × (most ≤ max_body)

-- what is told of a body that was thrown away
abbrev pub loss_told : Loss → Refusal
loss_told loss.TooLarge = refusal.TooLarge
loss_told loss.Coded = refusal.NotOffered
loss_told loss.NoMemory = refusal.Memory

-- it is refused at once
abbrev pub IsRefused : {R : Type 0} → Refusal → Begun R → Type 0
IsRefused r (Answered told) = Refuses r told.answer
IsRefused r (Pending call) = ⊥

-- its head is refused, or its body was thrown away; or its call begins, by its body
abbrev pub IsTakenUp : {R : Type 0} → Result Route Refusal → Option Loss → List ℕ → Begun R → Type 0
IsTakenUp (Err r) lost body begun = IsRefused r begun
IsTakenUp (Ok route) (Some loss) body begun = IsRefused (loss_told loss) begun
IsTakenUp (Ok route) None body begun = IsBegun begun route body
