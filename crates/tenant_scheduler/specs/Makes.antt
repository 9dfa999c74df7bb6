-- What is made of calls by a thread, beside what it answers.
--
-- Three facts of who keeps the tenants stand in each word: which number and name a key has, and which receipts a tenant of a
-- number has given for a step.
use Rattle.std.specs.Prelude.{◌≡◌, ◌≢◌, ℕ, List, Option, Some}
use Rattle.etcd_types.specs.declared.step.Step.{Step}
use Rattle.etcd_types.specs.declared.step.Step.TheVariants.{Compact}
use Rattle.etcd_types.specs.declared.refusal.Refusal.{Refusal}
use Rattle.fair_turns.specs.declared.answer.Answer.{Answer}
use Rattle.fair_turns.specs.Answers.{Conveys, Refuses}
use Rattle.tenant_audit.specs.Receipts.{Slip}
use Rattle.tenant_calls.specs.Answers.{IsUncalled}
use Rattle.tenant_calls.specs.Counts.{Counts, IsNoMore, IsOneMore}
use Rattle.pending_calls.specs.declared.request.NamedTenant.{NamedTenant}
use Rattle.pending_calls.specs.declared.request.Request.{Request}
use Rattle.fair_turns.specs.declared.watch_texts.ServedWatch.{ServedWatch}
use Rattle.pending_calls.specs.Requests.{IsStepOf, IsUnread}
use Rattle.tenant_scheduler.specs.Watches.{IsListed}

-- one call more was made, by a key to the tenant of that number and that name
pub record IsCounted {K : Type 0} (number_of : K → ℕ) (name_of : K → List ℕ) (tenant : NamedTenant) (old new : Counts) : Type 0 where
  pub key : K
  pub numbered : number_of key ≡ tenant.number
  pub named : name_of key ≡ tenant.name.items
  pub more : IsOneMore tenant.name.items old new

-- a step is answered by the receipt of the one call that was made for it; or why there is none, and no call was made
pub data IsMade {R K : Type 0} (number_of : K → ℕ) (name_of : K → List ℕ) (gives : ℕ → Step → Slip → Type 0) (tenant : NamedTenant) (step : Step) (answer : Answer R) (old new : Counts) : Type 0 where
  Made : (slip : Slip) → IsCounted number_of name_of tenant old new → gives tenant.number step slip
      → Conveys answer slip → IsMade number_of name_of gives tenant step answer old new
  Unmade : (r : Refusal) → IsNoMore old new → IsUncalled r → Refuses r answer
      → IsMade number_of name_of gives tenant step answer old new

-- So is the create of a watch: what it was told stands with the tenant's watches. Where no call was made, those stay.
pub data IsOpened {R K : Type 0} (number_of : K → ℕ) (name_of : K → List ℕ) (gives : ℕ → Step → Slip → Type 0) (tenant : NamedTenant) (step : Step) (answer : Answer R) (before after : List ServedWatch) (old new : Counts) : Type 0 where
  Opened : (slip : Slip) → IsCounted number_of name_of tenant old new → gives tenant.number step slip
      → Conveys answer slip → IsListed tenant.number slip.slot before after
      → IsOpened number_of name_of gives tenant step answer before after old new
  Unopened : (r : Refusal) → IsNoMore old new → IsUncalled r → Refuses r answer → after ≡ before
      → IsOpened number_of name_of gives tenant step answer before after old new

-- calls may have been made by the key, and by no other
abbrev pub IsOnlyOn : {K : Type 0} → (K → List ℕ) → Option K → Counts → Counts → Type 0
IsOnlyOn {K = K} name_of key old new = (name : List ℕ) → ((by : K) → key ≡ Some by → name ≢ name_of by) → new name ≡ old name

-- before a compaction, takes are made by the key
abbrev pub IsMadeAfterTakes : {R K : Type 0} → (K → ℕ) → (K → List ℕ) → (ℕ → Step → Slip → Type 0) → Option K → NamedTenant → Step → Answer R → Counts → Counts → Type 0
IsMadeAfterTakes number_of name_of gives key tenant (Compact revision) answer old new =
    (taken : Counts) × (IsOnlyOn name_of key old taken × IsMade number_of name_of gives tenant (Compact revision) answer taken new)
IsMadeAfterTakes number_of name_of gives key tenant step answer old new = IsMade number_of name_of gives tenant step answer old new

-- a request's call is made so, if its body is read as a step; else none is made
pub data IsRequestMade {R K : Type 0} (number_of : K → ℕ) (name_of : K → List ℕ) (gives : ℕ → Step → Slip → Type 0) (key : Option K) (request : Request) (answer : Answer R) (old new : Counts) : Type 0 where
  Read : (step : Step) → IsStepOf request step
      → IsMadeAfterTakes number_of name_of gives key request.route.tenant.value step answer old new
      → IsRequestMade number_of name_of gives key request answer old new
  Unread : (r : Refusal) → IsNoMore old new → IsUnread request r → Refuses r answer
      → IsRequestMade number_of name_of gives key request answer old new
