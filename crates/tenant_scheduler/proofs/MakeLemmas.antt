-- How a call is made for an answer, or none.
use Rattle.std.specs.Prelude.{Option}
use Rattle.std.proofs.Common.{◌≡◌, ◌∙◌, sym, subst, refl, ℕ, ℤ, false, true, List}
use Rattle.etcd_types.specs.declared.step.Step.{Step}
use Rattle.etcd_types.specs.declared.step.Step.TheVariants as step
use Rattle.etcd_types.specs.declared.refusal.Refusal.TheVariants.{Memory}
use Rattle.fair_turns.specs.declared.answer.Answer.{Answer}
use Rattle.fair_turns.specs.Answers.{Refuses}
use Rattle.tenant_audit.specs.Receipts.{Slip}
use Rattle.tenant_calls.specs.Counts.{Counts, IsNoMore, IsOneMore}
use Rattle.pending_calls.specs.declared.request.NamedTenant.{NamedTenant}
use Rattle.fair_turns.specs.declared.watch_texts.ServedWatch.{ServedWatch}
use Rattle.etcd_types.specs.Steps.{is_brief}
use Rattle.tenant_scheduler.specs.Makes.{IsCounted, IsMade, IsMadeAfterTakes, IsOnlyOn, IsOpened, Made, Unmade, Opened, Unopened}
use Rattle.tenant_scheduler.specs.Watches.{opens}
use Rattle.tenant_scheduler.specs.OwnSteps.{IsOwnMade}

-- it is refused for want of memory, and no call was made
pub unmade_for_memory : {R K : Type 0} (number_of : K → ℕ) (name_of : K → List ℕ) (gives : ℕ → Step → Slip → Type 0) (tenant : NamedTenant) (step : Step) (answer : Answer R) (old new : Counts) → IsNoMore old new → Refuses Memory answer → IsMade number_of name_of gives tenant step answer old new
unmade_for_memory number_of name_of gives tenant step answer old new none is = Unmade Memory none (false, refl) is

-- what was made on the tenant of a request is so of the request that was kept
pub made_of : {R K : Type 0} (number_of : K → ℕ) (name_of : K → List ℕ) (gives : ℕ → Step → Slip → Type 0) (theirs tenant : NamedTenant) (step : Step) (told answer : Answer R) (old new : Counts) → theirs ≡ tenant → answer ≡ told → IsMade number_of name_of gives theirs step told old new → IsMade number_of name_of gives tenant step answer old new
made_of number_of name_of gives theirs tenant step told answer old new same is made =
    subst (λ a. IsMade number_of name_of gives tenant step a old new) (sym is) (subst (λ t. IsMade number_of name_of gives t step told old new) same made)

pub opened_of : {R K : Type 0} (number_of : K → ℕ) (name_of : K → List ℕ) (gives : ℕ → Step → Slip → Type 0) (theirs tenant : NamedTenant) (step : Step) (told answer : Answer R) (before after : List ServedWatch) (old new : Counts) → theirs ≡ tenant → answer ≡ told → IsOpened number_of name_of gives theirs step told before after old new → IsOpened number_of name_of gives tenant step answer before after old new
opened_of number_of name_of gives theirs tenant step told answer before after old new same is made =
    subst (λ a. IsOpened number_of name_of gives tenant step a before after old new) (sym is) (subst (λ t. IsOpened number_of name_of gives t step told before after old new) same made)

-- a watch was created so, or not: its call was made so
pub made_of_opened : {R K : Type 0} (number_of : K → ℕ) (name_of : K → List ℕ) (gives : ℕ → Step → Slip → Type 0) (tenant : NamedTenant) (step : Step) (answer : Answer R) (before after : List ServedWatch) (old new : Counts) → IsOpened number_of name_of gives tenant step answer before after old new → IsMade number_of name_of gives tenant step answer old new
made_of_opened number_of name_of gives tenant step answer before after old new (Opened slip counted given shows listed) = Made slip counted given shows
made_of_opened number_of name_of gives tenant step answer before after old new (Unopened r none why told stays) = Unmade r none why told

-- no watch was created for want of memory, and no call was made
pub unopened_for_memory : {R K : Type 0} (number_of : K → ℕ) (name_of : K → List ℕ) (gives : ℕ → Step → Slip → Type 0) (tenant : NamedTenant) (step : Step) (answer : Answer R) (before after : List ServedWatch) (old new : Counts) → IsNoMore old new → Refuses Memory answer → after ≡ before → IsOpened number_of name_of gives tenant step answer before after old new
unopened_for_memory number_of name_of gives tenant step answer before after old new none is stays = Unopened Memory none (false, refl) is stays

-- what looks at one key at most opens nothing
pub brief_opens_none : (s : Step) → is_brief s ≡ true → opens s ≡ false
brief_opens_none (step.Watch x) brief = sym brief
brief_opens_none (step.Range x) brief = refl
brief_opens_none (step.Put x) brief = refl
brief_opens_none (step.Delete x) brief = refl
brief_opens_none (step.Txn x) brief = refl
brief_opens_none (step.Compact x) brief = refl
brief_opens_none (step.Take x) brief = refl
brief_opens_none (step.DropWatch x) brief = refl
brief_opens_none (step.Grant x) brief = refl
brief_opens_none (step.Revoke x) brief = refl
brief_opens_none (step.KeepAlive x) brief = refl
brief_opens_none (step.TimeToLive x y) brief = refl
brief_opens_none step.Leases brief = refl
brief_opens_none (step.Alarm x) brief = refl
brief_opens_none step.Status brief = refl
brief_opens_none step.Defragment brief = refl
brief_opens_none (step.Tick x) brief = refl
brief_opens_none (step.CatchUp x) brief = refl

-- a call by a key that was found
pub counted : {K : Type 0} (number_of : K → ℕ) (name_of : K → List ℕ) (tenant : NamedTenant) (found : K) (old new : Counts) → number_of found ≡ tenant.number → name_of found ≡ tenant.name.items → IsOneMore (name_of found) old new → IsCounted number_of name_of tenant old new
counted number_of name_of tenant found old new numbered named more = record { key = found; numbered = numbered; named = named; more = subst (λ name. IsOneMore name old new) named more }

-- before a compaction, takes were made
pub compacted : {R K : Type 0} (number_of : K → ℕ) (name_of : K → List ℕ) (gives : ℕ → Step → Slip → Type 0) (key : Option K) (tenant : NamedTenant) (s : Step) (revision : ℤ) (answer : Answer R) (old taken new : Counts) → s ≡ step.Compact revision → IsOnlyOn name_of key old taken → IsMade number_of name_of gives tenant s answer taken new → IsMadeAfterTakes number_of name_of gives key tenant s answer old new
compacted number_of name_of gives key tenant s revision answer old taken new is only made =
    subst (λ t. IsMadeAfterTakes number_of name_of gives key tenant t answer old new) (sym is) (taken, (only, subst (λ t. IsMade number_of name_of gives tenant t answer taken new) is made))

pub made_after_takes : {R K : Type 0} (number_of : K → ℕ) (name_of : K → List ℕ) (gives : ℕ → Step → Slip → Type 0) (key : Option K) (tenant : NamedTenant) (s : Step) (answer : Answer R) (old new : Counts) → IsMade number_of name_of gives tenant s answer old new → IsMadeAfterTakes number_of name_of gives key tenant s answer old new
made_after_takes number_of name_of gives key tenant (step.Range x) answer old new is = is
made_after_takes number_of name_of gives key tenant (step.Put x) answer old new is = is
made_after_takes number_of name_of gives key tenant (step.Delete x) answer old new is = is
made_after_takes number_of name_of gives key tenant (step.Txn x) answer old new is = is
made_after_takes number_of name_of gives key tenant (step.Compact x) answer old new is = (old, ((λ name other. refl), is))
made_after_takes number_of name_of gives key tenant (step.Watch x) answer old new is = is
made_after_takes number_of name_of gives key tenant (step.Take x) answer old new is = is
made_after_takes number_of name_of gives key tenant (step.DropWatch x) answer old new is = is
made_after_takes number_of name_of gives key tenant (step.Grant x) answer old new is = is
made_after_takes number_of name_of gives key tenant (step.Revoke x) answer old new is = is
made_after_takes number_of name_of gives key tenant (step.KeepAlive x) answer old new is = is
made_after_takes number_of name_of gives key tenant (step.TimeToLive x y) answer old new is = is
made_after_takes number_of name_of gives key tenant step.Leases answer old new is = is
made_after_takes number_of name_of gives key tenant (step.Alarm x) answer old new is = is
made_after_takes number_of name_of gives key tenant step.Status answer old new is = is
made_after_takes number_of name_of gives key tenant step.Defragment answer old new is = is
made_after_takes number_of name_of gives key tenant (step.Tick x) answer old new is = is
made_after_takes number_of name_of gives key tenant (step.CatchUp x) answer old new is = is

-- ---- by one key alone

pub only_none : {K : Type 0} (name_of : K → List ℕ) (key : Option K) (old new : Counts) → IsNoMore old new → IsOnlyOn name_of key old new
only_none name_of key old new none = λ name other. none name

pub only_then : {K : Type 0} (name_of : K → List ℕ) (first key : Option K) (old mid new : Counts) → first ≡ key → IsOnlyOn name_of key old mid → IsOnlyOn name_of first mid new → IsOnlyOn name_of key old new
only_then name_of first key old mid new same one more = λ name other. (subst (λ k. IsOnlyOn name_of k mid new) same more name other) ∙ (one name other)

-- one call was made by the key
pub only_own : {K : Type 0} (number_of : K → ℕ) (name_of : K → List ℕ) (gives : ℕ → Step → Slip → Type 0) (key : Option K) (number : ℕ) (step : Step) (old new : Counts) → IsOwnMade number_of name_of gives key number step old new → IsOnlyOn name_of key old new
only_own number_of name_of gives key number step old new made = λ name other. made.more.others name (other made.by made.has)
