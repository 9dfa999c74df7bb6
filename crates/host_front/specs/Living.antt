-- Each tenant is answered in bytes as if it had the host to itself, while tenants come, take other quotas and go.
use Rattle.std.specs.Prelude.{◌≡◌, ℕ, Bool, true, false, not, ◌&&◌, ◌||◌, List, [], ◌∷◌, ◌++◌, map}
use Rattle.std.specs.Prelude.{if◌then◌else◌}
use Rattle.std.specs.List.{AllByRecursion}
use Rattle.std.specs.Str.{bytes_eq}
use Rattle.etcd_types.specs.declared.reply.Reply.TheVariants.{Refused}
use Rattle.etcd_model.specs.declared.state.History.{History}
use Rattle.etcd_model.specs.declared.state.State.{State}
use Rattle.etcd_model.specs.ReplyText.{memory_answer, text}
use Rattle.etcd_model.specs.Machine.{opening}
use Rattle.etcd_model.specs.Alone.{Turn, is_of, is_catch_up, is_unanswered, own, told, read_event, answer_to}
use Rattle.steps_core.specs.Hosts.{HostState, HoldsAt, machine_at, has_tenant}
use Rattle.host_front.specs.declared.line.LineAnswer.{LineAnswer}
use Rattle.host_front.specs.declared.line.LineAnswer.TheVariants as answered
use Rattle.host_front.specs.Answering.{nobody, takes_none}
use Rattle.host_front.specs.Isolation.{AllAlone}
use Rattle.host_front.specs.Lines.{Line, Happens, Add, Resize, Remove, LineTurn, turns, event_line}
use Rattle.host_front.specs.Operating.{Lives}
use Rattle.host_front.specs.Quotas.{own_asked, quota_alone, quota_alone_after}

-- lines that are answered in turn, each by the host that the one before it left
abbrev pub AreLived : HostState → List LineTurn → HostState → Type 0
AreLived old [] new = new ≡ old
AreLived old (x ∷ xs) new = (mid : HostState) × Lives old x.line x.answer mid × AreLived mid xs new

-- ---- stretches

-- the line took the tenant away
abbrev pub is_end : List ℕ → Line → LineAnswer → Bool
is_end t (Remove name) answered.Done = bytes_eq t name
is_end t line answer = false

-- the lines before the first that took the tenant away
abbrev pub stretch : List ℕ → List LineTurn → List LineTurn
stretch t [] = []
stretch t (x ∷ xs) = if is_end t x.line x.answer then [] else x ∷ stretch t xs

-- one of the lines took it away
abbrev pub is_ended : List ℕ → List LineTurn → Bool
is_ended t [] = false
is_ended t (x ∷ xs) = is_end t x.line x.answer || is_ended t xs

-- the line made the tenant, and this is its opening
abbrev pub IsAddOf : List ℕ → State History → Line → LineAnswer → Type 0
IsAddOf t S (Add name cluster quota first) answered.Done = (t ≡ name) × (S ≡ opening cluster quota first)
IsAddOf t S line answer = ⊥

-- the last of a line and those behind it made the tenant
abbrev pub IsLastAddOf : List ℕ → State History → LineTurn → List LineTurn → Type 0
IsLastAddOf t S x [] = IsAddOf t S x.line x.answer
IsLastAddOf t S x (y ∷ ys) = IsLastAddOf t S y ys

-- the tenant's stretch begins behind these lines: at the start, if the host holds its state, or else at its
-- opening
abbrev pub BeginsBehind : HostState → List ℕ → State History → List LineTurn → Type 0
BeginsBehind old t S [] = HoldsAt old t S
BeginsBehind old t S (x ∷ xs) = IsLastAddOf t S x xs

-- of all lines these last ones begin a stretch of the tenant, which has the state before them
pub record Begins (old : HostState) (xs : List LineTurn) (t : List ℕ) (S : State History)
    (later : List LineTurn) : Type 0 where
  pub before : List LineTurn
  pub lines : xs ≡ before ++ later
  pub begins : BeginsBehind old t S before

-- ---- alone

-- Up to the line that takes it away, what a tenant is told of its own events is what it is told alone, with
-- the quotas that it takes among them; if no line takes it away, it holds the state after them.
pub record IsAloneIn (t : List ℕ) (S : State History) (xs : List LineTurn) (new : HostState) : Type 0 where
  pub answers : told (own t (turns (stretch t xs))) ≡ quota_alone S (own_asked t (stretch t xs))
  pub holds : is_ended t xs ≡ false → HoldsAt new t (quota_alone_after S (own_asked t (stretch t xs)))
  -- a catch-up is answered as the machine answers it, whatever the state
  pub catch_ups : AllByRecursion (λ x. is_of t x.event ≡ true → is_catch_up x.event ≡ true
      → (T : State History) → x.answer ≡ answer_to T (read_event x.event)) (turns (stretch t xs))
  -- ticks, catch-ups and dropped watches always find their memory
  pub sure : AllByRecursion
      (λ x. is_of t x.event ≡ true → takes_none x.event ≡ true → is_unanswered x.answer ≡ false)
      (turns (stretch t xs))

-- ---- who is there

-- whether a tenant is there after a line, by whether it was before
abbrev pub is_left : List ℕ → Bool → Line → LineAnswer → Bool
is_left t there (Add name cluster quota first) answered.Done = bytes_eq t name || there
is_left t there (Remove name) answered.Done = not (bytes_eq t name) && there
is_left t there line answer = there

-- and after many
abbrev pub is_left_by : List ℕ → Bool → List LineTurn → Bool
is_left_by t there [] = there
is_left_by t there (x ∷ xs) = is_left_by t (is_left t there x.line x.answer) xs

-- while the tenant is not there, its events are told so
abbrev pub IsNobody : List ℕ → Bool → List LineTurn → Type 0
IsNobody t there [] = Unit {0}
IsNobody t there (x ∷ xs) =
    (there ≡ false → AllByRecursion (λ e. is_of t e.event ≡ true → is_unanswered e.answer ≡ false
    → e.answer ≡ text (Refused (nobody e.event))) (turns (x ∷ [])))
    × IsNobody t (is_left t there x.line x.answer) xs

-- the line is about the tenant
abbrev pub is_about : List ℕ → Line → Bool
is_about t (Happens e) = is_of t e
is_about t (Add name cluster quota first) = bytes_eq t name
is_about t (Resize name quota) = bytes_eq t name
is_about t (Remove name) = bytes_eq t name

-- ---- many lines

-- Each line is told what the host before it says. From the line that makes a tenant on, or from the start if it
-- is there, it is alone until a line takes it away; while it is not there, that is all that its events are told.
pub record AllLived (old : HostState) (xs : List LineTurn) (new : HostState) : Type 0 where
  pub lived : AreLived old xs new
  pub alone : (t : List ℕ) (S : State History) (later : List LineTurn) → Begins old xs t S later
      → IsAloneIn t S later new
  pub absent : (t : List ℕ) → IsNobody t (has_tenant old t) xs
  -- an event that no tenant's name can be read of
  pub nameless : AllByRecursion (λ x. ((t : List ℕ) → is_of t x.event ≡ false) → is_unanswered x.answer ≡ false
      → x.answer ≡ text (Refused (nobody x.event))) (turns xs)
  pub memory : AllByRecursion (λ x. is_unanswered x.answer ≡ true → x.answer ≡ memory_answer) (turns xs)
  -- the tenants are those that were there or made, and not taken away since
  pub there : (t : List ℕ) → has_tenant new t ≡ is_left_by t (has_tenant old t) xs
  -- a tenant whom no line is about has the machine that it had
  pub others : (t : List ℕ) → AllByRecursion (λ x. is_about t x.line ≡ false) xs
      → machine_at new t ≡ machine_at old t
  pub segments : new.segments ≡ old.segments

-- ---- laws

-- lines that are all events are answered as events are
abbrev pub EventsAlone : Type 0
EventsAlone =
    (old new : HostState) (xs : List Turn) → AllLived old (map event_line xs) new → AllAlone old xs new

-- two hosts with their lines, and in each a stretch of a tenant that begins in the same state: if the tenant's
-- own lists are the same, it is told the same
abbrev pub TwoLivedWorlds : Type 0
TwoLivedWorlds =
    (t : List ℕ) (S : State History) (here there left gone : HostState) (xs ys later last : List LineTurn)
    → AllLived here xs left → AllLived there ys gone → Begins here xs t S later → Begins there ys t S last
    → own_asked t (stretch t later) ≡ own_asked t (stretch t last)
    → told (own t (turns (stretch t later))) ≡ told (own t (turns (stretch t last)))
