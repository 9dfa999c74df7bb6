-- Each tenant is answered in bytes as if it had the host to itself.
use Rattle.std.specs.Prelude.{◌≡◌, ℕ, true, false, List, [], ◌∷◌}
use Rattle.std.specs.List.{AllByRecursion}
use Rattle.etcd_types.specs.declared.reply.Reply.TheVariants.{Refused}
use Rattle.etcd_model.specs.declared.state.History.{History}
use Rattle.etcd_model.specs.declared.state.State.{State}
use Rattle.etcd_model.specs.ReplyText.{memory_answer, text}
use Rattle.etcd_model.specs.Alone.{Turn, is_of, is_catch_up, is_unanswered, own, asked, told, alone}
use Rattle.etcd_model.specs.Alone.{alone_after, read_event, answer_to}
use Rattle.steps_core.specs.Hosts.{HostState, HoldsAt, SameTenants, machine_at}
use Rattle.host_front.specs.Answering.{Answers, is_there, nobody, takes_none}

-- events that are answered in turn, each by the host that the one before it left
abbrev pub AreAnswered : HostState → List Turn → HostState → Type 0
AreAnswered old [] new = new ≡ old
AreAnswered old (x ∷ xs) new =
    (mid : HostState) × Answers old x.event x.answer mid × AreAnswered mid xs new

-- what a tenant is told of its own events is what it is told alone, and it holds the state after them
pub record IsAlone (t : List ℕ) (S : State History) (xs : List Turn) (new : HostState) : Type 0 where
  pub answers : told (own t xs) ≡ alone S (asked (own t xs))
  pub holds : HoldsAt new t (alone_after S (asked (own t xs)))
  -- a catch-up is answered as the machine answers it, whatever the state
  pub catch_ups : AllByRecursion (λ x. is_of t x.event ≡ true → is_catch_up x.event ≡ true
      → (T : State History) → x.answer ≡ answer_to T (read_event x.event)) xs
  -- ticks, catch-ups and dropped watches always find their memory
  pub sure : AllByRecursion
      (λ x. is_of t x.event ≡ true → takes_none x.event ≡ true → is_unanswered x.answer ≡ false) xs

-- That is so of each tenant that is there, and of no other anything is told or changed.
pub record AllAlone (old : HostState) (xs : List Turn) (new : HostState) : Type 0 where
  pub alone : (t : List ℕ) (S : State History) → HoldsAt old t S → IsAlone t S xs new
  pub nobody : AllByRecursion (λ x. is_there old x.event ≡ false → is_unanswered x.answer ≡ false
      → x.answer ≡ text (Refused (nobody x.event))) xs
  pub memory : AllByRecursion (λ x. is_unanswered x.answer ≡ true → x.answer ≡ memory_answer) xs
  -- a tenant of whom there is no event has the machine that it had
  pub others : (t : List ℕ) → AllByRecursion (λ x. is_of t x.event ≡ false) xs
      → machine_at new t ≡ machine_at old t
  pub same : SameTenants old new

-- two hosts that hold one state for a tenant, and are asked for the same of its own, tell it the same
abbrev pub TwoWorlds : Type 0
TwoWorlds =
    (t : List ℕ) (S : State History) (here there left gone : HostState) (xs ys : List Turn)
    → HoldsAt here t S → HoldsAt there t S → AllAlone here xs left → AllAlone there ys gone
    → asked (own t xs) ≡ asked (own t ys) → told (own t xs) ≡ told (own t ys)
