-- One event, answered in bytes.
use Rattle.std.specs.Prelude.{◌≡◌, ℕ, Bool, true, false, List, Option, Some, None}
use Rattle.etcd_types.specs.declared.call.Call.{Call}
use Rattle.etcd_types.specs.declared.refusal.Refusal.{Refusal}
use Rattle.etcd_types.specs.declared.refusal.Refusal.TheVariants.{NoPath, NoTenant}
use Rattle.etcd_types.specs.declared.reply.Reply.{Reply}
use Rattle.etcd_types.specs.declared.reply.Reply.TheVariants.{Quiet, Refused}
use Rattle.etcd_types.specs.declared.step.Step.TheVariants.{DropWatch, Tick, CatchUp}
use Rattle.etcd_model.specs.declared.state.History.{History}
use Rattle.etcd_model.specs.declared.state.State.{State}
use Rattle.etcd_model.specs.Calls.{Target, target_of, call_of}
use Rattle.etcd_model.specs.ReplyText.{Answer, memory_answer, text}
use Rattle.etcd_model.specs.Alone.{Event, Called, Stepped, is_of, is_unanswered, read_event, answer_to}
use Rattle.etcd_model.specs.Alone.{after_read}
use Rattle.steps_core.specs.Hosts.{HostState, HoldsAt, SameTenants, machine_at, has_tenant}

-- ---- nobody's events

-- the tenant that a target names is there
abbrev pub is_target_there : HostState → Option Target → Bool
is_target_there h None = false
is_target_there h (Some target) = has_tenant h target.tenant

-- the tenant that an event names is there
abbrev pub is_there : HostState → Event → Bool
is_there h (Called method target body) = is_target_there h (target_of target)
is_there h (Stepped tenant step) = has_tenant h tenant

-- why a call of a tenant that is not there is refused
abbrev pub refused_call : Option Call → Refusal
refused_call None = NoPath
refused_call (Some c) = NoTenant

abbrev pub refused_target : Option Target → Refusal
refused_target None = NoPath
refused_target (Some target) = refused_call (call_of target.path)

-- what an event is told if the tenant that it names is not there
abbrev pub nobody : Event → Refusal
nobody (Called method target body) = refused_target (target_of target)
nobody (Stepped tenant step) = NoTenant

-- ---- answers that need no memory

-- a tick, a catch-up or a dropped watch
abbrev pub takes_none : Event → Bool
takes_none (Called method target body) = false
takes_none (Stepped tenant (DropWatch slot)) = true
takes_none (Stepped tenant (Tick moment)) = true
takes_none (Stepped tenant (CatchUp budget)) = true
takes_none (Stepped tenant step) = false

-- what these are replied has a text that is always the same
abbrev pub has_fixed_text : Reply → Bool
has_fixed_text Quiet = true
has_fixed_text reply = false

-- ---- answers

-- a refusal's text, or want of memory for it
pub record Refuses (r : Refusal) (a : Answer) : Type 0 where
  pub told : is_unanswered a ≡ false → a ≡ text (Refused r)
  pub memory : is_unanswered a ≡ true → a ≡ memory_answer

-- A tenant that is there is answered as the machine answers it, and its next state is held; for nobody's
-- event that is told. For want of memory nothing changed, and never anything of another tenant.
pub record Answers (old : HostState) (e : Event) (a : Answer) (new : HostState) : Type 0 where
  pub own : (t : List ℕ) (S : State History) → is_of t e ≡ true → is_unanswered a ≡ false → HoldsAt old t S
      → (a ≡ answer_to S (read_event e)) × HoldsAt new t (after_read S (read_event e))
  pub none : is_there old e ≡ false
      → (new ≡ old) × (is_unanswered a ≡ false → a ≡ text (Refused (nobody e)))
  pub memory : is_unanswered a ≡ true → (new ≡ old) × (a ≡ memory_answer)
  pub sure : (t : List ℕ) (S : State History) → is_of t e ≡ true → takes_none e ≡ true → HoldsAt old t S
      → is_unanswered a ≡ false
  pub others : (t : List ℕ) → is_of t e ≡ false → machine_at new t ≡ machine_at old t
  pub same : SameTenants old new
