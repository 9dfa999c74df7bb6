use Rattle.std.proofs.Common.{◌≡◌, ◌≤◌, length, take, vec_capacity, vec_len}
use Rattle.steps_core.specs.Isolation.{step_turns, IsIsolated}
use Rattle.steps_core.proofs.host.Host.run.Given as goal

-- each tenant has been answered so far as if it was alone
abbrev pub invariant-loop-call : goal.invariant-loop-call
invariant-loop-call l = record {
  told : IsIsolated l.fn.self (step_turns (take l.call-index l.calls) l.replies.items) l.self;
  count : vec_len l.replies ≡ l.call-index;
  room : length l.calls ≤ vec_capacity l.replies;
}
