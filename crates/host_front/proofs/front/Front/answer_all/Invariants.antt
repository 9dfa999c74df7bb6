use Rattle.std.proofs.Common.{◌≡◌, ◌≤◌, length, take, vec_capacity, vec_len}
use Rattle.host_front.specs.Events.{turns_of}
use Rattle.host_front.specs.Isolation.{AreAnswered}
use Rattle.host_front.proofs.front.Front.answer_all.Given as goal

-- the events so far are answered in turn
abbrev pub invariant-loop-event : goal.invariant-loop-event
invariant-loop-event l = record {
  answered : AreAnswered l.fn.self.host (turns_of (take l.event-index l.events) l.answers.items) l.self.host;
  count : vec_len l.answers ≡ l.event-index;
  room : length l.events ≤ vec_capacity l.answers;
}
