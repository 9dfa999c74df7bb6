use Rattle.std.proofs.Common.{◌≡◌, ◌≤◌, length, take, vec_capacity, vec_len}
use Rattle.host_front.specs.Lines.{line_turns_of}
use Rattle.host_front.specs.Living.{AreLived}
use Rattle.host_front.proofs.front.Front.live_all.Given as goal

-- the lines so far are answered in turn
abbrev pub invariant-loop-line : goal.invariant-loop-line
invariant-loop-line l = record {
  lived : AreLived l.fn.self.host (line_turns_of (take l.line-index l.lines) l.answers.items) l.self.host;
  count : vec_len l.answers ≡ l.line-index;
  room : length l.lines ≤ vec_capacity l.answers;
}
