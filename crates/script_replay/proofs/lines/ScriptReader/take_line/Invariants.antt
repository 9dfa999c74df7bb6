use Rattle.std.specs.Io.KnownBytes.{Keeps}
use Rattle.std.proofs.Common.{◌≡◌, ◌+◌, ◌≤◌, length}
use Rattle.etcd_types.specs.Limits.{max_script_line}
use Rattle.script_replay.proofs.LineLemmas.{IsFront}
use Rattle.script_replay.proofs.lines.ScriptReader.take_line.Given as goal

abbrev pub invariant-loop : goal.invariant-loop
invariant-loop g l = record {
  front : IsFront (g.R.Read.remaining l.fn.self.stream) (g.R.Read.remaining l.self.stream) l.line.items;
  kept : Keeps (g.W.Write.contents l.fn.writer.stream) (g.W.Write.contents l.writer.stream);
  held : length l.line.items ≤ max_script_line + 1;
  unmarked : l.self.failed ≡ l.fn.self.failed;
  count : l.self.lines ≡ l.fn.self.lines;
  answers_unmarked : l.writer.failed ≡ l.fn.writer.failed;
}
