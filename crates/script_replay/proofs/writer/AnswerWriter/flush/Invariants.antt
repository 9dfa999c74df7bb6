use Rattle.std.proofs.Common.{◌≡◌}
use Rattle.std.specs.Io.KnownBytes.{Keeps}
use Rattle.script_replay.proofs.writer.AnswerWriter.flush.Given as goal

abbrev pub invariant-loop : goal.invariant-loop
invariant-loop g l = record {
  written : Keeps (g.W.Write.contents l.fn.self.stream) (g.W.Write.contents l.self.stream);
  unmarked : l.self.failed ≡ l.fn.self.failed;
}
