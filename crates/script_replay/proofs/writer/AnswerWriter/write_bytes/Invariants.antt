use Rattle.std.proofs.Common.{◌≡◌}
use Rattle.script_replay.specs.Fronts.{LeavesRest}
use Rattle.script_replay.proofs.writer.AnswerWriter.write_bytes.Given as goal

abbrev pub invariant-loop : goal.invariant-loop
invariant-loop g l = record {
  leaves : LeavesRest (g.W.Write.contents l.fn.self.stream) (g.W.Write.contents l.self.stream) l.fn.bytes l.rest;
  unmarked : l.self.failed ≡ l.fn.self.failed;
}
