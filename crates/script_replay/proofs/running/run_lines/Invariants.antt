use Rattle.std.proofs.Common.{◌≡◌, ◌+◌, ◌≤◌, min, IfSome, None}
use Rattle.script_replay.specs.Going.{Going}
use Rattle.script_replay.specs.Replaying.{host_in}
use Rattle.script_replay.proofs.running.run_lines.Given as goal

abbrev pub invariant-loop-n : goal.invariant-loop-n
invariant-loop-n g l = record {
  going : IfSome (g.R.Read.remaining l.fn.reader.stream)
      (λ script. Going script (g.R.Read.remaining l.reader.stream) (g.W.Write.contents l.fn.writer.stream)
      (g.W.Write.contents l.writer.stream) (host_in l.replay.front) l.n);
  first : l.n ≡ 0 → l.replay.front ≡ None;
  reader : l.reader.failed ≡ l.fn.reader.failed;
  count : min (l.fn.reader.lines + l.n) 4294967295 ≤ l.reader.lines;
  writer : l.writer.failed ≡ l.fn.writer.failed;
}
