use Rattle.std.proofs.Common.{◌∙◌, ap, arith, Ok}
use Rattle.std.proofs.KnownBytes.{Keeps-trans}
use Rattle.script_replay.proofs.LineLemmas.{front_more, line_whole, rest_whole, too_long}
use Rattle.script_replay.proofs.lines.ScriptReader.take_line.Goals as goal

pub returns-then-len-gt-MAX_SCRIPT_LINE-clause-long : goal.returns-then-len-gt-MAX_SCRIPT_LINE-clause-long
returns-then-len-gt-MAX_SCRIPT_LINE-clause-long g c = λ _.
    too_long _ _ c.loop.line.items _ c.loop.invariant.front (omega (arith, c.if-len-gt-MAX_SCRIPT_LINE.true, c.len.ensures))

pub loop-preserved : goal.loop-preserved
loop-preserved g c =
    let some = c.in_ok-take_some.ensures in record {
      front = front_more _ _ _ _ _ c.loop.invariant.front some.appends (some.plain (ap Ok c.if-branch.false)) some.bytes;
      kept = Keeps-trans _ _ _ c.loop.invariant.kept some.written;
      held = omega (arith, some.most, c.len.ensures, c.if-len-gt-MAX_SCRIPT_LINE.false);
      unmarked = some.unmarked ∙ c.loop.invariant.unmarked;
      count = some.count ∙ c.loop.invariant.count;
      answers_unmarked = some.answers_unmarked ∙ c.loop.invariant.answers_unmarked;
    }

pub returns-then-branch-clause-line : goal.returns-then-branch-clause-line
returns-then-branch-clause-line g c =
    let some = c.in_ok-take_some.ensures in
    let whole = ap Ok c.if-branch.true in
    λ _. line_whole _ _ _ _ _ c.loop.invariant.front some.appends some.stops (some.whole whole) some.bytes (some.end whole)

pub returns-then-branch-clause-rest : goal.returns-then-branch-clause-rest
returns-then-branch-clause-rest g c =
    let some = c.in_ok-take_some.ensures in
    let whole = ap Ok c.if-branch.true in
    λ _. rest_whole _ _ _ _ _ c.loop.invariant.front some.appends some.stops (some.whole whole) some.bytes (some.end whole)
