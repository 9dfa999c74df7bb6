use Rattle.std.proofs.Common.{rules, ◌≡◌, sym, refl, false}
use Rattle.std.specs.Io.BufRead.{ends_with_byte}
use Rattle.std.proofs.lemmas.Result.{on_err_weaker}
use Rattle.cell_arena.proofs.Fronts.{held_err}
use Rattle.script_replay.proofs.AnswerLemmas.{space_cut, body_cut, newline_cut}
use Rattle.script_replay.proofs.GoingLemmas.{full_is}
use Rattle.script_replay.proofs.answer.write_body.Goals as goal

pub returns-in_err-write_bytes-clause-cut : goal.returns-in_err-write_bytes-clause-cut
returns-in_err-write_bytes-clause-cut g c =
    let some = full_is _ c.args.body.now refl (sym c.if-is_empty.ensures) in
    held_err _ _ (space_cut _ _ c.args.body.now some c.in_err-write_bytes.ensures.cut)

pub returns-in_err-write_bytes-2-clause-cut : goal.returns-in_err-write_bytes-2-clause-cut
returns-in_err-write_bytes-2-clause-cut g c =
    let some = full_is _ c.args.body.now refl (sym c.if-is_empty.ensures) in
    held_err _ _ (body_cut _ _ _ c.args.body.now some c.in_ok-write_bytes.ensures.whole c.in_err-write_bytes-2.ensures.cut)

pub returns-in_default-clause-cut : goal.returns-in_default-clause-cut
returns-in_default-clause-cut g c =
    let some = full_is _ c.args.body.now refl (sym c.if-is_empty.ensures) in
    let unended : ends_with_byte 10 c.args.body.now ≡ false = search rules in
    on_err_weaker _
    (newline_cut _ _ _ _ c.args.body.now some unended c.in_ok-write_bytes.ensures.whole c.in_ok-write_bytes-2.ensures.whole)
    c.write_bytes-in_default.ensures.cut
