use Rattle.std.proofs.Common.{◌≡◌, ap, sym, subst, refl, ◌∙◌, Ok, IfSome, arith, length, vec_len}
use Rattle.std.specs.Io.BufRead.{strip_last}
use Rattle.steps_core.specs.Hosts.{HostState}
use Rattle.script_replay.specs.Replaying.{host_in}
use Rattle.script_replay.proofs.ReadLemmas.{line_in_place}
use Rattle.script_replay.specs.Going.{Going}
use Rattle.script_replay.specs.Script.{asked_by, read_line}
use Rattle.script_replay.proofs.GoingLemmas.{going_first, going_more, going_ends, going_stops, going_among}
use Rattle.script_replay.proofs.GoingLemmas.{going_cut, going_whole, going_long, going_fault, going_kept, line_taken, empty_is, full_is}
use Rattle.std.specs.Prelude.{◌==◌}
use borrow.Author.Tests.{eqb-true}
use Rattle.script_replay.proofs.running.run_lines.Goals as goal

pub loop-n-init : goal.loop-n-init
loop-n-init g c =
    let left = g.R.Read.remaining c.args.reader.now.stream in
    let told = g.W.Write.contents c.args.writer.now.stream in
    record {
      going =
          subst (λ (h : HostState). IfSome left (λ script. Going script left told told h 0))
          (sym (ap host_in c.requires)) (going_first left told);
      first = λ _. c.requires;
      reader = refl;
      count = omega arith;
      writer = refl;
    }

pub returns-in_err-take_line-clause-answers : goal.returns-in_err-take_line-clause-answers
returns-in_err-take_line-clause-answers g c =
    let going = going_kept _ _ _ _ _ _ _ c.loop-n.invariant.going c.in_err-take_line.ensures.written in
    going_fault c.from_residual.result _ _ _ _ _ _ _ c.from_residual.ensures c.in_err-take_line.ensures.fault going

pub returns-in-TooLong-clause-answers : goal.returns-in-TooLong-clause-answers
returns-in-TooLong-clause-answers g c =
    let going = going_kept _ _ _ _ _ _ _ c.loop-n.invariant.going c.in_ok-take_line.ensures.written in
    going_long _ _ _ _ _ _ _ going (c.in_ok-take_line.ensures.long (ap Ok c.in-TooLong.is)) refl

pub returns-then-is_empty-clause-answers : goal.returns-then-is_empty-clause-answers
returns-then-is_empty-clause-answers g c =
    let going = going_kept _ _ _ _ _ _ _ c.loop-n.invariant.going c.in_ok-take_line.ensures.written in
    let line = ap Ok (line_taken c.in_ok-take_line.field-0 c.in_default.not-TooLong) in
    let len : vec_len c.take_line.new.line ≡ length c.take_line.new.line.items =
    omega (arith, c.take_line.new.line.ok.0) in
    let none = empty_is _ _ len (sym c.is_empty.ensures ∙ c.if-is_empty.true) in
    going_ends _ _ _ _ _ _ _ going (c.in_ok-take_line.ensures.line line) none

pub returns-in_default-read_line-clause-answers : goal.returns-in_default-read_line-clause-answers
returns-in_default-read_line-clause-answers g c =
    let going = going_kept _ _ _ _ _ _ _ c.loop-n.invariant.going c.in_ok-take_line.ensures.written in
    let line = ap Ok (line_taken c.in_ok-take_line.field-0 c.in_default.not-TooLong) in
    let len : vec_len c.take_line.new.line ≡ length c.take_line.new.line.items =
    omega (arith, c.take_line.new.line.ok.0) in
    let some = full_is _ _ len (sym c.is_empty.ensures ∙ c.if-is_empty.false) in
    let text = c.without_newline.ensures ∙ ap (strip_last 10) c.deref.ensures.value in
    let unread = ap (read_line (c.loop-n.n == 0)) (sym text) ∙ sym c.in_default-read_line.ensures in
    going_stops _ _ _ _ _ _ _ _ going (c.in_ok-take_line.ensures.line line) some unread refl

pub returns-in_default-answer-clause-answers : goal.returns-in_default-answer-clause-answers
returns-in_default-answer-clause-answers g c =
    let going = going_kept _ _ _ _ _ _ _ c.loop-n.invariant.going c.in_ok-take_line.ensures.written in
    going_among _ _ _ _ _ _ going

pub loop-n-preserved : goal.loop-n-preserved
loop-n-preserved g c =
    let going = going_kept _ _ _ _ _ _ _ c.loop-n.invariant.going c.in_ok-take_line.ensures.written in
    let line = ap Ok (line_taken c.in_ok-take_line.field-0 c.in_default.not-TooLong) in
    let len : vec_len c.take_line.new.line ≡ length c.take_line.new.line.items =
    omega (arith, c.take_line.new.line.ok.0) in
    let some = full_is _ _ len (sym c.is_empty.ensures ∙ c.if-is_empty.false) in
    let text = c.without_newline.ensures ∙ ap (strip_last 10) c.deref.ensures.value in
    let is = ap (read_line (c.loop-n.n == 0)) (sym text) ∙ sym c.in-Some.ensures in
    record {
      going =
          going_more _ _ _ _ _ _ _ _ _ _ (asked_by c.in-Some.asked) c.in-Ok.answer going
          (c.in_ok-take_line.ensures.line line) (c.in_ok-take_line.ensures.rest line) some is
          c.in-Ok.ensures.told c.in-Ok-write_answer.ensures.whole;
      first = λ zero. absurd (omega (arith, zero));
      reader = c.in_ok-take_line.ensures.unmarked ∙ c.loop-n.invariant.reader;
      count = omega (arith, c.loop-n.invariant.count, c.in_ok-take_line.ensures.count line);
      writer = c.in-Ok-write_answer.ensures.unmarked ∙ c.in_ok-take_line.ensures.answers_unmarked ∙ c.loop-n.invariant.writer;
    }

pub answer-requires : goal.answer-requires
answer-requires g c =
    let text = c.without_newline.ensures ∙ ap (strip_last 10) c.deref.ensures.value in
    let is = ap (read_line (c.loop-n.n == 0)) (sym text) ∙ sym c.in-Some.ensures in
    line_in_place _ (c.loop-n.n == 0) _ _ is (λ zero. c.loop-n.invariant.first (eqb-true _ 0 zero))

pub returns-in_default-write_answer-clause-answers : goal.returns-in_default-write_answer-clause-answers
returns-in_default-write_answer-clause-answers g c =
    let going = going_kept _ _ _ _ _ _ _ c.loop-n.invariant.going c.in_ok-take_line.ensures.written in
    let line = ap Ok (line_taken c.in_ok-take_line.field-0 c.in_default.not-TooLong) in
    let len : vec_len c.take_line.new.line ≡ length c.take_line.new.line.items =
    omega (arith, c.take_line.new.line.ok.0) in
    let some = full_is _ _ len (sym c.is_empty.ensures ∙ c.if-is_empty.false) in
    let text = c.without_newline.ensures ∙ ap (strip_last 10) c.deref.ensures.value in
    let is = ap (read_line (c.loop-n.n == 0)) (sym text) ∙ sym c.in-Some.ensures in
    going_cut _ _ _ _ _ _ _ _ _ _ (asked_by c.in-Some.asked) c.in-Ok.answer going
    (c.in_ok-take_line.ensures.line line) (c.in_ok-take_line.ensures.rest line) some is
    c.in-Ok.ensures.told c.in_default-write_answer.ensures.cut

pub returns-clause-answers : goal.returns-clause-answers
returns-clause-answers g c = going_whole _ _ _ _ _ _ c.loop-n.invariant.going
