use Rattle.std.proofs.Common.{◌∙◌, refl, ap, decimal}
use Rattle.std.proofs.lemmas.Result.{on_err_weaker}
use Rattle.cell_arena.proofs.Fronts.{held_err}
use Rattle.etcd_model.specs.ReplyText.{Answer}
use Rattle.script_replay.specs.Answers.{word_of}
use Rattle.script_replay.proofs.AnswerLemmas.{no_cut, word_cut, end_cut, status_cut, told_cut}
use Rattle.script_replay.proofs.answer.write_answer.Goals as goal

pub returns-in_err-write_bytes-in-No-clause-cut : goal.returns-in_err-write_bytes-in-No-clause-cut
returns-in_err-write_bytes-in-No-clause-cut g c =
    held_err _ _ (no_cut c.args.answer.now c.in-No.fault (word_of c.in-No.fault) c.in-No.is refl _ _ c.in_err-write_bytes-in-No.ensures.cut)

pub returns-in_err-write_bytes-in-No-2-clause-cut : goal.returns-in_err-write_bytes-in-No-2-clause-cut
returns-in_err-write_bytes-in-No-2-clause-cut g c =
    held_err _ _
    (word_cut c.args.answer.now c.in-No.fault c.as_bytes.result.now c.in-No.is (c.as_bytes.ensures.value ∙ c.word.ensures) _ _ _
    c.in_ok-write_bytes-in-No.ensures.whole c.in_err-write_bytes-in-No-2.ensures.cut)

pub returns-in_err-write_bytes-in-Event-clause-cut : goal.returns-in_err-write_bytes-in-Event-clause-cut
returns-in_err-write_bytes-in-Event-clause-cut g c =
    let text = c.as_bytes-in-Event.ensures.value ∙ c.format.ensures.text ∙ ap decimal (ap (λ (a : Answer). a.status) c.answer.view_is) in
    held_err _ _ (status_cut c.args.answer.now c.in-Event.answer _ c.in-Event.is text _ _ c.in_err-write_bytes-in-Event.ensures.cut)

pub returns-in_ok-write_bytes-in-No-2-clause-cut : goal.returns-in_ok-write_bytes-in-No-2-clause-cut
returns-in_ok-write_bytes-in-No-2-clause-cut g c =
    on_err_weaker _
    (end_cut c.args.answer.now c.in-No.fault c.as_bytes.result.now c.in-No.is (c.as_bytes.ensures.value ∙ c.word.ensures) _ _ _ _
    c.in_ok-write_bytes-in-No.ensures.whole c.in_ok-write_bytes-in-No-2.ensures.whole)
    c.write_bytes-in-No-3.ensures.cut

pub returns-in_ok-write_bytes-in-Event-clause-cut : goal.returns-in_ok-write_bytes-in-Event-clause-cut
returns-in_ok-write_bytes-in-Event-clause-cut g c =
    let text = c.as_bytes-in-Event.ensures.value ∙ c.format.ensures.text ∙ ap decimal (ap (λ (a : Answer). a.status) c.answer.view_is) in
    on_err_weaker _
    (told_cut c.args.answer.now c.in-Event.answer _ c.in-Event.is text _ _ _ c.bytes.result.now
    (c.bytes.ensures ∙ ap (λ (a : Answer). a.body) c.answer.view_is) c.in_ok-write_bytes-in-Event.ensures.whole)
    c.write_body.ensures.cut
