use Rattle.std.specs.Prelude.{Some, Err}
use Rattle.std.proofs.Common.{◌∙◌, ap, subst, []}
use Rattle.gateway_http.specs.Readings.{comes_of}
use Rattle.gateway_http.proofs.ReadingLemmas.{kept_frame, too_long, waited}
use Rattle.gateway_http.proofs.reading.Reading.poll_piece.Goals as goal

pub returns-in-Some-Ok-clause-read : goal.returns-in-Some-Ok-clause-read
returns-in-Some-Ok-clause-read g c = kept_frame c.args.self.now c.take_in.new.self c.poll_frame.new.self c.in-Ready.came c.in-Some-Ok.frame (c.in-Some-Ok.is ∙ ap (λ x. Some x) c.in-Some-Ok.field-0-is) c.in-Ready.ensures.rest c.take_in.ensures

pub returns-in_default-clause-read : goal.returns-in_default-clause-read
returns-in_default-clause-read g c = waited c.args.self.now c.poll_frame.new.self c.in_default.ensures.same

pub returns-in-Some-Err-LengthLimit-clause-read : goal.returns-in-Some-Err-LengthLimit-clause-read
returns-in-Some-Err-LengthLimit-clause-read g c = too_long c.args.self.now c.poll_frame.new.self
    (subst (λ o. comes_of c.args.self.now.body [] o) (c.in-Some-Err-LengthLimit.is ∙ ap (λ x. Some x) (c.in-Some-Err-LengthLimit.field-0-is ∙ ap (λ e. Err e) c.in-Some-Err-LengthLimit.field-0-0-is)) c.in-Ready.ensures.value)
