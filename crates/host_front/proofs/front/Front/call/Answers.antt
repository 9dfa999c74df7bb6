use Rattle.std.proofs.Common.{◌∙◌, sym}
use Rattle.gateway_json.specs.Paths.{target_view}
use Rattle.host_front.proofs.Answered.{call_stepped, call_refused}
use Rattle.host_front.proofs.front.Front.call.Goals as goal

pub returns-in-Ok : goal.returns-in-Ok
returns-in-Ok c =
    let there = sym c.has.ensures ∙ c.if-not-has.false in
    call_stepped _ _ _ _ (target_view c.in-Some.found) (sym c.in-Some.ensures) there _ _ _
    c.in-Ok.ensures.step c.step.ensures

pub returns-in-Err : goal.returns-in-Err
returns-in-Err c =
    let there = sym c.has.ensures ∙ c.if-not-has.false in
    call_refused _ _ _ _ (target_view c.in-Some.found) (sym c.in-Some.ensures) there _ _
    c.refused-in-Err.ensures c.in-Err.ensures.step
