use Rattle.gateway_json.proofs.StepLemmas.{goes_on, call_refused, call_taken}
use Rattle.gateway_json.proofs.call.read_call.Goals as goal

pub returns-in_err-known_call-clause-step : goal.returns-in_err-known_call-clause-step
returns-in_err-known_call-clause-step c =
    (call_refused c.args.path.now c.args.body.now c.known_call.result c.known_call.ensures c.in_err-known_call.field-0.0 c.from_residual.result c.in_err-known_call.was (goes_on c.from_residual.result c.in_err-known_call.field-0.0 c.from_residual.ensures.1)).step

pub returns-in_err-known_call-clause-exact : goal.returns-in_err-known_call-clause-exact
returns-in_err-known_call-clause-exact c =
    (call_refused c.args.path.now c.args.body.now c.known_call.result c.known_call.ensures c.in_err-known_call.field-0.0 c.from_residual.result c.in_err-known_call.was (goes_on c.from_residual.result c.in_err-known_call.field-0.0 c.from_residual.ensures.1)).exact

pub returns-in_err-known_call-clause-unread : goal.returns-in_err-known_call-clause-unread
returns-in_err-known_call-clause-unread c =
    (call_refused c.args.path.now c.args.body.now c.known_call.result c.known_call.ensures c.in_err-known_call.field-0.0 c.from_residual.result c.in_err-known_call.was (goes_on c.from_residual.result c.in_err-known_call.field-0.0 c.from_residual.ensures.1)).unread

pub returns-clause-step : goal.returns-clause-step
returns-clause-step c =
    (call_taken c.args.path.now c.args.body.now c.known_call.result c.known_call.ensures c.in_ok-known_call.field-0 c.read_step.result c.in_ok-known_call.was
    (record { step = c.read_step.ensures.step; exact = c.read_step.ensures.exact; unread = c.read_step.ensures.unread })).step

pub returns-clause-exact : goal.returns-clause-exact
returns-clause-exact c =
    (call_taken c.args.path.now c.args.body.now c.known_call.result c.known_call.ensures c.in_ok-known_call.field-0 c.read_step.result c.in_ok-known_call.was
    (record { step = c.read_step.ensures.step; exact = c.read_step.ensures.exact; unread = c.read_step.ensures.unread })).exact

pub returns-clause-unread : goal.returns-clause-unread
returns-clause-unread c =
    (call_taken c.args.path.now c.args.body.now c.known_call.result c.known_call.ensures c.in_ok-known_call.field-0 c.read_step.result c.in_ok-known_call.was
    (record { step = c.read_step.ensures.step; exact = c.read_step.ensures.exact; unread = c.read_step.ensures.unread })).unread
