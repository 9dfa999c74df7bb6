use Rattle.gateway_json.proofs.StepLemmas.{goes_on, size_refused, size_taken, body_refused, members_refused, fields_checked}
use Rattle.gateway_json.proofs.call.read_step.Goals as goal

pub returns-in_err-check_size-clause-step : goal.returns-in_err-check_size-clause-step
returns-in_err-check_size-clause-step c =
    (size_refused c.args.call c.args.body.now c.check_size.result c.in_err-check_size.field-0.0 c.from_residual.result c.check_size.ensures c.in_err-check_size.was
    (goes_on c.from_residual.result c.in_err-check_size.field-0.0 c.from_residual.ensures.1)).step

pub returns-in_err-check_size-clause-exact : goal.returns-in_err-check_size-clause-exact
returns-in_err-check_size-clause-exact c =
    (size_refused c.args.call c.args.body.now c.check_size.result c.in_err-check_size.field-0.0 c.from_residual.result c.check_size.ensures c.in_err-check_size.was
    (goes_on c.from_residual.result c.in_err-check_size.field-0.0 c.from_residual.ensures.1)).exact

pub returns-in_err-check_size-clause-unread : goal.returns-in_err-check_size-clause-unread
returns-in_err-check_size-clause-unread c =
    (size_refused c.args.call c.args.body.now c.check_size.result c.in_err-check_size.field-0.0 c.from_residual.result c.check_size.ensures c.in_err-check_size.was
    (goes_on c.from_residual.result c.in_err-check_size.field-0.0 c.from_residual.ensures.1)).unread

pub returns-in_err-value-clause-step : goal.returns-in_err-value-clause-step
returns-in_err-value-clause-step c =
    (size_taken c.args.call c.args.body.now c.check_size.result c.in_ok-check_size.field-0 c.from_residual-in_err-value.result c.check_size.ensures c.in_ok-check_size.was (body_refused c.args.call c.args.body.now c.in_err-value.field-0.0 c.from_residual-in_err-value.result
    c.in_err-value.ensures.body c.in_err-value.ensures.exact (goes_on c.from_residual-in_err-value.result c.in_err-value.field-0.0 c.from_residual-in_err-value.ensures.1))).step

pub returns-in_err-value-clause-exact : goal.returns-in_err-value-clause-exact
returns-in_err-value-clause-exact c =
    (size_taken c.args.call c.args.body.now c.check_size.result c.in_ok-check_size.field-0 c.from_residual-in_err-value.result c.check_size.ensures c.in_ok-check_size.was (body_refused c.args.call c.args.body.now c.in_err-value.field-0.0 c.from_residual-in_err-value.result
    c.in_err-value.ensures.body c.in_err-value.ensures.exact (goes_on c.from_residual-in_err-value.result c.in_err-value.field-0.0 c.from_residual-in_err-value.ensures.1))).exact

pub returns-in_err-value-clause-unread : goal.returns-in_err-value-clause-unread
returns-in_err-value-clause-unread c =
    (size_taken c.args.call c.args.body.now c.check_size.result c.in_ok-check_size.field-0 c.from_residual-in_err-value.result c.check_size.ensures c.in_ok-check_size.was (body_refused c.args.call c.args.body.now c.in_err-value.field-0.0 c.from_residual-in_err-value.result
    c.in_err-value.ensures.body c.in_err-value.ensures.exact (goes_on c.from_residual-in_err-value.result c.in_err-value.field-0.0 c.from_residual-in_err-value.ensures.1))).unread

pub returns-in_err-read_members-clause-step : goal.returns-in_err-read_members-clause-step
returns-in_err-read_members-clause-step c =
    (size_taken c.args.call c.args.body.now c.check_size.result c.in_ok-check_size.field-0 c.from_residual-in_err-read_members.result c.check_size.ensures c.in_ok-check_size.was (members_refused c.args.call c.args.body.now c.in_ok-value.value c.in_err-read_members.field-0.0 c.from_residual-in_err-read_members.result
    c.in_ok-value.ensures.body c.in_err-read_members.ensures.answer c.in_err-read_members.ensures.exact (goes_on c.from_residual-in_err-read_members.result c.in_err-read_members.field-0.0 c.from_residual-in_err-read_members.ensures.1))).step

pub returns-in_err-read_members-clause-exact : goal.returns-in_err-read_members-clause-exact
returns-in_err-read_members-clause-exact c =
    (size_taken c.args.call c.args.body.now c.check_size.result c.in_ok-check_size.field-0 c.from_residual-in_err-read_members.result c.check_size.ensures c.in_ok-check_size.was (members_refused c.args.call c.args.body.now c.in_ok-value.value c.in_err-read_members.field-0.0 c.from_residual-in_err-read_members.result
    c.in_ok-value.ensures.body c.in_err-read_members.ensures.answer c.in_err-read_members.ensures.exact (goes_on c.from_residual-in_err-read_members.result c.in_err-read_members.field-0.0 c.from_residual-in_err-read_members.ensures.1))).exact

pub returns-in_err-read_members-clause-unread : goal.returns-in_err-read_members-clause-unread
returns-in_err-read_members-clause-unread c =
    (size_taken c.args.call c.args.body.now c.check_size.result c.in_ok-check_size.field-0 c.from_residual-in_err-read_members.result c.check_size.ensures c.in_ok-check_size.was (members_refused c.args.call c.args.body.now c.in_ok-value.value c.in_err-read_members.field-0.0 c.from_residual-in_err-read_members.result
    c.in_ok-value.ensures.body c.in_err-read_members.ensures.answer c.in_err-read_members.ensures.exact (goes_on c.from_residual-in_err-read_members.result c.in_err-read_members.field-0.0 c.from_residual-in_err-read_members.ensures.1))).unread

pub returns-clause-step : goal.returns-clause-step
returns-clause-step c =
    (size_taken c.args.call c.args.body.now c.check_size.result c.in_ok-check_size.field-0 c.check_fields.result c.check_size.ensures c.in_ok-check_size.was (fields_checked c.args.call c.args.body.now c.in_ok-value.value c.in_ok-read_members.field-0 c.check_fields.result
    c.in_ok-value.ensures.body c.in_ok-read_members.ensures.answer c.check_fields.ensures)).step

pub returns-clause-exact : goal.returns-clause-exact
returns-clause-exact c =
    (size_taken c.args.call c.args.body.now c.check_size.result c.in_ok-check_size.field-0 c.check_fields.result c.check_size.ensures c.in_ok-check_size.was (fields_checked c.args.call c.args.body.now c.in_ok-value.value c.in_ok-read_members.field-0 c.check_fields.result
    c.in_ok-value.ensures.body c.in_ok-read_members.ensures.answer c.check_fields.ensures)).exact

pub returns-clause-unread : goal.returns-clause-unread
returns-clause-unread c =
    (size_taken c.args.call c.args.body.now c.check_size.result c.in_ok-check_size.field-0 c.check_fields.result c.check_size.ensures c.in_ok-check_size.was (fields_checked c.args.call c.args.body.now c.in_ok-value.value c.in_ok-read_members.field-0 c.check_fields.result
    c.in_ok-value.ensures.body c.in_ok-read_members.ensures.answer c.check_fields.ensures)).unread
