use Rattle.std.proofs.Common.{◌≡◌, true, false, rules}
use Rattle.std.specs.Prelude.{codes}
use Rattle.std.specs.Str.{bytes_eq}
use Rattle.gateway_json.proofs.StepLemmas.{goes_on, posted_refused, other_method, posted_taken}
use Rattle.gateway_json.proofs.call.read_posted.Goals as goal

pub returns-in_err-call-clause-step : goal.returns-in_err-call-clause-step
returns-in_err-call-clause-step c =
    (posted_refused c.args.path.now c.args.body.now c.known_call.result c.known_call.ensures c.args.method.now c.in_err-call.field-0.0 c.from_residual.result c.in_err-call.was (goes_on c.from_residual.result c.in_err-call.field-0.0 c.from_residual.ensures.1)).step

pub returns-in_err-call-clause-exact : goal.returns-in_err-call-clause-exact
returns-in_err-call-clause-exact c =
    (posted_refused c.args.path.now c.args.body.now c.known_call.result c.known_call.ensures c.args.method.now c.in_err-call.field-0.0 c.from_residual.result c.in_err-call.was (goes_on c.from_residual.result c.in_err-call.field-0.0 c.from_residual.ensures.1)).exact

pub returns-in_err-call-clause-unread : goal.returns-in_err-call-clause-unread
returns-in_err-call-clause-unread c =
    (posted_refused c.args.path.now c.args.body.now c.known_call.result c.known_call.ensures c.args.method.now c.in_err-call.field-0.0 c.from_residual.result c.in_err-call.was (goes_on c.from_residual.result c.in_err-call.field-0.0 c.from_residual.ensures.1)).unread

pub returns-then-ne-clause-step : goal.returns-then-ne-clause-step
returns-then-ne-clause-step c =
    let other : bytes_eq c.args.method.now (codes "POST") ≡ false = search rules in
    (other_method c.args.path.now c.args.body.now c.known_call.result c.known_call.ensures c.args.method.now c.in_ok-call.call c.in_ok-call.was other).step

pub returns-then-ne-clause-exact : goal.returns-then-ne-clause-exact
returns-then-ne-clause-exact c =
    let other : bytes_eq c.args.method.now (codes "POST") ≡ false = search rules in
    (other_method c.args.path.now c.args.body.now c.known_call.result c.known_call.ensures c.args.method.now c.in_ok-call.call c.in_ok-call.was other).exact

pub returns-then-ne-clause-unread : goal.returns-then-ne-clause-unread
returns-then-ne-clause-unread c =
    let other : bytes_eq c.args.method.now (codes "POST") ≡ false = search rules in
    (other_method c.args.path.now c.args.body.now c.known_call.result c.known_call.ensures c.args.method.now c.in_ok-call.call c.in_ok-call.was other).unread

pub returns-clause-step : goal.returns-clause-step
returns-clause-step c =
    let post : bytes_eq c.args.method.now (codes "POST") ≡ true = search rules in
    (posted_taken c.args.path.now c.args.body.now c.known_call.result c.known_call.ensures c.args.method.now c.in_ok-call.call c.read_step.result c.in_ok-call.was post
    (record { step = c.read_step.ensures.step; exact = c.read_step.ensures.exact; unread = c.read_step.ensures.unread })).step

pub returns-clause-exact : goal.returns-clause-exact
returns-clause-exact c =
    let post : bytes_eq c.args.method.now (codes "POST") ≡ true = search rules in
    (posted_taken c.args.path.now c.args.body.now c.known_call.result c.known_call.ensures c.args.method.now c.in_ok-call.call c.read_step.result c.in_ok-call.was post
    (record { step = c.read_step.ensures.step; exact = c.read_step.ensures.exact; unread = c.read_step.ensures.unread })).exact

pub returns-clause-unread : goal.returns-clause-unread
returns-clause-unread c =
    let post : bytes_eq c.args.method.now (codes "POST") ≡ true = search rules in
    (posted_taken c.args.path.now c.args.body.now c.known_call.result c.known_call.ensures c.args.method.now c.in_ok-call.call c.read_step.result c.in_ok-call.was post
    (record { step = c.read_step.ensures.step; exact = c.read_step.ensures.exact; unread = c.read_step.ensures.unread })).unread
