use Rattle.std.proofs.Common.{◌≡◌, ◌≤◌, false, length, nat_lt, refl, arith}
use Rattle.std.proofs.lemmas.Bool.Decides.{nat_tests}
use Rattle.etcd_types.specs.Limits.{max_body}
use Rattle.gateway_json.proofs.PairLemmas.{step_checked, step_refused}
use Rattle.gateway_json.proofs.StepLemmas.{goes_on}
use Rattle.gateway_json.proofs.step_reader.StepReader.read.Goals as goal

pub returns-in_err-read-in-Some-clause-step : goal.returns-in_err-read-in-Some-clause-step
returns-in_err-read-in-Some-clause-step c =
    let short : length c.args.body.now ≤ 4096 = c.in-Some.ensures.short refl in
    let few : nat_lt max_body (length c.args.body.now) ≡ false = grind (arith, nat_tests) in
    step_refused c.args.call c.args.body.now few c.in-Some.read c.in_err-read-in-Some.field-0.0 c.from_residual.result
    c.in-Some.ensures.read c.in_err-read-in-Some.was (goes_on c.from_residual.result c.in_err-read-in-Some.field-0.0 c.from_residual.ensures.1)

pub returns-in_ok-read-in-Some-clause-step : goal.returns-in_ok-read-in-Some-clause-step
returns-in_ok-read-in-Some-clause-step c =
    let short : length c.args.body.now ≤ 4096 = c.in-Some.ensures.short refl in
    let few : nat_lt max_body (length c.args.body.now) ≡ false = grind (arith, nat_tests) in
    step_checked c.args.call c.args.body.now few c.in-Some.read c.in_ok-read-in-Some.field-0 c.check_fields.result
    c.in-Some.ensures.read c.in_ok-read-in-Some.was c.check_fields.ensures
