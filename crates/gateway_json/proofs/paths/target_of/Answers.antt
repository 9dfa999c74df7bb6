use Rattle.std.proofs.Common.{ap}
use Rattle.std.specs.Prelude.{option_map}
use Rattle.gateway_json.specs.Paths.{target_view}
use Rattle.gateway_json.proofs.PathLemmas.{taken_before, tenant_target, no_target}
use Rattle.gateway_json.proofs.paths.target_of.Goals as goal

pub returns-in_err-strip_prefix : goal.returns-in_err-strip_prefix
returns-in_err-strip_prefix c =
    let path = taken_before 63 c.args.target.now c.end_of.result c.end_of.ensures in
    no_target c.args.target.now _ (option_map target_view c.from_residual.result) path c.in_err-strip_prefix.ensures.cases (ap (option_map target_view) c.from_residual.ensures)

pub returns : goal.returns
returns c =
    let path = taken_before 63 c.args.target.now c.end_of.result c.end_of.ensures in
    tenant_target c.args.target.now _ c.in_ok-strip_prefix.field-0.now _ path c.in_ok-strip_prefix.ensures.cases.0 c.in_ok-strip_prefix.ensures.cases.1 c.after_root.ensures
