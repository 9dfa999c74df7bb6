use Rattle.std.proofs.Common.{rules, ◌≡◌, ◌∙◌, Err}
use Rattle.gateway_json.proofs.ListLemmas.{exactly_refused, none_read}
use Rattle.gateway_json.proofs.list.read_elements.Goals as goal

pub returns-in_err-item-clause-exact : goal.returns-in_err-item-clause-exact
returns-in_err-item-clause-exact g c = λ refused.
    let told : c.from_residual.result ≡ Err c.in_err-item.field-0.0 = search rules in
    told ∙ exactly_refused _ _ c.args.values.now c.loop-value.value-index _ _ c.loop-value.items c.loop-value-test.true
    c.value-item.is c.in_err-item.ensures.exact c.loop-value.invariant.1 c.loop-value.invariant.0 refused

pub returns-then-is_err-clause-exact : goal.returns-then-is_err-clause-exact
returns-then-is_err-clause-exact g c = λ refused.
    absurd (none_read _ _ c.args.values.now c.loop-value.value-index _ c.in_ok-item.item c.loop-value-test.true
    c.value-item.is c.loop-value.invariant.1 c.in_ok-item.ensures.answer refused)
