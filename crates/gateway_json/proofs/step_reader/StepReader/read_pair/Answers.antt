use Rattle.std.proofs.Common.{◌≡◌, ◌∙◌, sym, subst, option_map}
use Rattle.std.specs.Prelude.{IsUtf8}
use Rattle.json.specs.Lex.{tokens}
use Rattle.etcd_model.specs.Calls.{read_body, read_members}
use Rattle.etcd_model.specs.Members.{IsAnswer, and_then}
use Rattle.gateway_json.specs.Pairs.{call_of, name_beside, pair_object, pair_tokens}
use Rattle.gateway_json.proofs.PairLemmas.{of_body, pair_body, text_taken}
use Rattle.gateway_json.proofs.step_reader.StepReader.read_pair.Goals as goal

pub returns-clause-read : goal.returns-clause-read
returns-clause-read c =
    let body = c.args.body.now in
    let call = c.in_ok-pair_call.pair_call in
    let name = name_beside call in
    let key = c.in_ok-pair.pair.key.now in
    let beside = option_map (λ s. s.now) c.in_ok-pair.pair.beside in
    let text = text_taken (λ s. (s.now ≡ body) × IsUtf8 body) _ c.from_utf8.result c.in_ok-text.text c.from_utf8.ensures.cases (sym c.ok.ensures.value ∙ c.in_ok-text.was) in
    let seen : tokens body ≡ pair_tokens name key beside = subst (λ t. tokens t ≡ pair_tokens name key beside) text.0 (sym c.in-Ok.ensures.ok ∙ c.in_ok-pair.ensures) in
    let reads = pair_body body name key beside (sym c.is_empty.ensures ∙ c.if-is_empty.false) text.1 seen in
    subst (λ k. IsAnswer c.step.result (and_then (read_body body) (read_members k))) c.in_ok-pair_call.ensures
    (of_body (call_of call) body (pair_object name key beside) c.step.result reads c.step.ensures)
