use Rattle.std.proofs.Common.{◌∙◌, sym, ap, Ok, option_map}
use Rattle.etcd_model.specs.Members.{read_bytes}
use Rattle.gateway_json.proofs.PairLemmas.{beside_refused, both_read, key_refused}
use Rattle.gateway_json.proofs.StepLemmas.{goes_on}
use Rattle.gateway_json.proofs.pair.Pair.step.Goals as goal

pub returns-in_err-key : goal.returns-in_err-key
unfolding read_bytes
returns-in_err-key c =
    key_refused c.args.call c.args.self.key.now (option_map (λ s. s.now) c.args.self.beside) c.in_err-key.field-0.0 c.from_residual.result
    c.in_err-key.ensures.value (goes_on c.from_residual.result c.in_err-key.field-0.0 c.from_residual.ensures.1)

pub returns-in_err-beside : goal.returns-in_err-beside
unfolding read_bytes
returns-in_err-beside c =
    beside_refused c.args.call c.args.self.key.now (option_map (λ s. s.now) c.args.self.beside) c.in_ok-key.key c.in_err-beside.field-0.0 c.from_residual-in_err-beside.result
    c.in_ok-key.ensures.value c.in_err-beside.ensures (goes_on c.from_residual-in_err-beside.result c.in_err-beside.field-0.0 c.from_residual-in_err-beside.ensures.1)

pub returns : goal.returns
unfolding read_bytes
returns c =
    both_read c.args.call c.args.self.key.now (option_map (λ s. s.now) c.args.self.beside) c.in_ok-key.key c.in_ok-beside.beside
    c.in_ok-key.ensures.value c.in_ok-beside.ensures ∙ ap Ok (sym c.step.ensures)
