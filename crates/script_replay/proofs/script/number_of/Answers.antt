use Rattle.std.proofs.Common.{◌≡◌, true, sym, ◌∙◌, ap}
use Rattle.script_replay.specs.Script.{is_number, number_of}
use Rattle.script_replay.proofs.NumberLemmas.{number_is_text, number_parsed}
use Rattle.script_replay.proofs.script.number_of.Goals as goal

pub returns-in_default : goal.returns-in_default
returns-in_default c = absurd (c.in_default.ensures.cases.0 (number_is_text c.args.text.now (sym c.is_number.ensures ∙ c.if-not-is_number.false)))

pub returns : goal.returns
returns c =
    let same = c.in-Ok.ensures.cases.0 in
    let number : is_number c.in-Ok.digits.now ≡ true = ap is_number same ∙ sym c.is_number.ensures ∙ c.if-not-is_number.false in
    c.ok.ensures.value ∙ number_parsed c.in-Ok.digits.now c.parse.result number c.parse.ensures.value.0 ∙ ap number_of same
