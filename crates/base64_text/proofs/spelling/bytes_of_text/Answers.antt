use Rattle.std.proofs.Common.{◌∙◌, ap, arith, sym, Ok}
use Rattle.base64_text.proofs.SpellingLemmas.{empty_spelled, spelled_bytes_iff}
use Rattle.base64_text.proofs.spelling.bytes_of_text.Goals as goal

pub returns-then-is_empty-clause-value : goal.returns-then-is_empty-clause-value
returns-then-is_empty-clause-value c =
    empty_spelled c.args.text.now (sym c.is_empty.ensures ∙ c.if-is_empty.true) ∙ ap Ok (sym c.new.ensures)

pub returns-then-is_empty-clause-exact : goal.returns-then-is_empty-clause-exact
returns-then-is_empty-clause-exact c =
    λ none. ap Ok c.new.ensures ∙ sym (empty_spelled c.args.text.now (sym c.is_empty.ensures ∙ c.if-is_empty.true))

pub returns-then-is_empty-clause-spells : goal.returns-then-is_empty-clause-spells
returns-then-is_empty-clause-spells c = spelled_bytes_iff c.args.text.now (λ i. let f = c.type_inv.text i in omega arith)

pub returns-clause-spells : goal.returns-clause-spells
returns-clause-spells c = spelled_bytes_iff c.args.text.now (λ i. let f = c.type_inv.text i in omega arith)
