use Rattle.std.proofs.Common.{◌∙◌, subst}
use Rattle.pending_calls.proofs.RequestLemmas.{unread_told}
use Rattle.pending_calls.specs.Requests.{IsUnread}
use Rattle.pending_calls.proofs.begun.Begun.new.Goals as goal

pub returns-in-Err : goal.returns-in-Err
returns-in-Err g c = unread_told (record { route = c.args.route; body = c.args.body }) c.in-Err.refusal c.refused.result.answer (subst (λ r. IsUnread r c.in-Err.refusal) (c.request-2.ensures ∙ c.new-asked.ensures) c.in-Err.ensures.refused) c.refused.ensures
