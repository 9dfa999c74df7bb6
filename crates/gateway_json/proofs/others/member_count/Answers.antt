use Rattle.std.proofs.Common.{◌∙◌, sym, ap}
use Rattle.serde_json.specs.View.{view}
use Rattle.gateway_json.specs.Others.{member_count}
use Rattle.gateway_json.proofs.OtherLemmas.{members_counted}
use Rattle.gateway_json.proofs.others.member_count.Goals as goal

pub returns-in-Object : goal.returns-in-Object
returns-in-Object c =
    c.len.ensures.len ∙ members_counted c.in-Object.members ∙ sym (ap (λ v. member_count (view v)) c.in-Object.is)
