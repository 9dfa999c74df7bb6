use Rattle.std.proofs.lemmas.Result.{IfOk-weaker}
use Rattle.gateway_text.proofs.WroteLemmas.{◌then◌}
use Rattle.gateway_text.proofs.leases.write_lease.Goals as goal

pub returns : goal.returns
returns c = IfOk-weaker c.write_item.result _ _ (λ after header. c.in_ok-later.ensures then c.in_ok-later-2.ensures then header) c.write_item.ensures
