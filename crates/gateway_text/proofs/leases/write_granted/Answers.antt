use Rattle.etcd_model.specs.ReplyText.{granted_data}
use Rattle.gateway_text.proofs.WroteLemmas.{object_written}
use Rattle.gateway_text.proofs.leases.write_granted.Goals as goal

pub returns : goal.returns
unfolding granted_data
returns c = object_written _ c.in_ok-push_byte.ensures.bytes c.in_ok-write_lease.ensures c.in_ok-push_byte-2.ensures.bytes
