use Rattle.etcd_model.specs.ReplyText.{leases_data}
use Rattle.gateway_text.proofs.WroteLemmas.{object_written, ◌then◌}
use Rattle.gateway_text.proofs.leases.write_leases.Goals as goal

pub returns : goal.returns
unfolding leases_data
returns c =
    object_written _ c.in_ok-push_byte.ensures.bytes
    (c.in_ok-later.ensures then c.in_ok-write_list.ensures)
    c.in_ok-push_byte-2.ensures.bytes
