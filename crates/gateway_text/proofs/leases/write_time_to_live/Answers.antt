use Rattle.etcd_model.specs.ReplyText.{time_to_live_data}
use Rattle.gateway_text.proofs.WroteLemmas.{object_written, ◌then◌}
use Rattle.gateway_text.proofs.leases.write_time_to_live.Goals as goal

pub returns : goal.returns
unfolding time_to_live_data
returns c =
    object_written _ c.in_ok-push_byte.ensures.bytes
    (c.in_ok-later.ensures then c.in_ok-later-2.ensures then c.in_ok-later-3.ensures then c.in_ok-later-4.ensures then c.in_ok-write_list.ensures)
    c.in_ok-push_byte-2.ensures.bytes
