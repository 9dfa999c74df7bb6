use Rattle.etcd_model.specs.ReplyText.{status_data}
use Rattle.gateway_text.proofs.WroteLemmas.{object_written, ◌then◌}
use Rattle.gateway_text.proofs.replies.write_status.Goals as goal

pub returns : goal.returns
unfolding status_data
returns c =
    object_written _ c.in_ok-push_byte.ensures.bytes
    (c.in_ok-later.ensures then c.in_ok-later-2.ensures then c.in_ok-write_item.ensures)
    c.in_ok-push_byte-2.ensures.bytes
