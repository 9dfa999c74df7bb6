use Rattle.etcd_model.specs.ReplyText.{event_data}
use Rattle.gateway_text.proofs.WroteLemmas.{object_written, ◌then◌}
use Rattle.gateway_text.proofs.rows.EventWriteItem.write.Goals as goal

pub returns : goal.returns
unfolding event_data
returns c =
    object_written _ c.in_ok-push_byte.ensures.bytes
    (c.in_ok-later.ensures then c.in_ok-later-2.ensures then c.in_ok-write_kind.ensures)
    c.in_ok-push_byte-2.ensures.bytes
