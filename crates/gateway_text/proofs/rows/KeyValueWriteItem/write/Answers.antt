use Rattle.etcd_model.specs.ReplyText.{key_value_data}
use Rattle.gateway_text.proofs.WroteLemmas.{object_written, ◌then◌}
use Rattle.gateway_text.proofs.rows.KeyValueWriteItem.write.Goals as goal

pub returns : goal.returns
unfolding key_value_data
returns c =
    rw (← c.as_slice.ensures, ← c.as_slice-2.ensures)
    (object_written _ c.in_ok-push_byte.ensures.bytes
    (c.in_ok-later.ensures then c.in_ok-later-2.ensures then c.in_ok-later-3.ensures then c.in_ok-later-4.ensures then c.in_ok-later-5.ensures then c.in_ok-write_unsigned.ensures)
    c.in_ok-push_byte-2.ensures.bytes)
