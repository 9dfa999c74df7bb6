use Rattle.etcd_model.specs.ReplyText.{bare_data}
use Rattle.gateway_text.proofs.WroteLemmas.{object_written}
use Rattle.gateway_text.proofs.replies.write_bare.Goals as goal

pub returns : goal.returns
unfolding bare_data
returns c =
    object_written _ c.in_ok-push_byte.ensures.bytes
    c.in_ok-write_item.ensures
    c.in_ok-push_byte-2.ensures.bytes
