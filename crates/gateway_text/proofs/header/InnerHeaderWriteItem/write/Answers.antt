use Rattle.etcd_model.specs.ReplyText.{inner_header_data}
use Rattle.gateway_text.proofs.WroteLemmas.{object_written}
use Rattle.gateway_text.proofs.header.InnerHeaderWriteItem.write.Goals as goal

pub returns : goal.returns
unfolding inner_header_data
returns c = object_written _ c.in_ok-push_byte.ensures.bytes c.in_ok-write_signed.ensures c.in_ok-push_byte-2.ensures.bytes
