use Rattle.std.proofs.Common.{codes, refl}
use Rattle.etcd_model.specs.ReplyText.{response_data}
use Rattle.gateway_text.proofs.WroteLemmas.{single_written}
use Rattle.gateway_text.proofs.responses.OpReplyWriteItem.write.Goals as goal

pub returns-in_ok-push_byte-in-Range : goal.returns-in_ok-push_byte-in-Range
unfolding response_data
returns-in_ok-push_byte-in-Range c =
    rw (c.in-Range.is, ← c.as_slice.ensures) (single_written _ (codes "response_range") _ refl c.in_ok-push_str-in-Range.ensures.bytes c.in_ok-write_range-in-Range.ensures c.in_ok-push_byte-in-Range.ensures.bytes)

pub returns-in_ok-push_byte-in-Put : goal.returns-in_ok-push_byte-in-Put
unfolding response_data
returns-in_ok-push_byte-in-Put c =
    rw c.in-Put.is (single_written _ (codes "response_put") _ refl c.in_ok-push_str-in-Put.ensures.bytes c.in_ok-write_put-in-Put.ensures c.in_ok-push_byte-in-Put.ensures.bytes)

pub returns-in_ok-push_byte-in-Delete : goal.returns-in_ok-push_byte-in-Delete
unfolding response_data
returns-in_ok-push_byte-in-Delete c =
    rw (c.in-Delete.is, ← c.as_slice-in-Delete.ensures) (single_written _ (codes "response_delete_range") _ refl c.in_ok-push_str-in-Delete.ensures.bytes c.in_ok-write_delete-in-Delete.ensures c.in_ok-push_byte-in-Delete.ensures.bytes)
