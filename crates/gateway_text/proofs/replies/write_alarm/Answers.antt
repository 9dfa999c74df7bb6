use Rattle.std.proofs.Common.{append_assoc}
use Rattle.json.specs.Print.{escape_byte}
use Rattle.etcd_model.specs.ReplyText.{alarm_data}
use Rattle.gateway_text.proofs.replies.write_alarm.Goals as goal

pub returns-in_ok-push_str : goal.returns-in_ok-push_str
unfolding alarm_data escape_byte
returns-in_ok-push_str c = rw c.if-no_space.true (record { text = λ rest. rw c.in_ok-push_str.ensures.bytes (simp append_assoc) })
