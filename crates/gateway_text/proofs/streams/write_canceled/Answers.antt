use Rattle.etcd_model.specs.ReplyText.{canceled_data}
use Rattle.gateway_text.proofs.WroteLemmas.{result_written, ◌then◌}
use Rattle.gateway_text.proofs.streams.write_canceled.Goals as goal

pub returns : goal.returns
unfolding canceled_data
returns c =
    result_written _ c.in_ok-push_str.ensures.bytes
    (c.in_ok-later.ensures then c.in_ok-later-2.ensures then c.in_ok-later-3.ensures then c.in_ok-write_signed.ensures)
    c.in_ok-push_str-2.ensures.bytes
