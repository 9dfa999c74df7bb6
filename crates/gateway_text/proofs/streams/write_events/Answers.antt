use Rattle.etcd_model.specs.ReplyText.{events_data}
use Rattle.gateway_text.proofs.WroteLemmas.{result_written, ◌then◌}
use Rattle.gateway_text.proofs.streams.write_events.Goals as goal

pub returns : goal.returns
unfolding events_data
returns c =
    result_written _ c.in_ok-push_str.ensures.bytes
    (c.in_ok-later.ensures then c.in_ok-later-2.ensures then c.in_ok-write_signed.ensures)
    c.in_ok-push_str-2.ensures.bytes
