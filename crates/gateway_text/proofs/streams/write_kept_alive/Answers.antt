use Rattle.etcd_model.specs.ReplyText.{kept_alive_data}
use Rattle.gateway_text.proofs.WroteLemmas.{result_written}
use Rattle.gateway_text.proofs.streams.write_kept_alive.Goals as goal

pub returns : goal.returns
unfolding kept_alive_data
returns c = result_written _ c.in_ok-push_str.ensures.bytes c.in_ok-write_lease.ensures c.in_ok-push_str-2.ensures.bytes
