use Rattle.std.proofs.Common.{codes, refl}
use Rattle.etcd_model.specs.ReplyText.{response_data}
use Rattle.gateway_text.proofs.WroteLemmas.{single_written}
use Rattle.gateway_text.proofs.in_place.write_response.Goals as goal

pub returns : goal.returns
unfolding response_data
returns g c =
    single_written _ (codes "response_range") _ refl c.in_ok-push_str.ensures.bytes c.in_ok-write_range.ensures c.in_ok-push_byte.ensures.bytes
