use Rattle.etcd_model.specs.ReplyText.{refusal_data}
use Rattle.gateway_text.proofs.WroteLemmas.{object_written, ◌then◌}
use Rattle.gateway_text.proofs.refusal.write_refusal.Goals as goal

pub returns : goal.returns
unfolding refusal_data
returns c =
    rw (← c.code.ensures, ← c.text-text.ensures)
    (object_written _ c.in_ok-push_byte.ensures.bytes
    (c.in_ok-later.ensures then c.in_ok-later-2.ensures then c.in_ok-write_text.ensures)
    c.in_ok-push_byte-2.ensures.bytes)
