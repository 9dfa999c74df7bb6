use Rattle.std.proofs.Common.{append_assoc}
use Rattle.gateway_text.proofs.WroteLemmas.{wrote_text}
use Rattle.gateway_text.proofs.member.write_text.Goals as goal

pub returns : goal.returns
returns c =
    wrote_text _ _ _ _ _ _ c.requires.text c.in_ok-write_opening.ensures
    (rw (c.in_ok-push_byte.ensures.bytes, c.in_ok-push_str.ensures.bytes) (simp append_assoc))
