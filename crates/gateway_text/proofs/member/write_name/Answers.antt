use Rattle.std.proofs.Common.{append_assoc}
use Rattle.gateway_text.proofs.PlainLemmas.{escape_plain}
use Rattle.gateway_text.proofs.member.write_name.Goals as goal

pub returns : goal.returns
returns c =
    rw (c.in_ok-push_str-2.ensures.bytes, c.in_ok-push_str.ensures.bytes, c.in_ok-push_byte.ensures.bytes, c.in_ok-write_comma.ensures, escape_plain c.args.name.now c.requires) (simp append_assoc)
