use Rattle.std.proofs.Common.{append_assoc, arith}
use Rattle.gateway_text.proofs.PlainLemmas.{escape_encoding}
use Rattle.gateway_text.proofs.member.write_base64.Goals as goal

pub returns : goal.returns
returns c =
    rw (c.in_ok-push_byte-2.ensures.bytes, c.in_ok-push_base64.ensures.bytes, c.in_ok-push_byte.ensures.bytes, escape_encoding c.args.bytes.now (λ i. let fits = c.type_inv.bytes i in omega arith)) (simp append_assoc)
