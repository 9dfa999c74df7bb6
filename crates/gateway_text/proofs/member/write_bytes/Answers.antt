use Rattle.std.proofs.Common.{◌∙◌, Bool, append_assoc, arith, subst, sym, true}
use Rattle.etcd_model.specs.ReplyText.{bytes_data, member_unless}
use Rattle.gateway_text.specs.Wrote.{WroteMembers, name_in}
use Rattle.gateway_text.proofs.PlainLemmas.{plain_encoding}
use Rattle.gateway_text.proofs.WroteLemmas.{wrote_text}
use Rattle.gateway_text.proofs.member.write_bytes.Goals as goal

pub returns : goal.returns
returns c =
    let bytes = c.args.bytes.now in
    let plain = plain_encoding bytes (λ i. let fits = c.type_inv.bytes i in omega arith) in
    let some = sym c.is_empty.ensures ∙ c.if-is_empty.false in
    subst (λ (empty : Bool). WroteMembers c.args.out.now.items c.args.later c.push_byte.new.out.items true (λ rest. member_unless empty (name_in c.args.opening.now) (bytes_data bytes) rest)) (sym some)
    (wrote_text _ _ _ _ _ _ plain c.in_ok-write_opening.ensures
    (rw (c.in_ok-push_byte.ensures.bytes, c.in_ok-push_base64.ensures.bytes) (simp append_assoc)))
