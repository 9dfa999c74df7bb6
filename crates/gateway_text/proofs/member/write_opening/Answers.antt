use Rattle.std.proofs.Common.{rules}
use Rattle.gateway_text.proofs.WroteLemmas.{opening_first}
use Rattle.gateway_text.proofs.member.write_opening.Goals as goal

pub returns-else-later : goal.returns-else-later
returns-else-later c = rw (c.if-later.false, ← opening_first c.args.opening.now c.requires, ← c.as_bytes-bytes.ensures.value) (search rules)
