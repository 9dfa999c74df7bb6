use Rattle.std.proofs.Common.{None, Some, arith}
use Rattle.host_config.proofs.DurationLemmas.{begun, ends, unbegun}
use Rattle.host_config.proofs.retention.seconds_in.Goals as goal

pub returns-then-is_empty : goal.returns-then-is_empty
returns-then-is_empty c = unbegun c.args.text.now (grind arith)

pub loop-byte-init : goal.loop-byte-init
loop-byte-init c = (begun c.args.text.now (λ h. grind arith), omega arith)

pub returns-in-None : goal.returns-in-None
returns-in-None c = ends c.loop-byte.read None c.args.text.now c.loop-byte.byte-index _ (omega arith) c.loop-byte.invariant.1 c.in-None.is c.loop-byte.invariant.0

pub returns-in-Some : goal.returns-in-Some
returns-in-Some c = ends c.loop-byte.read (Some c.in-Some.field-0) c.args.text.now c.loop-byte.byte-index _ (omega arith) c.loop-byte.invariant.1 c.in-Some.is c.loop-byte.invariant.0
