use Rattle.std.proofs.Common.{◌≡◌, take}
use Rattle.etcd_types.proofs.copy.CopyOf.copies_of.Given as goal

abbrev pub invariant-loop-item : goal.invariant-loop-item
invariant-loop-item g l = l.copies.items ≡ take l.item-index l.items
