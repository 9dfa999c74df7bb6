use Rattle.std.proofs.Common.{◌≡◌, ◌+◌, ◌≤◌, ◌++◌, drop, length, map, vec_len, vec_capacity}
use Rattle.revision_store.specs.declared.plan.Write.TheVariants.{Delete}
use Rattle.revision_store.proofs.plan.push_deletes.Given as goal

abbrev pub invariant-loop-cell : goal.invariant-loop-cell
invariant-loop-cell l = record {
  made : l.writes.items ++ map Delete (drop l.cell-index l.cells) ≡ l.initial.writes.items ++ map Delete l.cells;
  room : vec_len l.writes + length l.cells ≤ vec_capacity l.writes + l.cell-index;
  same : vec_capacity l.writes ≡ vec_capacity l.initial.writes;
}
