use Rattle.std.proofs.Common.{◌≡◌, ◌≤◌, vec_capacity}
use Rattle.cell_arena.proofs.FreeList.{IsListing}
use Rattle.cell_arena.proofs.bay.clean.Given as goal

abbrev pub invariant-listing : goal.invariant-listing
invariant-listing l = record {
  listed : IsListing l.cells.items l.place l.first;
  room : 64 ≤ vec_capacity l.cells;
  same : vec_capacity l.cells ≡ vec_capacity l.fn.segment.cells;
}
