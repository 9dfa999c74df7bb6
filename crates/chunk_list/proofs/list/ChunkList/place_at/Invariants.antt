use Rattle.std.proofs.Common.{◌≡◌, ◌+◌, length, take}
use Rattle.chunk_list.specs.Chunks.{chunk_items}
use Rattle.chunk_list.proofs.list.ChunkList.place_at.Given as goal

abbrev pub invariant-passing : goal.invariant-passing
invariant-passing g l = length (chunk_items (take l.chunk l.self-inside.shelf.chunks)) + l.left ≡ l.position
