use Rattle.std.proofs.Common.{◌≡◌, ◌+◌, length, take}
use Rattle.chunk_list.specs.Chunks.{chunk_items}
use Rattle.chunk_list.proofs.list.ChunkList.count_between.Given as goal

abbrev pub invariant-adding : goal.invariant-adding
invariant-adding g l = length (chunk_items (take l.from.chunk l.self-inside.shelf.chunks)) + l.passed ≡ length (chunk_items (take l.chunk l.self-inside.shelf.chunks))
