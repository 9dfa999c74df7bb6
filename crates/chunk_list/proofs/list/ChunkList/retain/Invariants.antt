use Rattle.std.proofs.Common.{◌≡◌, ◌<◌, length}
use Rattle.std.proofs.lemmas.List.Filters.{FiltersInPlace}
use Rattle.chunk_list.specs.Chunked.{position_of, IsPlace, HasItem}
use Rattle.chunk_list.proofs.list.ChunkList.retain.Given as goal

abbrev pub invariant-keeping : goal.invariant-keeping
invariant-keeping g l =
    record {
      room : l.self.room ≡ l.initial.self.room;
      kept : FiltersInPlace (g.S.Test.test l.test) l.initial.self.items l.self.items (position_of l.self.sizes l.write) l._read;
      read : position_of l.self.sizes l.read ≡ l._read;
      read_is : l._read < length l.self.items → HasItem l.self.sizes l.read;
      write_in : IsPlace l.self.sizes l.write;
      write_is : position_of l.self.sizes l.write < length l.self.items → HasItem l.self.sizes l.write;
    }
