use Rattle.std.proofs.Common.{◌≡◌, ◌<◌, length}
use Rattle.chunk_list.specs.Chunked.{HasItem, IsPlace, position_of}
use Rattle.key_index.specs.Links.{IsChained}
use Rattle.key_index.specs.Compaction.{GivesBack}
use Rattle.key_index.proofs.Chains.{IsGoing}
use Rattle.key_index.proofs.compaction.cut_chains.Given as goal

abbrev pub invariant-cutting : goal.invariant-cutting
invariant-cutting g l =
    let cells = g.R.Records.cells in
    record {
      going : IsGoing (cells l.fn.records) (cells l.records) l.fn.heads.items l.heads.items l.revision (position_of l.heads.sizes l.left) l._read;
      length_is : length l.heads.items ≡ length l.fn.heads.items;
      room : l.heads.room ≡ l.fn.heads.room;
      read : position_of l.heads.sizes l.read ≡ l._read;
      read_is : l._read < length l.heads.items → HasItem l.heads.sizes l.read;
      left_in : IsPlace l.heads.sizes l.left;
      left_is : position_of l.heads.sizes l.left < length l.heads.items → HasItem l.heads.sizes l.left;
      chained : IsChained (cells l.records);
      gives : GivesBack g.R.RecordsMut.cost (cells l.fn.records) (cells l.records) (g.R.RecordsMut.free l.fn.records) (g.R.RecordsMut.free l.records);
      rest : g.R.RecordsMut.same_rest l.fn.records l.records;
    }
