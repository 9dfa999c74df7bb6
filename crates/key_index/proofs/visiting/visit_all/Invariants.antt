use Rattle.std.proofs.Common.{◌≡◌, ◌<◌, length}
use Rattle.chunk_list.specs.Chunked.{HasItem, position_of}
use Rattle.key_index.specs.Compaction.{GivesBack}
use Rattle.key_index.specs.Visiting.{IsIndexed}
use Rattle.key_index.proofs.Visits.{IsVisiting}
use Rattle.key_index.proofs.visiting.visit_all.Given as goal

abbrev pub invariant-visiting : goal.invariant-visiting
invariant-visiting g l =
    let cells = g.R.Records.cells in
    record {
      indexed : IsIndexed (cells l.records) l.index;
      visiting : IsVisiting (cells l.fn.records) (cells l.records) l.fn.settled.items l.recent.items l.settled.items l.revision l._visited;
      place : position_of l.recent.sizes l.place ≡ l._visited;
      place_is : l._visited < length l.recent.items → HasItem l.recent.sizes l.place;
      capacity : l.index.capacity ≡ l.fn.index.capacity;
      taken : l.index.taken ≡ l.fn.index.taken;
      room : l.settled.room ≡ l.fn.settled.room;
      gives : GivesBack g.R.RecordsMut.cost (cells l.fn.records) (cells l.records) (g.R.RecordsMut.free l.fn.records) (g.R.RecordsMut.free l.records);
      rest : g.R.RecordsMut.same_rest l.fn.records l.records;
    }
