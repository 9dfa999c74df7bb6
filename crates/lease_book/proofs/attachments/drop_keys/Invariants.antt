use Rattle.std.proofs.Common.{◌≡◌, length}
use Rattle.chunk_list.specs.Chunked.{IsPlaceAt}
use Rattle.lease_book.specs.Attached.{RiseById, keys_below, without_keys}
use Rattle.lease_book.proofs.attachments.drop_keys.Given as goal

abbrev pub invariant-dropping : goal.invariant-dropping
invariant-dropping l =
    record {
      rise : RiseById l.list.items;
      same : without_keys l.list.items l.id ≡ without_keys l.initial.list.items l.id;
      at : IsPlaceAt l.list l.place (keys_below l.list.items l.id);
      room : l.list.room ≡ l.initial.list.room;
    }

abbrev pub decreases-dropping : goal.decreases-dropping
decreases-dropping l = length l.list.items
