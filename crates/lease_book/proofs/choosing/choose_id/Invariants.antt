use Rattle.std.proofs.Common.{◌+◌, ◌-◌, ◌<◌, ◌≤◌, length, drop}
use Rattle.chunk_list.specs.Chunked.{position_of, HasItem}
use Rattle.lease_book.specs.Book.{leases_of}
use Rattle.lease_book.proofs.Chosen.{IsRun}
use Rattle.lease_book.proofs.choosing.choose_id.Given as goal

abbrev pub invariant-passing : goal.invariant-passing
invariant-passing l =
    record {
      run : IsRun l.counter (leases_of l.list.items) l.id (drop (position_of l.list.sizes l.place) (leases_of l.list.items));
      item_is : position_of l.list.sizes l.place < length l.list.items → HasItem l.list.sizes l.place;
      within : position_of l.list.sizes l.place ≤ length l.list.items;
      small : l.id ≤ l.counter + position_of l.list.sizes l.place;
    }

abbrev pub decreases-passing : goal.decreases-passing
decreases-passing l = length l.list.items - position_of l.list.sizes l.place
