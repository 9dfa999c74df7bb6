use Rattle.std.proofs.Common.{◌≡◌, ◌-◌, ◌<◌, length, drop}
use Rattle.chunk_list.specs.Chunked.{position_of, HasItem}
use Rattle.lease_book.specs.Book.{leases_of}
use Rattle.lease_book.specs.Ending.{first_end}
use Rattle.lease_book.proofs.ending.soonest_end.Given as goal

abbrev pub invariant-passing : goal.invariant-passing
invariant-passing l =
    record {
      same : first_end l.soonest (drop (position_of l.list.sizes l.place) (leases_of l.list.items)) ≡ first_end 18446744073709551615 (leases_of l.list.items);
      item_is : position_of l.list.sizes l.place < length l.list.items → HasItem l.list.sizes l.place;
    }

abbrev pub decreases-passing : goal.decreases-passing
decreases-passing l = length l.list.items - position_of l.list.sizes l.place
