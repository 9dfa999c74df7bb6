use Rattle.std.proofs.Common.{◌≡◌, ◌-◌, ◌<◌, length, drop, fold, None}
use Rattle.chunk_list.specs.Chunked.{position_of, HasItem}
use Rattle.lease_book.specs.Book.{leases_of}
use Rattle.lease_book.specs.Ending.{sooner_due}
use Rattle.lease_book.proofs.ending.first_due.Given as goal

abbrev pub invariant-passing : goal.invariant-passing
invariant-passing l =
    record {
      same : fold (sooner_due l.moment) l.first (drop (position_of l.list.sizes l.place) (leases_of l.list.items)) ≡ fold (sooner_due l.moment) None (leases_of l.list.items);
      item_is : position_of l.list.sizes l.place < length l.list.items → HasItem l.list.sizes l.place;
    }

abbrev pub decreases-passing : goal.decreases-passing
decreases-passing l = length l.list.items - position_of l.list.sizes l.place
