use Rattle.std.proofs.Common.{◌≡◌, ◌-◌, ◌<◌, ◌≤◌, ◌++◌, length, drop}
use Rattle.std.specs.Prelude.{filter, nat_le, vec_capacity}
use Rattle.chunk_list.specs.Chunked.{position_of, HasItem}
use Rattle.lease_book.specs.Book.{leases_of}
use Rattle.lease_book.proofs.ending.collect.Given as goal

abbrev pub invariant-passing : goal.invariant-passing
invariant-passing l =
    record {
      same : l.ended.items ++ filter (λ x. nat_le x.end l.moment) (drop (position_of l.list.sizes l.place) (leases_of l.list.items)) ≡ filter (λ x. nat_le x.end l.moment) (leases_of l.list.items);
      item_is : position_of l.list.sizes l.place < length l.list.items → HasItem l.list.sizes l.place;
      few : length l.ended.items ≤ position_of l.list.sizes l.place;
      capacity : vec_capacity l.ended ≡ vec_capacity l.initial.ended;
    }

abbrev pub decreases-passing : goal.decreases-passing
decreases-passing l = length l.list.items - position_of l.list.sizes l.place
