use Rattle.std.proofs.Common.{arith}
use Rattle.lease_book.proofs.book.LeaseBook.new.Goals as goal

pub invariant_of-result : goal.invariant_of-result
unfolding Rattle.std.specs.List.Sorted.IsStrictlySortedBy
invariant_of-result c =
    rw (c.in_ok-list.ensures.items, c.in_ok-attachments.ensures.items) (record {
      book = record { ascend = tt; within = tt; count = omega arith; room = omega (arith, c.in_ok-list.ensures.room) };
      rise = tt;
      keys = omega arith;
      keys_fit = omega (arith, c.in_ok-list.ensures.room, c.in_ok-attachments.ensures.room);
      due_fits = omega (arith, c.in_ok-attachments.ensures.room, c.in_ok-due.ensures.capacity);
    })
