use Rattle.lease_book.specs.Book.{leases_of}
use Rattle.lease_book.proofs.Due.{ahead_book}
use Rattle.lease_book.proofs.book.LeaseBook.look_ahead.Goals as goal

pub invariant_of-self : goal.invariant_of-self
invariant_of-self c =
    let inside = c.self.inside in
    let book = ahead_book (leases_of inside.list.items) inside.soonest inside.list.room 18446744073709551615 c.self.invariant.book in
    rw c.soonest_end-self-inside.ensures (record { book = book; rise = c.self.invariant.rise; keys = c.self.invariant.keys; keys_fit = c.self.invariant.keys_fit; due_fits = c.self.invariant.due_fits })
