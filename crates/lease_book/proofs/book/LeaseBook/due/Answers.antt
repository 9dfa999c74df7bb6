use Rattle.std.proofs.Common.{ap, sym, slice_get, option_map, arith}
use Rattle.etcd_model.specs.declared.state.Lease.{Lease}
use Rattle.lease_book.specs.Book.{leases_of}
use Rattle.lease_book.proofs.Due.{none_due}
use Rattle.lease_book.proofs.book.LeaseBook.due.Goals as goal

pub returns-then-moment-self : goal.returns-then-moment-self
returns-then-moment-self c =
    let none = none_due c.args.moment c.self.inside.soonest (leases_of c.self.inside.list.items) (omega arith) c.self.invariant.book.within in
    rw (← c.self.view_is) (sym (ap (λ xs. option_map (λ (l : Lease). l.id) (slice_get xs 0)) none))
