use Rattle.std.proofs.Common.{◌≡◌, ℕ, List, vec_capacity, sym, ap, ◌∙◌, arith}
use Rattle.std.specs.Prelude.{drop, nat_le}
use Rattle.std.proofs.lemmas.List.Kept.{IsStrictlySortedBy-filter}
use Rattle.etcd_model.specs.declared.state.Lease.{Lease}
use Rattle.etcd_model.specs.Held.{by_id}
use Rattle.etcd_model.specs.Leases.{run_out}
use Rattle.lease_book.specs.Book.{Book, cells_of, leases_of}
use Rattle.lease_book.proofs.Due.{none_due}
use Rattle.lease_book.proofs.book.LeaseBook.collect_due.Goals as goal

pub sort_by_end-requires : goal.sort_by_end-requires
sort_by_end-requires c =
    let ls = leases_of c.self.inside.list.items in
    rw (c.deref_mut.ensures.value, c.collect.ensures.items) (IsStrictlySortedBy-filter by_id (λ (l : Lease). nat_le l.end c.args.moment) ls c.self.invariant.book.ascend)

pub returns-else-self-moment : goal.returns-else-self-moment
returns-else-self-moment c =
    let inside = c.self.inside in
    let ls = leases_of inside.list.items in
    let none = none_due c.args.moment inside.soonest ls (omega arith) c.self.invariant.book.within in
    let due : drop 0 c.clear.new.self.items ≡ run_out c.args.moment ls = c.clear.ensures.items ∙ sym none in
    let with_due : List Lease → ℕ → Book = λ due taken. record { leases = ls; cells = cells_of inside.list.items; counter = inside.counter; room = inside.list.room; taken = taken; attachments = inside.attachments.items; due = due } in
    rw (← c.self.view_is) (ap (λ xs. with_due xs (vec_capacity c.clear.new.self)) due ∙ ap (with_due (run_out c.args.moment ls)) c.clear.ensures.capacity)
