use Rattle.std.proofs.Common.{◌≡◌, ◌<◌, false, length, ap, sym, subst, ◌∙◌, arith, rules}
use Rattle.std.specs.List.{insert}
use Rattle.etcd_model.specs.Operations.{has_lease}
use Rattle.lease_book.specs.declared.book.Booked.{Booked}
use Rattle.lease_book.specs.Book.{Book, leases_of, cells_of, ids_below}
use Rattle.lease_book.proofs.Changed.{added, added_book, map_insert}
use Rattle.lease_book.proofs.book.LeaseBook.grant.Goals as goal

pub invariant_of-self : goal.invariant_of-self
invariant_of-self c =
    let list = c.self.inside.list in
    let x : Booked = record { lease = c.args.new.lease; cell = c.args.cell } in
    let none : has_lease (leases_of list.items) x.lease.id ≡ false = subst (λ (b : Book). has_lease b.leases x.lease.id ≡ false) (sym c.self.view_is) c.requires.fits.id in
    let room : length (leases_of list.items) < list.room = subst (λ (b : Book). length b.leases < b.room) (sym c.self.view_is) c.requires.room in
    let items : c.insert.new.self.items ≡ insert list.items (ids_below (leases_of list.items) x.lease.id) x = search rules in
    let sound = added_book list.items c.self.inside.soonest list.room c.self.invariant.book x none c.min-self-inside.result (record { before = omega arith; end = omega arith }) c.requires.fits.ttl room in
    rw (items, c.insert.ensures.room) (record { book = sound; rise = c.self.invariant.rise; keys = c.self.invariant.keys; keys_fit = c.self.invariant.keys_fit; due_fits = c.self.invariant.due_fits })

pub returns-clause-leases : goal.returns-clause-leases
returns-clause-leases c =
    let list = c.self.inside.list in
    let x : Booked = record { lease = c.args.new.lease; cell = c.args.cell } in
    let none : has_lease (leases_of list.items) x.lease.id ≡ false = subst (λ (b : Book). has_lease b.leases x.lease.id ≡ false) (sym c.self.view_is) c.requires.fits.id in
    let items : c.insert.new.self.items ≡ insert list.items (ids_below (leases_of list.items) x.lease.id) x = search rules in
    rw (← c.self.view_is) (ap leases_of items ∙ added list.items c.self.inside.soonest list.room c.self.invariant.book x none)

pub returns-clause-cells : goal.returns-clause-cells
returns-clause-cells c =
    let list = c.self.inside.list in
    let x : Booked = record { lease = c.args.new.lease; cell = c.args.cell } in
    let items : c.insert.new.self.items ≡ insert list.items (ids_below (leases_of list.items) x.lease.id) x = search rules in
    rw (← c.self.view_is) (ap cells_of items ∙ map_insert (λ (b : Booked). b.cell) list.items (ids_below (leases_of list.items) x.lease.id) x)
