use Rattle.std.proofs.Common.{◌≡◌, ◌+◌, true, sym, subst, arith, rules}
use Rattle.etcd_model.specs.Operations.{has_lease}
use Rattle.chunk_list.specs.Chunked.{position_of}
use Rattle.lease_book.specs.Book.{Book, leases_of, ids_below}
use Rattle.lease_book.proofs.Changed.{lease_within, ttl_within, renewed, renewed_cells, renewed_book}
use Rattle.lease_book.proofs.book.LeaseBook.renew.Goals as goal

pub overflow_add-booked : goal.overflow_add-booked
overflow_add-booked c =
    let list = c.self.inside.list in
    let x = c.get-booked.result in
    let has : has_lease (leases_of list.items) c.args.id ≡ true = subst (λ (b : Book). has_lease b.leases c.args.id ≡ true) (sym c.self.view_is) c.requires.has in
    let position : position_of list.sizes c.place_with-place.result ≡ ids_below (leases_of list.items) c.args.id = search rules in
    let within = lease_within list.items c.self.inside.soonest list.room c.self.invariant.book c.args.id has x (position_of list.sizes c.place_with-place.result) position c.get-booked.ensures in
    omega (arith, c.requires.moment, ttl_within x.lease.ttl within.ttl)

pub invariant_of-self : goal.invariant_of-self
invariant_of-self c =
    let list = c.self.inside.list in
    let x = c.get-booked.result in
    let q = position_of list.sizes c.place_with-place.result in
    let has : has_lease (leases_of list.items) c.args.id ≡ true = subst (λ (b : Book). has_lease b.leases c.args.id ≡ true) (sym c.self.view_is) c.requires.has in
    let position : q ≡ ids_below (leases_of list.items) c.args.id = search rules in
    let sound = renewed_book list.items c.self.inside.soonest list.room c.self.invariant.book c.args.id has x q position c.get-booked.ensures (c.args.moment + x.lease.ttl) c.min-self-inside.result (record { before = omega arith; end = omega arith }) in
    rw (c.set.ensures.items, c.set.ensures.room) (record { book = sound; rise = c.self.invariant.rise; keys = c.self.invariant.keys; keys_fit = c.self.invariant.keys_fit; due_fits = c.self.invariant.due_fits })

pub returns-clause-leases : goal.returns-clause-leases
returns-clause-leases c =
    let list = c.self.inside.list in
    let x = c.get-booked.result in
    let q = position_of list.sizes c.place_with-place.result in
    let has : has_lease (leases_of list.items) c.args.id ≡ true = subst (λ (b : Book). has_lease b.leases c.args.id ≡ true) (sym c.self.view_is) c.requires.has in
    let position : q ≡ ids_below (leases_of list.items) c.args.id = search rules in
    rw (← c.self.view_is, c.set.ensures.items) (renewed list.items c.self.inside.soonest list.room c.self.invariant.book c.args.id has x q position c.get-booked.ensures c.args.moment)

pub returns-clause-cells : goal.returns-clause-cells
returns-clause-cells c =
    let list = c.self.inside.list in
    let x = c.get-booked.result in
    let q = position_of list.sizes c.place_with-place.result in
    let has : has_lease (leases_of list.items) c.args.id ≡ true = subst (λ (b : Book). has_lease b.leases c.args.id ≡ true) (sym c.self.view_is) c.requires.has in
    let position : q ≡ ids_below (leases_of list.items) c.args.id = search rules in
    rw (← c.self.view_is, c.set.ensures.items) (renewed_cells list.items c.self.inside.soonest list.room c.self.invariant.book c.args.id has x q position c.get-booked.ensures (c.args.moment + x.lease.ttl))
