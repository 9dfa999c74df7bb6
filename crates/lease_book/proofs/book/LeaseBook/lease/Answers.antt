use Rattle.std.proofs.Common.{◌≡◌, ◌∙◌, true, is_some, sym, ap, rules, of_z, to_z, w64}
use Rattle.etcd_model.specs.Leases.{lease_at}
use Rattle.etcd_model.specs.Operations.{has_lease}
use Rattle.chunk_list.specs.Chunked.{position_of}
use Rattle.lease_book.specs.Book.{ids_below, leases_of}
use Rattle.lease_book.proofs.Changed.{lease_within}
use Rattle.lease_book.proofs.Standing.{has_is}
use Rattle.lease_book.proofs.book.LeaseBook.lease.Goals as goal

pub returns-clause-ttl : goal.returns-clause-ttl
returns-clause-ttl c =
    let list = c.self.inside.list in
    let leases = leases_of list.items in
    let x = c.get.result in
    let q = position_of list.sizes c.in_ok-place.place in
    let bits : to_z w64 (of_z w64 c.args.id) ≡ c.args.id = search rules in
    let has : has_lease leases c.args.id ≡ true = sym (has_is leases c.args.id) ∙ ap (λ z. is_some (lease_at leases z)) (sym bits) ∙ ap is_some (c.in_ok-place.ensures.is x) in
    let position : q ≡ ids_below leases c.args.id = c.in_ok-place.ensures.position ∙ ap (ids_below leases) bits in
    (lease_within list.items c.self.inside.soonest list.room c.self.invariant.book c.args.id has x q position c.get.ensures).ttl
