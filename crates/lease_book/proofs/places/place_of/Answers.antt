use Rattle.std.proofs.Common.{◌≡◌, rules, to_z, of_z, w64}
use Rattle.lease_book.proofs.Standing.{turns}
use Rattle.lease_book.specs.Book.{leases_of, ids_below}
use Rattle.lease_book.proofs.places.place_of.Goals as goal

pub returns : goal.returns
returns c =
    let items = c.args.list.now.items in
    let same : to_z w64 (of_z w64 c.args.id) ≡ c.args.id = search rules in
    c.search.ensures.turn (ids_below (leases_of items) c.args.id) (rw same (turns items c.args.id c.requires))
