use Rattle.std.proofs.Common.{◌≡◌, Some, get_or, sym, ap, ◌∙◌, rules, arith}
use Rattle.chunk_list.specs.Chunked.{position_of}
use Rattle.lease_book.proofs.Changed.{here}
use Rattle.lease_book.proofs.Standing.{lease_read, count_leases}
use Rattle.lease_book.specs.Book.{leases_of, ids_below}
use Rattle.lease_book.proofs.places.place_with.Goals as goal

pub returns : goal.returns
returns c =
    let list = c.args.list.now in
    let ls = leases_of list.items in
    let position : position_of list.sizes c.place_of.result ≡ ids_below ls c.args.id = search rules in
    let at = here ls c.args.id c.requires.ascend c.requires.has in
    record {
      item = c.place_of.ensures.item_is (omega (arith, at.place, count_leases list.items, position, c.place_of.ensures.position_is));
      position = position;
      is = λ d. at.at d.lease ∙ ap Some (lease_read list.items (ids_below ls c.args.id) d) ∙ ap (λ n. Some (get_or list.items n d).lease) (sym position);
    }
