use Rattle.std.proofs.Common.{◌≡◌, ◌<◌, ◌≢◌, length, rules, inl, inr}
use Rattle.std.proofs.lemmas.Bool.{cases_lt}
use Rattle.chunk_list.specs.Chunked.{position_of, HasItem}
use Rattle.lease_book.proofs.Standing.{found, other_there, none_there}
use Rattle.lease_book.specs.Book.{leases_of, ids_below}
use Rattle.lease_book.proofs.places.find.Goals as goal
use Rattle.lease_book.proofs.places.find.Goals.{else-has_item-via-then-has_item+else-get-id, else-has_item-via-else-has_item}

pub returns-then-get-id : goal.returns-then-get-id
returns-then-get-id c =
    let list = c.args.list.now in
    let place = c.place_of-place.result in
    let item : HasItem list.sizes place = search rules in
    let position : position_of list.sizes place ≡ ids_below (leases_of list.items) c.args.id = search rules in
    let lt : position_of list.sizes place < length list.items = search rules in
    let is : c.get.result.lease.id ≡ c.args.id = search rules in
    record {
      item = item;
      position = position;
      is = found list.items c.args.id (position_of list.sizes place) c.get.result c.requires position c.get.ensures lt is;
    }

pub returns-else-has_item : goal.returns-else-has_item
returns-else-has_item c =
    let list = c.args.list.now in
    let place = c.place_of-place.result in
    let position : position_of list.sizes place ≡ ids_below (leases_of list.items) c.args.id = search rules in
    elim c.else-has_item.branch [
      | else-has_item-via-then-has_item+else-get-id w ↦
          let other : w.get.result.lease.id ≢ c.args.id = search rules in
          other_there list.items c.args.id (position_of list.sizes place) w.get.result c.requires position w.get.ensures other
      | else-has_item-via-else-has_item w ↦ elim (cases_lt (ids_below (leases_of list.items) c.args.id) (length list.items)) [
        | inl lt ↦
            let item : HasItem list.sizes place = search rules in
            let no : ⊥ = search rules in
            absurd no
        | inr le ↦ none_there list.items c.args.id c.requires le
      ]
    ]
