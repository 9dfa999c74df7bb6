use Rattle.std.proofs.Common.{◌≡◌, ◌<◌, length, sym, subst, rules, inl, inr}
use Rattle.std.specs.Prelude.{true, false, IsSome}
use Rattle.std.specs.Ordering.{is_eq}
use Rattle.std.proofs.lemmas.Bool.{cases_lt}
use Rattle.std.proofs.lemmas.List.Elements.{All-from_recursion}
use Rattle.chunk_list.specs.Chunked.{position_of, HasItem}
use Rattle.lease_book.specs.declared.attachments.Attachment.{Attachment}
use Rattle.lease_book.specs.Attached.{attachment_cmp}
use Rattle.lease_book.proofs.Attached.{found_key, other_key, none_there}
use Rattle.lease_book.proofs.attachments.find_key.Goals as goal
use Rattle.lease_book.proofs.attachments.find_key.Goals.{else-has_item-via-then-has_item+else-is_eq, else-has_item-via-else-has_item}

pub compare-requires-clause-one : goal.compare-requires-clause-one
compare-requires-clause-one g c =
    let cells = g.R.Records.cells c.args.records.now in
    let list = c.args.list.now in
    let q = position_of list.sizes c.place_for-place.result in
    let lt : q < length list.items = search rules in
    subst (λ (a : Attachment). IsSome (cells a.head)) (sym c.get.ensures) (All-from_recursion (λ (a : Attachment). IsSome (cells a.head)) list.items c.requires.attached.some q c.get.result lt)

pub returns-then-is_eq : goal.returns-then-is_eq
returns-then-is_eq g c =
    let cells = g.R.Records.cells c.args.records.now in
    let list = c.args.list.now in
    let place = c.place_for-place.result in
    let item : HasItem list.sizes place = search rules in
    let lt : position_of list.sizes place < length list.items = search rules in
    let same : is_eq (attachment_cmp cells c.get.result c.args.sought.now) ≡ true = search rules in
    found_key cells list c.args.sought.now place c.requires.attached c.place_for-place.ensures c.get.result lt c.get.ensures item same

pub returns-else-has_item : goal.returns-else-has_item
returns-else-has_item g c =
    let cells = g.R.Records.cells c.args.records.now in
    let list = c.args.list.now in
    let place = c.place_for-place.result in
    elim c.else-has_item.branch [
      | else-has_item-via-then-has_item+else-is_eq w ↦
          let lt : position_of list.sizes place < length list.items = search rules in
          let other : is_eq (attachment_cmp cells w.get.result c.args.sought.now) ≡ false = search rules in
          other_key cells list c.args.sought.now place c.requires.attached c.place_for-place.ensures w.get.result lt w.get.ensures other
      | else-has_item-via-else-has_item w ↦ elim (cases_lt (position_of list.sizes place) (length list.items)) [
        | inl lt ↦
            let item : HasItem list.sizes place = search rules in
            let bad : ⊥ = search rules in
            absurd bad
        | inr le ↦ none_there cells list c.args.sought.now place c.requires.attached c.place_for-place.ensures le
      ]
    ]
