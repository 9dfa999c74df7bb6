use Rattle.std.proofs.Common.{◌≡◌, ◌≢◌, ◌<◌, ℤ, length, get_or, sym, ap, ◌∙◌, arith, rules, to_z, of_z, w64}
use Rattle.std.specs.Prelude.{not, false}
use Rattle.std.specs.Ordering.{int_eq}
use Rattle.std.proofs.lemmas.Bool.{false_from_ne_true}
use Rattle.std.proofs.lemmas.Bool.Decides.{Decides-int_eq}
use Rattle.std.proofs.lemmas.List.{get_or_default}
use Rattle.std.proofs.lemmas.List.Edits.{length-remove}
use Rattle.chunk_list.specs.Chunked.{position_of, HasItem}
use Rattle.lease_book.specs.declared.attachments.Attachment.{Attachment}
use Rattle.lease_book.specs.Attached.{without_keys}
use Rattle.lease_book.proofs.Stretch.{none_left, filter_remove, rise_remove}
use Rattle.lease_book.proofs.attachments.drop_keys.Goals as goal

pub returns-then-get-id-clause-items : goal.returns-then-get-id-clause-items
returns-then-get-id-clause-items c =
    let id : ℤ = to_z w64 (of_z w64 c.args.id) in
    let same : id ≡ c.args.id = search rules in
    let list = c.dropping.list in
    let q = position_of list.sizes c.dropping.place in
    let lt : q < length list.items = search rules in
    let other : c.get.result.id ≢ c.args.id = search rules in
    let differs : int_eq c.get.result.id c.args.id ≡ false = false_from_ne_true (int_eq c.get.result.id c.args.id) (λ t. other ((Decides-int_eq c.get.result.id c.args.id).0 t)) in
    sym (none_left id list.items c.dropping.invariant.rise (λ d less.
    ap (λ n. int_eq (get_or list.items n d).id id) (sym c.dropping.invariant.at.position_is)
    ∙ ap (λ (a : Attachment). int_eq a.id id) (sym (get_or_default list.items q c.get.result d lt) ∙ sym c.get.ensures)
    ∙ ap (int_eq c.get.result.id) same
    ∙ differs))
    ∙ c.dropping.invariant.same
    ∙ ap (without_keys c.args.list.now.items) same

pub returns-clause-items : goal.returns-clause-items
returns-clause-items c =
    let id : ℤ = to_z w64 (of_z w64 c.args.id) in
    let same : id ≡ c.args.id = search rules in
    let list = c.dropping.list in
    sym (none_left id list.items c.dropping.invariant.rise (λ d less.
    let item : HasItem list.sizes c.dropping.place = c.dropping.invariant.at.item_is less in
    let bad : ⊥ = search rules in
    absurd bad))
    ∙ c.dropping.invariant.same
    ∙ ap (without_keys c.args.list.now.items) same

pub first_of-place-requires-in-dropping : goal.first_of-place-requires-in-dropping
first_of-place-requires-in-dropping c =
    let list = c.dropping.list in
    rw c.remove-ended.ensures.items (rise_remove list.items (position_of list.sizes c.dropping.place) c.dropping.invariant.rise)

pub dropping-preserved : goal.dropping-preserved
dropping-preserved c =
    let id : ℤ = to_z w64 (of_z w64 c.args.id) in
    let same : id ≡ c.args.id = search rules in
    let list = c.dropping.list in
    let q = position_of list.sizes c.dropping.place in
    let x = c.get.result in
    let lt : q < length list.items = search rules in
    let is : x.id ≡ c.args.id = search rules in
    let gone : not (int_eq (get_or list.items q x).id id) ≡ false = ap (λ (a : Attachment). not (int_eq a.id id)) (sym c.get.ensures) ∙ ap not ((Decides-int_eq x.id id).1 (is ∙ sym same)) in
    record {
      rise = rw c.remove-ended.ensures.items (rise_remove list.items q c.dropping.invariant.rise);
      same =
          ap (λ xs. without_keys xs id) c.remove-ended.ensures.items
          ∙ filter_remove (λ (a : Attachment). not (int_eq a.id id)) list.items q x lt gone
          ∙ c.dropping.invariant.same;
      at = c.first_of-place-in-dropping.ensures;
      room = c.remove-ended.ensures.room ∙ c.dropping.invariant.room;
    }

pub dropping-smaller : goal.dropping-smaller
dropping-smaller c =
    let list = c.dropping.list in
    let q = position_of list.sizes c.dropping.place in
    let lt : q < length list.items = search rules in
    omega (arith, ap length c.remove-ended.ensures.items, length-remove list.items q lt)
