use Rattle.std.proofs.Common.{◌≡◌, ◌≤◌, true, not, length, get_or, ap, sym, subst, ◌∙◌, arith, rules, to_z, of_z, w64}
use Rattle.std.specs.Ordering.{int_eq}
use Rattle.std.specs.List.{remove}
use Rattle.etcd_model.specs.Operations.{has_lease}
use Rattle.chunk_list.specs.Chunked.{position_of}
use Rattle.lease_book.specs.declared.attachments.Attachment.{Attachment}
use Rattle.lease_book.specs.declared.book.Booked.{Booked}
use Rattle.lease_book.specs.Book.{Book, leases_of, cells_of, ids_below}
use Rattle.lease_book.proofs.Changed.{filter_length, gone, gone_book, map_remove, cell_read}
use Rattle.lease_book.proofs.book.LeaseBook.end.Goals as goal

pub invariant_of-self : goal.invariant_of-self
invariant_of-self c =
    let list = c.self.inside.list in
    let has : has_lease (leases_of list.items) c.args.id ≡ true = subst (λ (b : Book). has_lease b.leases c.args.id ≡ true) (sym c.self.view_is) c.requires in
    let position : position_of list.sizes c.place_with-place.result ≡ ids_below (leases_of list.items) c.args.id = search rules in
    let items : c.remove.new.self.items ≡ remove list.items (ids_below (leases_of list.items) c.args.id) = c.remove.ensures.items ∙ ap (remove list.items) position in
    let sound = gone_book list.items c.self.inside.soonest list.room c.self.invariant.book c.args.id has in
    let attached = c.self.inside.attachments.items in
    let keys : length c.drop_keys.new.list.items ≤ list.room = rw c.drop_keys.ensures.items (omega (arith, filter_length (λ (a : Attachment). not (int_eq a.id (to_z w64 (of_z w64 c.args.id)))) attached, c.self.invariant.keys)) in
    rw (items, c.remove.ensures.room) (record { book = sound; rise = c.drop_keys.ensures.rise; keys = keys; keys_fit = omega (arith, c.drop_keys.ensures.room, c.self.invariant.keys_fit); due_fits = omega (arith, c.drop_keys.ensures.room, c.self.invariant.due_fits) })

pub returns-clause-value : goal.returns-clause-value
returns-clause-value c =
    let list = c.self.inside.list in
    let x = c.remove.result in
    let position : position_of list.sizes c.place_with-place.result ≡ ids_below (leases_of list.items) c.args.id = search rules in
    let read : x ≡ get_or list.items (ids_below (leases_of list.items) c.args.id) x = c.remove.ensures.value ∙ ap (λ n. get_or list.items n x) position in
    rw (← c.self.view_is) (ap (λ b. b.cell) read ∙ sym (cell_read list.items (ids_below (leases_of list.items) c.args.id) x))

pub returns-clause-leases : goal.returns-clause-leases
returns-clause-leases c =
    let list = c.self.inside.list in
    let has : has_lease (leases_of list.items) c.args.id ≡ true = subst (λ (b : Book). has_lease b.leases c.args.id ≡ true) (sym c.self.view_is) c.requires in
    let position : position_of list.sizes c.place_with-place.result ≡ ids_below (leases_of list.items) c.args.id = search rules in
    let items : c.remove.new.self.items ≡ remove list.items (ids_below (leases_of list.items) c.args.id) = c.remove.ensures.items ∙ ap (remove list.items) position in
    rw (← c.self.view_is) (ap leases_of items ∙ gone list.items c.self.inside.soonest list.room c.self.invariant.book c.args.id has)

pub returns-clause-cells : goal.returns-clause-cells
returns-clause-cells c =
    let list = c.self.inside.list in
    let position : position_of list.sizes c.place_with-place.result ≡ ids_below (leases_of list.items) c.args.id = search rules in
    let items : c.remove.new.self.items ≡ remove list.items (ids_below (leases_of list.items) c.args.id) = c.remove.ensures.items ∙ ap (remove list.items) position in
    rw (← c.self.view_is) (ap cells_of items ∙ map_remove (λ (b : Booked). b.cell) list.items (ids_below (leases_of list.items) c.args.id))
