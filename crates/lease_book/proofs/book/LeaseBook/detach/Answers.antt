use Rattle.std.proofs.Common.{sym, subst, arith, to_z, of_z, w64}
use Rattle.std.specs.Prelude.{not}
use Rattle.std.specs.Ordering.{is_eq}
use Rattle.lease_book.specs.declared.attachments.Attachment.{Attachment}
use Rattle.lease_book.specs.Attached.{AreAttached, attachment_cmp}
use Rattle.lease_book.specs.Book.{Book}
use Rattle.lease_book.proofs.Attached.{attached_filter}
use Rattle.lease_book.proofs.Changed.{filter_length}
use Rattle.lease_book.proofs.Stretch.{rise_filter}
use Rattle.lease_book.proofs.book.LeaseBook.detach.Goals as goal

pub drop_key-requires-clause-attached : goal.drop_key-requires-clause-attached
drop_key-requires-clause-attached g c =
    let cells = g.R.Records.cells c.args.records.now in
    subst (λ (b : Book). AreAttached cells b.attachments) (sym c.self.view_is) c.requires.attached

pub invariant_of-self : goal.invariant_of-self
invariant_of-self g c =
    let cells = g.R.Records.cells c.args.records.now in
    let gone : Attachment = record { id = to_z w64 (of_z w64 c.args.id); head = c.args.head } in
    record {
      book = c.self.invariant.book;
      rise = rw c.drop_key.ensures.items (rise_filter (λ (b : Attachment). not (is_eq (attachment_cmp cells b gone))) c.self.inside.attachments.items c.self.invariant.rise);
      keys = rw c.drop_key.ensures.items (omega (arith, filter_length (λ (b : Attachment). not (is_eq (attachment_cmp cells b gone))) c.self.inside.attachments.items, c.self.invariant.keys));
      keys_fit = omega (arith, c.drop_key.ensures.room, c.self.invariant.keys_fit);
      due_fits = omega (arith, c.drop_key.ensures.room, c.self.invariant.due_fits);
    }

pub returns-clause-attached : goal.returns-clause-attached
returns-clause-attached g c =
    let cells = g.R.Records.cells c.args.records.now in
    let gone : Attachment = record { id = to_z w64 (of_z w64 c.args.id); head = c.args.head } in
    let old = subst (λ (b : Book). AreAttached cells b.attachments) (sym c.self.view_is) c.requires.attached in
    rw c.drop_key.ensures.items (attached_filter cells (λ (b : Attachment). not (is_eq (attachment_cmp cells b gone))) c.self.inside.attachments.items old)
