use Rattle.std.proofs.Common.{◌<◌, ℤ, length, sym, subst, arith, to_z, of_z, w64}
use Rattle.lease_book.specs.Attached.{AreAttached, attachment_cmp}
use Rattle.lease_book.specs.Book.{Book}
use Rattle.lease_book.proofs.Attached.{attached_with, rises}
use Rattle.lease_book.proofs.Changed.{put_length}
use Rattle.lease_book.proofs.book.LeaseBook.attach.Goals as goal

pub put_key-requires-clause-attached : goal.put_key-requires-clause-attached
put_key-requires-clause-attached g c =
    let cells = g.R.Records.cells c.args.records.now in
    subst (λ (b : Book). AreAttached cells b.attachments) (sym c.self.view_is) c.requires.attached

pub put_key-requires-clause-room : goal.put_key-requires-clause-room
put_key-requires-clause-room g c =
    let room = subst (λ (b : Book). length b.attachments < b.room) (sym c.self.view_is) c.requires.room in
    omega (arith, room, c.self.invariant.keys_fit)

pub invariant_of-self : goal.invariant_of-self
invariant_of-self g c =
    let cells = g.R.Records.cells c.args.records.now in
    let id : ℤ = to_z w64 (of_z w64 c.args.id) in
    let old = subst (λ (b : Book). AreAttached cells b.attachments) (sym c.self.view_is) c.requires.attached in
    let new = attached_with cells c.self.inside.attachments.items (record { id = id; head = c.args.head }) old c.requires.head in
    let room = subst (λ (b : Book). length b.attachments < b.room) (sym c.self.view_is) c.requires.room in
    record {
      book = c.self.invariant.book;
      rise = rw c.put_key.ensures.items (rises cells _ new.ascend);
      keys = rw c.put_key.ensures.items (omega (arith, room, put_length (attachment_cmp cells) (record { id = id; head = c.args.head }) c.self.inside.attachments.items));
      keys_fit = omega (arith, c.put_key.ensures.room, c.self.invariant.keys_fit);
      due_fits = omega (arith, c.put_key.ensures.room, c.self.invariant.due_fits);
    }

pub returns-clause-attached : goal.returns-clause-attached
returns-clause-attached g c =
    let cells = g.R.Records.cells c.args.records.now in
    let id : ℤ = to_z w64 (of_z w64 c.args.id) in
    let old = subst (λ (b : Book). AreAttached cells b.attachments) (sym c.self.view_is) c.requires.attached in
    rw c.put_key.ensures.items (attached_with cells c.self.inside.attachments.items (record { id = id; head = c.args.head }) old c.requires.head)
