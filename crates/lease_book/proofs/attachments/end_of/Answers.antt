use Rattle.std.proofs.Common.{◌≡◌, rules, to_z, of_z, w64}
use Rattle.std.specs.Prelude.{int_le}
use Rattle.lease_book.specs.declared.attachments.Attachment.{Attachment}
use Rattle.lease_book.specs.Attached.{keys_up_to}
use Rattle.lease_book.proofs.Stretch.{failing_up_to}
use Rattle.chunk_list.proofs.Turning.{turn}
use Rattle.lease_book.proofs.attachments.end_of.Goals as goal

pub returns : goal.returns
returns c =
    let items = c.args.list.now.items in
    let same : to_z w64 (of_z w64 c.args.id) ≡ c.args.id = search rules in
    c.search.ensures.turn (keys_up_to items c.args.id) (rw same (turn (λ (a : Attachment). int_le a.id c.args.id) items (failing_up_to c.args.id items c.requires)))
