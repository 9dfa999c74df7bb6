use Rattle.lease_book.specs.declared.attachments.Attachment.{Attachment}
use Rattle.lease_book.specs.Attached.{attachment_cmp, keys_before}
use Rattle.lease_book.proofs.Attached.{attachment_cmp_total}
use Rattle.lease_book.proofs.Ordered.{failing}
use Rattle.chunk_list.proofs.Turning.{turn}
use Rattle.std.specs.Ordering.{is_lt}
use Rattle.lease_book.proofs.attachments.place_for.Goals as goal

pub returns : goal.returns
returns g c =
    let cells = g.R.Records.cells c.args.records.now in
    let items = c.args.list.now.items in
    let sought = c.args.sought.now in
    c.search.ensures.turn (keys_before cells items sought) (turn (λ (a : Attachment). is_lt (attachment_cmp cells a sought)) items (failing (attachment_cmp cells) (attachment_cmp_total cells) sought items c.requires.attached.ascend))
