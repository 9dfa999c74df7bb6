use Rattle.std.proofs.Common.{◌≡◌, ◌∙◌, ◌≤◌, List, ℤ, ap, length, of_z, rules, subst, sym, to_z, w64}
use Rattle.std.specs.Prelude.{IsSome}
use Rattle.key_index.specs.Links.{Cells, change_at}
use Rattle.lease_book.specs.Attached.{AreAttached, without_attachment}
use Rattle.lease_book.specs.Book.{Book}
use Rattle.lease_book.specs.declared.attachments.Attachment.{Attachment}
use Rattle.revision_store.specs.Stored.{cells}
use Rattle.tenant_machine.specs.Keyed.{TakesOff}
use Rattle.tenant_machine.proofs.KeysFollow.{fewer_left, had_no_lease, if_both, is_detached, keeps_lease, row_there, says_same, takes_none}
use Rattle.tenant_machine.proofs.attaching.take_off.Goals as goal
use Rattle.tenant_machine.proofs.attaching.take_off.Goals.{else-held-ne0-via-then-held-ne0+else-held-kept, else-held-ne0-via-else-held-ne0}

pub lease-held-requires : goal.lease-held-requires
lease-held-requires c = subst (λ (f : Cells). IsSome (f c.in-Some.before)) (sym c.records-records.ensures) (row_there (cells c.args.store.now) c.in-Some.before c.in-Some.ensures.there)

pub detach-requires-clause-head : goal.detach-requires-clause-head
detach-requires-clause-head c = subst (λ (f : Cells). IsSome (f c.in-Some.before)) (sym c.records-records.ensures) (row_there (cells c.args.store.now) c.in-Some.before c.in-Some.ensures.there)

pub returns-then-held-kept-clause-takes_off : goal.returns-then-held-kept-clause-takes_off
returns-then-held-kept-clause-takes_off c =
    let store = c.args.store.now in
    let list = c.args.leases.now.attachments in
    let bits : to_z w64 (of_z w64 c.lease-held.result) ≡ c.lease-held.result = search rules in
    let made = ap (λ (b : Book). b.attachments) c.detach.ensures.value
    ∙ ap (λ (f : Cells). without_attachment f list (record { id = to_z w64 (of_z w64 c.lease-held.result); head = c.in-Some.before })) c.records-records.ensures
    ∙ ap (λ (id : ℤ). without_attachment (cells store) list (record { id = id; head = c.in-Some.before })) bits in
    if_both (change_at (cells store) c.args.cell) _ (λ x. TakesOff store x c.args.kept list c.detach.new.self.attachments)
    (λ x at is. is_detached store x c.args.kept list c.in-Some.before c.lease-held.result is c.in-Some.ensures.there (says_same c.in-Some.before c.lease-held.result c.records-records.ensures c.lease-held.ensures)
    c.detach.new.self.attachments made (subst (λ (f : Cells). AreAttached f c.detach.new.self.attachments) c.records-records.ensures c.detach.ensures.attached)) c.in-Some.ensures.row

pub returns-then-held-kept-clause-fewer : goal.returns-then-held-kept-clause-fewer
returns-then-held-kept-clause-fewer c =
    let store = c.args.store.now in
    let list = c.args.leases.now.attachments in
    let made = ap (λ (b : Book). b.attachments) c.detach.ensures.value
    ∙ ap (λ (f : Cells). without_attachment f list (record { id = to_z w64 (of_z w64 c.lease-held.result); head = c.in-Some.before })) c.records-records.ensures in
    subst (λ (l : List Attachment). length l ≤ length list) (sym made) (fewer_left (cells store) (record { id = to_z w64 (of_z w64 c.lease-held.result); head = c.in-Some.before }) list)

pub returns-else-held-ne0-clause-takes_off : goal.returns-else-held-ne0-clause-takes_off
returns-else-held-ne0-clause-takes_off c =
    let store = c.args.store.now in
    let list = c.args.leases.now.attachments in
    let bits : to_z w64 (of_z w64 c.lease-held.result) ≡ c.lease-held.result = search rules in
    let kept : to_z w64 (of_z w64 c.args.kept) ≡ c.args.kept = search rules in
    let says = says_same c.in-Some.before c.lease-held.result c.records-records.ensures c.lease-held.ensures in
    if_both (change_at (cells store) c.args.cell) _ (λ x. TakesOff store x c.args.kept list list)
    (λ x at is. elim c.else-held-ne0.branch [
      | else-held-ne0-via-then-held-ne0+else-held-kept w ↦ keeps_lease store x c.args.kept list c.in-Some.before c.lease-held.result is c.in-Some.ensures.there says
          (sym bits ∙ ap (λ n. to_z w64 n) w.if-held-kept.false ∙ kept)
      | else-held-ne0-via-else-held-ne0 w ↦ had_no_lease store x c.args.kept list c.in-Some.before c.lease-held.result is c.in-Some.ensures.there says
          (sym bits ∙ ap (λ n. to_z w64 n) w.if-held-ne0.false)
    ]) c.in-Some.ensures.row

pub returns-in_default-clause-takes_off : goal.returns-in_default-clause-takes_off
returns-in_default-clause-takes_off c =
    if_both (change_at (cells c.args.store.now) c.args.cell) _ (λ x. TakesOff c.args.store.now x c.args.kept c.args.leases.now.attachments c.args.leases.now.attachments)
    (λ x at is. takes_none c.args.store.now x c.args.kept c.args.leases.now.attachments is) c.in_default.ensures.row
