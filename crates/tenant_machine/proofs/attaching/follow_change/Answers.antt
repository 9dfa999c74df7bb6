use Rattle.std.proofs.Common.{◌≡◌, ◌∙◌, ℤ, ap, of_z, rules, subst, sym, to_z, w64}
use Rattle.std.specs.Prelude.{IsSome, IfSome}
use Rattle.key_index.specs.Links.{Cells, change_at}
use Rattle.lease_book.specs.Attached.{AreAttached, with_attachment}
use Rattle.lease_book.specs.Book.{Book}
use Rattle.revision_store.specs.Stored.{cells}
use Rattle.tenant_machine.proofs.KeysFollow.{follows_off, follows_on, is_used, says_same}
use Rattle.tenant_machine.specs.Keyed.{TakesOff}
use Rattle.tenant_machine.proofs.attaching.follow_change.Goals as goal

pub lease-lease-requires : goal.lease-lease-requires
lease-lease-requires c = subst (λ (f : Cells). IsSome (f c.args.cell)) (sym c.records-records.ensures) c.requires.there

pub attach-requires-clause-head : goal.attach-requires-clause-head
attach-requires-clause-head c = subst (λ (f : Cells). IsSome (f c.args.cell)) (sym c.records-records.ensures) c.requires.there

pub returns-then-lease-ne0-clause-follows : goal.returns-then-lease-ne0-clause-follows
returns-then-lease-ne0-clause-follows c =
    let store = c.args.store.now in
    let mid = c.take_off.new.leases.attachments in
    let bits : to_z w64 (of_z w64 c.lease-lease.result) ≡ c.lease-lease.result = search rules in
    let made = ap (λ (b : Book). b.attachments) c.attach.ensures.value
    ∙ ap (λ (f : Cells). with_attachment f mid (record { id = to_z w64 (of_z w64 c.lease-lease.result); head = c.args.cell })) c.records-records.ensures
    ∙ ap (λ (id : ℤ). with_attachment (cells store) mid (record { id = id; head = c.args.cell })) bits in
    follows_on store c.args.cell c.lease-lease.result c.args.leases.now.attachments mid (subst (λ z. IfSome (change_at (cells store) c.args.cell) (λ x. TakesOff store x z c.args.leases.now.attachments mid)) bits c.take_off.ensures.takes_off) (says_same c.args.cell c.lease-lease.result c.records-records.ensures c.lease-lease.ensures)
    c.attach.new.self.attachments (is_used c.lease-lease.result c.if-lease-ne0.true) made (subst (λ (f : Cells). AreAttached f c.attach.new.self.attachments) c.records-records.ensures c.attach.ensures.attached)

pub returns-else-lease-ne0-clause-follows : goal.returns-else-lease-ne0-clause-follows
returns-else-lease-ne0-clause-follows c =
    let store = c.args.store.now in
    let mid = c.take_off.new.leases.attachments in
    let bits : to_z w64 (of_z w64 c.lease-lease.result) ≡ c.lease-lease.result = search rules in
    follows_off store c.args.cell c.lease-lease.result c.args.leases.now.attachments mid
    (subst (λ z. IfSome (change_at (cells store) c.args.cell) (λ x. TakesOff store x z c.args.leases.now.attachments mid)) bits c.take_off.ensures.takes_off)
    (says_same c.args.cell c.lease-lease.result c.records-records.ensures c.lease-lease.ensures)
    (sym bits ∙ ap (λ n. to_z w64 n) c.if-lease-ne0.false)
