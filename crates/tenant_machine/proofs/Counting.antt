-- How many cells are in use after a commit.
use Rattle.std.proofs.Math.Nat.{le_refl}
use Rattle.std.proofs.Common.{◌≡◌, ℕ, ◌+◌, ◌*◌, ◌≤◌, ◌^◌, List, ap, refl, subst, sym, ◌∙◌, arith}
use Rattle.std.specs.Prelude.{length, sum_by, ℤ, pos, negsuc, ◌≤ℤ◌, true, false, IfSome, Option, Some, None, is_some}
use Rattle.std.specs.List.Sorted.{IsStrictlySortedBy}
use Rattle.std.proofs.Math.IntN.{nat_abs}
use Rattle.std.proofs.lemmas.Int.{ints}
use Rattle.etcd_types.specs.declared.key_value.KeyValue.{KeyValue}
use Rattle.etcd_model.specs.Interval.{every_key}
use Rattle.etcd_model.specs.Kept.{cost_delete}
use Rattle.etcd_model.specs.Changes.{kept}
use Rattle.etcd_model.specs.Store.{Store, IsStore, counted_cells, compact, kept_store, record_cells, reserved_cells}
use Rattle.lease_book.proofs.Standing.{has_is}
use Rattle.model_laws.proofs.CounterLaws.{renew_adds_none}
use Rattle.model_laws.proofs.HistoryKeptLaws.{rows_kept}
use Rattle.model_laws.proofs.SpaceLaws.{fewer_records}
use Rattle.revision_store.specs.declared.plan.Write.{Write}
use Rattle.revision_store.specs.Stored.{StoreState, empty_state}
use Rattle.quota_alarm.specs.declared.quota.Quota.{Quota}
use Rattle.etcd_model.specs.declared.state.Lease.{Lease}
use Rattle.etcd_model.specs.Held.{by_id}
use Rattle.etcd_model.specs.Leases.{lease_at, put_lease}
use Rattle.etcd_model.specs.Operations.{has_lease}
use Rattle.etcd_model.specs.Stepping.{kept_alive}
use Rattle.etcd_model.specs.Order.{put_in}
use Rattle.lease_book.specs.Book.{Book, empty_book}
use Rattle.lease_book.specs.declared.granting.NewLease.{NewLease}
use Rattle.tenant_machine.specs.Tenants.{IsMachine, MachineState, cells_used, tenant}
use Rattle.etcd_types.specs.Limits.{last_revision}
use Rattle.tenant_machine.proofs.KeepingLeases.{opening_keeps}
use Rattle.tenant_machine.specs.Keyed.{KeepsLeases}
use Rattle.tenant_machine.specs.Plans.{FitsCompaction, with_new_end, written}

-- ---- a compaction

-- what is held for deletes stays
reserved_stays : (s : Store) (r : ℕ) → r ≤ s.current → IsStore s → reserved_cells s.current (kept r s.changes) ≡ reserved_cells s.current s.changes
reserved_stays s r within is = ap (sum_by (λ (row : KeyValue). cost_delete row.key)) (rows_kept every_key r s.current s.changes within is.rises is.own)

-- the cells in use fall by those of the records that go
used_after : (s : Store) (r : ℕ) → r ≤ s.current → IsStore s → counted_cells (compact s r) + record_cells s.changes ≡ counted_cells s + record_cells (kept r s.changes)
used_after s r within is = omega (arith, reserved_stays s r within is)

-- ---- a machine after a commit

-- after a write as many cells are in use as were planned
pub machine_after_write : (store new : StoreState) (leases after : Book) (moment : ℕ) (quota : Quota) (writes : List Write) (used : ℕ) → IsMachine store leases moment quota
    → used ≡ cells_used (written store writes) leases.leases → used ≤ 64 * store.share.reserved
    → new.kept ≡ written store writes → new.lease_cells ≡ store.lease_cells → new.share.reserved ≡ store.share.reserved → new.share.rooms ≡ store.share.rooms
    → after ≡ record leases { attachments = after.attachments } → KeepsLeases new after moment → IsMachine new after moment (record quota { used = used })
machine_after_write store new leases after moment quota writes used is counted within kept cells reserved rooms others keeps = record {
  used = counted ∙ ap (λ (s : Store). cells_used s leases.leases) (sym kept) ∙ ap (λ (b : Book). cells_used new.kept b.leases) (sym others);
  leases = cells ∙ is.leases ∙ ap (λ (b : Book). length b.leases) (sym others);
  room = omega (arith, is.room, rooms, ap (λ (b : Book). b.room) others);
  taken = omega (arith, is.taken, ap (λ (b : Book). b.taken) others);
  clock = is.clock;
  within = omega (arith, within, reserved);
  allowed = omega (arith, is.allowed, reserved);
  reserved = omega (arith, is.reserved, reserved, rooms);
  few = omega (arith, is.few, rooms);
  keeps = keeps;
}

-- after a compaction the cells in use are fewer by those that records no longer take
pub machine_after_compaction : (store new : StoreState) (leases : Book) (moment : ℕ) (quota : Quota) (revision used : ℕ) → IsMachine store leases moment quota → IsStore store.kept → FitsCompaction store revision
    → new.kept ≡ compact store.kept revision → new.lease_cells ≡ store.lease_cells → new.share.reserved ≡ store.share.reserved → new.share.rooms ≡ store.share.rooms
    → used + record_cells store.kept.changes ≡ quota.used + record_cells new.kept.changes → KeepsLeases new leases moment → IsMachine new leases moment (record quota { used = used })
machine_after_compaction store new leases moment quota revision used is sound fits kept cells reserved rooms falls keeps =
    let records = ap (λ (s : Store). record_cells s.changes) kept in
    let counted = ap counted_cells kept in
    let taken = used_after store.kept revision fits.within sound in
    let fewer : record_cells new.kept.changes ≤ record_cells store.kept.changes = omega (arith, records, fewer_records revision store.kept.changes) in
    record {
      used = omega (arith, falls, is.used, taken, records, counted);
      leases = cells ∙ is.leases;
      room = omega (arith, is.room, rooms);
      taken = is.taken;
      clock = is.clock;
      within = omega (arith, is.within, reserved, falls, fewer);
      allowed = omega (arith, is.allowed, reserved);
      reserved = omega (arith, is.reserved, reserved, rooms);
      few = omega (arith, is.few, rooms);
      keeps = keeps;
    }

-- after a grant one more is
pub machine_after_grant : (store new : StoreState) (leases after : Book) (moment : ℕ) (quota : Quota) → IsMachine store leases moment quota
    → cells_used store.kept leases.leases + 1 ≤ 64 * store.share.reserved → new.kept ≡ store.kept → new.lease_cells ≡ store.lease_cells + 1 → new.share.reserved ≡ store.share.reserved → new.share.rooms ≡ store.share.rooms
    → length after.leases ≡ length leases.leases + 1 → after.room ≡ leases.room → after.taken ≡ leases.taken → KeepsLeases new after moment → IsMachine new after moment (record quota { used = quota.used + 1 })
machine_after_grant store new leases after moment quota is within kept cells reserved rooms count room taken keeps = record {
  used = omega (arith, is.used, ap counted_cells kept, count);
  leases = omega (arith, cells, is.leases, count);
  room = omega (arith, is.room, room, rooms);
  taken = omega (arith, is.taken, taken);
  clock = is.clock;
  within = omega (arith, is.used, within, reserved);
  allowed = omega (arith, is.allowed, reserved);
  reserved = omega (arith, is.reserved, reserved, rooms);
  few = omega (arith, is.few, rooms);
  keeps = keeps;
}

-- new ends of leases change none of it
pub machine_after_renewal : (store : StoreState) (leases after : Book) (moment : ℕ) (quota : Quota) → IsMachine store leases moment quota → length after.leases ≡ length leases.leases → after.room ≡ leases.room → after.taken ≡ leases.taken → KeepsLeases store after moment → IsMachine store after moment quota
machine_after_renewal store leases after moment quota is count room taken keeps = record {
  used = omega (arith, is.used, count);
  leases = omega (arith, is.leases, count);
  room = omega (arith, is.room, room);
  taken = omega (arith, is.taken, taken);
  clock = is.clock;
  within = is.within;
  allowed = is.allowed;
  reserved = is.reserved;
  few = is.few;
  keeps = keeps;
}

-- the list with a lease that ends its time to live after the moment
pub granted_is : (new : NewLease) (moment : ℕ) (leases : List Lease) → new.lease.end ≡ moment + new.lease.ttl → put_in by_id leases new.lease ≡ put_lease moment leases new.lease.id new.lease.ttl
granted_is new moment leases end = ap (λ e. put_in by_id leases (record new.lease { end = e })) end

-- a lease that is kept alive leaves as many
pub kept_alive_adds_none : (moment : ℕ) (old new : Book) (id : ℤ) → IsStrictlySortedBy by_id old.leases → has_lease old.leases id ≡ true
    → IfSome (lease_at old.leases id) (λ l. new.leases ≡ put_lease moment old.leases id l.ttl) → length new.leases ≡ length old.leases
kept_alive_adds_none moment old new id ascend has is = by (lease_at old.leases id) (has_is old.leases id ∙ has) is
  where
    by : (o : Option Lease) → is_some o ≡ true → IfSome o (λ l. new.leases ≡ put_lease moment old.leases id l.ttl) → length new.leases ≡ length old.leases
    by None there is = absurd (cc)
    by (Some l) there is = ap (λ (ls : List Lease). length ls) is ∙ renew_adds_none moment old.leases id l.ttl ascend has

-- and the tenant that the definition leaves
pub renewed : (m : MachineState) (after : Book) (id : ℤ) → has_lease m.leases.leases id ≡ true
    → IfSome (lease_at m.leases.leases id) (λ l. after.leases ≡ put_lease m.moment m.leases.leases id l.ttl) → after.counter ≡ m.leases.counter → tenant (record m { leases = after }) ≡ with_new_end m id
renewed m after id has is counter = by (lease_at m.leases.leases id) (has_is m.leases.leases id ∙ has) is
  where
    by : (o : Option Lease) → is_some o ≡ true → IfSome o (λ l. after.leases ≡ put_lease m.moment m.leases.leases id l.ttl) → tenant (record m { leases = after }) ≡ (kept_alive kept_store (tenant m) id o).state
    by None there is = absurd (cc)
    by (Some l) there is = λ i. record (tenant m) { leases = is i; counter = counter i }

-- ---- an opening

pub opened_machine : (first cells segments most : ℕ) → first ≤ last_revision → cells ≡ segments * 64 → segments ≤ 2 ^ 14 → most ≤ cells → (store : StoreState) (book : Book) (quota : Quota)
    → store ≡ empty_state first cells → book ≡ empty_book cells → quota ≡ record { cells = most; used = 0; alarm = false } → IsMachine store book 0 quota
opened_machine first cells segments most low whole few allowed store book quota s b q =
    subst (λ t. IsMachine t book 0 quota) (sym s) (subst (λ c. IsMachine (empty_state first cells) c 0 quota) (sym b) (subst (IsMachine (empty_state first cells) _ 0) (sym q) (record {
      used = refl;
      leases = refl;
      room = omega (arith, whole);
      taken = omega (arith, whole, few);
      clock = omega arith;
      within = omega arith;
      allowed = omega (arith, whole, allowed);
      reserved = le_refl _;
      few = omega (arith, whole, few);
      keeps = opening_keeps first cells cells low;
    })))

-- a number within bounds
pub abs_within : (z : ℤ) (most : ℕ) → pos 1 ≤ℤ z → z ≤ℤ pos most → nat_abs z ≤ most
abs_within (pos n) most least le = omega (arith, ints, le)
abs_within (negsuc n) most least le = absurd (omega (arith, ints, least))
