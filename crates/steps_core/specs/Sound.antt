-- What holds of every host: its tenants' machines, their tickets, and the pool beneath.
use Rattle.std.specs.Prelude.{◌≡◌, ℕ, ◌+◌, ◌≤◌, List, Vec, map, sum_by, nat_eq, slice_set}
use Rattle.std.specs.Map.{values_of}
use Rattle.std.specs.List.{AllByRecursion, IsDistinct}
use Rattle.etcd_model.specs.Pool.{PoolState, TicketState, IsHeld, AddsUp}
use Rattle.segment_pool.specs.declared.desk.Desk.{Desk}
use Rattle.tenant_machine.specs.Reserving.{reservation}
use Rattle.steps_core.specs.declared.tenant.Tenant.{Tenant}
use Rattle.steps_core.specs.Hosts.{HostState}
use Rattle.tenant_machine.specs.Reserving.{resized}

abbrev pub ticket_number : Tenant → ℕ
ticket_number t = t.ticket.number

abbrev pub drawn_by : Tenant → ℕ
drawn_by t = t.ticket.drawn

abbrev pub reserved_by : Tenant → ℕ
reserved_by t = t.ticket.reserved

abbrev pub host_of : {A : Type 0} → List (Vec ℕ A × Tenant) → Desk → HostState
host_of es d = record {
  tenants = map (λ e. (e.0.items, e.1.machine)) es;
  segments = d.pool.free + d.pool.out;
}

-- what the machine's region has is what its ticket says, which reserves a segment at least
pub record Agrees (t : Tenant) : Type 0 where
  pub reserved : t.machine.store.share.reserved ≡ t.ticket.reserved
  pub drawn : t.machine.store.share.drawn ≡ t.ticket.drawn
  pub within : t.ticket.drawn ≤ t.ticket.reserved
  pub some : 1 ≤ t.ticket.reserved

-- a ticket that reserves nothing
pub record IsIdle (ticket : TicketState) : Type 0 where
  pub reserved : ticket.reserved ≡ 0
  pub drawn : ticket.drawn ≡ 0

-- the desk serves nobody; each ticket is one of the pool's, all under numbers that differ, and the pool's
-- sums are those of the tickets
pub record IsHost {A : Type 0} (es : List (Vec ℕ A × Tenant)) (d : Desk) : Type 0 where
  pub idle : IsIdle d.ticket
  pub agree : AllByRecursion (λ e. Agrees e.1) es
  pub held : AllByRecursion (λ e. IsHeld d.pool e.1.ticket) es
  pub numbers : IsDistinct nat_eq (map ticket_number (values_of es))
  pub adds_up : AddsUp d.pool
  pub promised : d.pool.promised + sum_by drawn_by (values_of es) ≡ sum_by reserved_by (values_of es)
  pub out : d.pool.out ≡ sum_by drawn_by (values_of es)

-- a desk that serves nobody has what the tenant's ticket counts on
pub record CanServe (d : Desk) (t : Tenant) : Type 0 where
  pub idle : IsIdle d.ticket
  pub agrees : Agrees t
  pub promised : t.ticket.reserved ≤ d.pool.promised + t.ticket.drawn
  pub out : t.ticket.drawn ≤ d.pool.out

-- The desk serves nobody again. The ticket's number and reservation stay, and what it has drawn or given
-- back counts on both sides.
pub record Leaves (d : Desk) (t : Tenant) (e : Desk) (u : Tenant) : Type 0 where
  pub idle : IsIdle e.ticket
  pub agrees : Agrees u
  pub number : u.ticket.number ≡ t.ticket.number
  pub reserved : u.ticket.reserved ≡ t.ticket.reserved
  pub promised : e.pool.promised + u.ticket.drawn ≡ d.pool.promised + t.ticket.drawn
  pub free : e.pool.free + u.ticket.drawn ≡ d.pool.free + t.ticket.drawn
  pub out : e.pool.out + t.ticket.drawn ≡ d.pool.out + u.ticket.drawn
  pub reservations : e.pool.reservations ≡ d.pool.reservations

-- the pool has what the tenant's ticket counts on, and so many segments for it, one at least
pub record CanReserve (p : PoolState) (t : Tenant) (wanted : ℕ) : Type 0 where
  pub agrees : Agrees t
  pub held : IsHeld p t.ticket
  pub adds_up : AddsUp p
  pub promised : t.ticket.reserved ≤ p.promised + t.ticket.drawn
  pub some : 1 ≤ wanted
  pub enough : p.promised + wanted ≤ p.free + t.ticket.reserved

-- The tenant has the quota, and its ticket reserves what it takes with it. The ticket's number and what it
-- has drawn stay, and of the pool only what is promised and this one reservation have changed.
pub record Reserves (p : PoolState) (t : Tenant) (quota : ℕ) (q : PoolState) (u : Tenant) : Type 0 where
  pub machine : u.machine ≡ resized quota t.machine
  pub agrees : Agrees u
  pub reserved : u.ticket.reserved ≡ reservation t.machine quota
  pub number : u.ticket.number ≡ t.ticket.number
  pub drawn : u.ticket.drawn ≡ t.ticket.drawn
  pub promised : q.promised + t.ticket.reserved ≡ p.promised + u.ticket.reserved
  pub free : q.free ≡ p.free
  pub out : q.out ≡ p.out
  pub reservations : q.reservations ≡ slice_set p.reservations t.ticket.number u.ticket.reserved
  pub held : IsHeld q u.ticket
  pub adds_up : AddsUp q

-- The desk serves nobody again. All that the tenant had drawn is free, and nothing is reserved under the
-- number of its ticket.
pub record LeavesNone (d : Desk) (t : Tenant) (e : Desk) : Type 0 where
  pub idle : IsIdle e.ticket
  pub promised : e.pool.promised + t.ticket.reserved ≡ d.pool.promised + t.ticket.drawn
  pub free : e.pool.free ≡ d.pool.free + t.ticket.drawn
  pub out : e.pool.out + t.ticket.drawn ≡ d.pool.out
  pub reservations : e.pool.reservations ≡ slice_set d.pool.reservations t.ticket.number 0
  pub adds_up : AddsUp d.pool → IsHeld d.pool t.ticket → AddsUp e.pool
