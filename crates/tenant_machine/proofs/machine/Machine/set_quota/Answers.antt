use Rattle.std.proofs.Common.{◌*◌, ap, sym, subst, arith}
use Rattle.revision_store.specs.Stored.{StoreState, cells}
use Rattle.tenant_machine.specs.Tenants.{IsMachine}
use Rattle.tenant_machine.proofs.Reserved.{requota_machine, takes_drawn, takes_quota, takes_used}
use Rattle.watch_sync.proofs.Committed.{all_as_before}
use Rattle.tenant_machine.proofs.machine.Machine.set_quota.Goals as goal

pub overflow_mul-cells : goal.overflow_mul-cells
overflow_mul-cells c =
    let within = rw (← c.self.view_is) at c.reservation-cells.ensures.within in
    omega (arith, within, c.requires.quota, c.self.invariant.0.few)

pub set_cells-requires-clause-can : goal.set_cells-requires-clause-can
set_cells-requires-clause-can c =
    let in' = c.self.inside in
    let takes = rw (← c.self.view_is) at c.reservation-cells.ensures.segments in
    let within = rw (← c.self.view_is) at c.reservation-cells.ensures.within in
    let rooms = rw (← c.self.view_is) at c.requires.rooms in
    record {
      rooms = omega (arith, within, rooms);
      drawn = omega (arith, takes_drawn in'.cluster in'.store in'.leases in'.watchers in'.moment in'.quota c.args.quota c.reservation-cells.result c.self.invariant.0 takes);
    }

pub invariant_of-self : goal.invariant_of-self
invariant_of-self c =
    let in' = c.self.inside in
    let takes = rw (← c.self.view_is) at c.reservation-cells.ensures.segments in
    let within = rw (← c.self.view_is) at c.reservation-cells.ensures.within in
    let rooms = rw (← c.self.view_is) at c.requires.rooms in
    let set = c.set_cells.ensures.cells in (
      subst (λ (s : StoreState). IsMachine s in'.leases in'.moment (record in'.quota { cells = c.args.quota })) (sym set)
          (requota_machine in'.store in'.leases in'.moment in'.quota (c.reservation-cells.result * 64) c.args.quota c.self.invariant.0 (omega arith) (omega (arith, within, rooms))
          (takes_used in'.cluster in'.store in'.leases in'.watchers in'.moment in'.quota c.args.quota c.reservation-cells.result c.self.invariant.0 takes)
          (takes_quota in'.cluster in'.store in'.leases in'.watchers in'.moment in'.quota c.args.quota c.reservation-cells.result c.self.invariant.0 takes)),
      all_as_before in'.store c.set_cells.new.self in'.watchers (ap (λ (s : StoreState). s.kept) set) (ap cells set) c.self.invariant.1,
    )
