use Rattle.std.proofs.Common.{ap, subst, sym, arith}
use Rattle.etcd_model.specs.Store.{Store, record_cells}
use Rattle.model_laws.proofs.SpaceLaws.{fewer_records}
use Rattle.tenant_machine.specs.Plans.{FitsCompaction}
use Rattle.tenant_machine.proofs.Counting.{machine_after_compaction}
use Rattle.tenant_machine.proofs.KeepingLeases.{keeps_after_compaction}
use Rattle.tenant_machine.proofs.machine.Machine.compact.Goals as goal

pub overflow_sub-freed : goal.overflow_sub-freed
overflow_sub-freed g c =
    let store = c.self.inside.store in
    let fewer = fewer_records c.args.revision store.kept.changes in
    omega (arith, fewer, ap (λ (s : Store). record_cells s.changes) c.compact.ensures.kept, c.compact.ensures.lease_cells, c.filled_cells.ensures, c.filled_cells-before.ensures)

pub invariant_of-self : goal.invariant_of-self
invariant_of-self g c =
    let store = c.self.inside.store in
    let fits = subst (λ m. FitsCompaction m.store c.args.revision) (sym c.self.view_is) c.requires.fits in
    let fewer = fewer_records c.args.revision store.kept.changes in (
      machine_after_compaction store c.compact.new.self c.self.inside.leases c.self.inside.moment c.self.inside.quota c.args.revision _ c.self.invariant.0 c.use_invariant.ensures.kept fits c.compact.ensures.kept c.compact.ensures.lease_cells c.compact.ensures.settles.reserved c.compact.ensures.settles.rooms
          (omega (arith, fewer, c.self.invariant.0.used, ap (λ (s : Store). record_cells s.changes) c.compact.ensures.kept, c.compact.ensures.lease_cells, c.filled_cells.ensures, c.filled_cells-before.ensures, c.from.ensures))
          (keeps_after_compaction store c.compact.new.self c.self.inside.leases c.self.inside.moment c.args.revision c.use_invariant.ensures.kept c.self.invariant.0.keeps c.compact.ensures.kept fits.within c.compact.ensures.rows c.compact.ensures.leases),
      c.cut.ensures.agree store c.args.revision (record { above = omega (arith, fits.above); kept = c.compact.ensures.kept; cells = c.compact.ensures.cells }) c.self.invariant.1,
    )
