use Rattle.std.specs.Prelude.{◌≡◌, length}
use Rattle.cell_arena.specs.Loan.{Settles}
use Rattle.etcd_model.specs.Leases.{run_out, tick}
use Rattle.etcd_model.specs.Store.{kept_store}
use Rattle.model_laws.specs.Leases.{ends}
use Rattle.tenant_machine.specs.Tenants.{tenant}
use Rattle.tenant_machine.proofs.machine.Machine.tick.Given as goal

abbrev pub invariant-ending : goal.invariant-ending
invariant-ending g l =
    let loan = g.S.Segments.loan in
    record {
      due : l.self.leases.due ≡ run_out l.self.moment l.self.leases.leases;
      ends : ends (tenant l.self) ≡ tick kept_store (tenant l.fn.self) l.moment;
      settles : Settles l.fn.self.store.share (loan l.fn.segments) l.self.store.share (loan l.segments);
    }

abbrev pub decreases-ending : goal.decreases-ending
decreases-ending g l = length l.self.leases.due
