use Rattle.std.specs.Prelude.{◌≡◌, ◌++◌, Some, length, map, take}
use Rattle.etcd_model.specs.Changes.{since}
use Rattle.key_index.specs.Links.{change_at}
use Rattle.model_laws.specs.Pending.{rows_next}
use Rattle.revision_store.specs.Stored.{cells}
use Rattle.tenant_machine.specs.Keyed.{AreKeysOf, IsNext}
use Rattle.tenant_machine.proofs.attaching.follow.Given as goal

abbrev pub invariant-loop-cell : goal.invariant-loop-cell
invariant-loop-cell l = record {
  shown : map (change_at (cells l.store)) (l.yielded ++ l.cell-iterator) ≡ map Some (since l.fn.revision l.store.kept.changes);
  keys : (next : IsNext l.store l.fn.leases l.fn.revision) → AreKeysOf (cells l.store) l.leases.attachments (rows_next next.old (take (length l.yielded) next.changes));
  others : l.leases ≡ record l.fn.leases { attachments = l.leases.attachments };
}
