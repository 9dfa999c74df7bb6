use Rattle.std.proofs.Common.{◌≡◌, drop}
use Rattle.etcd_model.specs.Operations.{ops_refusal}
use Rattle.revision_store.specs.Stored.{reads}
use Rattle.txn_plan.proofs.refusal.ops_refusal.Given as goal

abbrev pub invariant-loop-op : goal.invariant-loop-op
invariant-loop-op l = ops_refusal l.leases.leases (reads l.store) (drop l.op-index l.ops) ≡ ops_refusal l.leases.leases (reads l.store) l.ops
