use Rattle.std.proofs.Common.{◌≡◌, drop, map}
use Rattle.revision_store.specs.Plans.{key_at}
use Rattle.revision_store.specs.Recorded.{cells_of}
use Rattle.revision_store.specs.Pending.{is_erased}
use Rattle.revision_store.proofs.pending_deletes.is_erased.Given as goal

abbrev pub invariant-loop-delete : goal.invariant-loop-delete
invariant-loop-delete l = is_erased (map (λ d. d.now) (drop l.delete-index l.deletes)) (key_at (cells_of l.log.records) l.cell) ≡ is_erased (map (λ d. d.now) l.deletes) (key_at (cells_of l.log.records) l.cell)
