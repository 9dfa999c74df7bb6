-- A log while changes are appended to it, one after another.
use Rattle.std.specs.Prelude.{◌≡◌, ℕ, ◌+◌, ◌≤◌, ◌++◌, List, map}
use Rattle.std.specs.List.{AllByRecursion}
use Rattle.revision_store.specs.Recorded.{cells_of, leases_of}
use Rattle.revision_store.specs.Logged.{LogState, AllStay}
use Rattle.revision_store.specs.Plans.{AreFresh, IsOf, costs_in, recorded_in}
use Rattle.revision_store.specs.declared.plan.Write.{Write}

-- some writes can be recorded at a revision, one after another: none is before what is there, each
-- is later than what its key has, and there are cells for all
pub record CanAppend (log : LogState) (revision : ℕ) (writes : List Write) : Type 0 where
  pub of : AllByRecursion (IsOf (cells_of log.records) revision) writes
  pub later : AllByRecursion (λ x. x.revision ≤ revision) log.changes
  pub fresh : AreFresh (cells_of log.records) revision log.changes writes
  pub space : costs_in (cells_of log.records) writes ≤ log.free

-- What they leave: their changes stand after those that were there, which stay under their cells,
-- the cells that they cost are taken, and the leases are as they were.
pub record Appends (old new : LogState) (revision : ℕ) (writes : List Write) : Type 0 where
  pub changes : new.changes ≡ old.changes ++ map (recorded_in (cells_of old.records) revision) writes
  pub stay : AllStay (cells_of old.records) (cells_of new.records)
  pub free : new.free + costs_in (cells_of old.records) writes ≡ old.free
  pub leases : leases_of new.records ≡ leases_of old.records
  pub lease_cells : new.lease_cells ≡ old.lease_cells

-- all writes but these are recorded
pub record IsAppending (old now : LogState) (revision : ℕ) (writes ahead : List Write) : Type 0 where
  pub of : AllByRecursion (IsOf (cells_of old.records) revision) ahead
  pub fresh : AreFresh (cells_of old.records) revision now.changes ahead
  pub later : AllByRecursion (λ x. x.revision ≤ revision) now.changes
  pub changes :
      now.changes ++ map (recorded_in (cells_of old.records) revision) ahead
      ≡ old.changes ++ map (recorded_in (cells_of old.records) revision) writes
  pub stay : AllStay (cells_of old.records) (cells_of now.records)
  pub costs : costs_in (cells_of old.records) ahead ≤ now.free
  pub free : now.free + costs_in (cells_of old.records) writes
      ≡ old.free + costs_in (cells_of old.records) ahead
  pub leases : leases_of now.records ≡ leases_of old.records
  pub lease_cells : now.lease_cells ≡ old.lease_cells
