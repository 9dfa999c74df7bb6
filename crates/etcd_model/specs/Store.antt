-- A store that compacts: what it keeps, and what it answers.
-- etcd: maintenance, "history compaction": what is superseded before the compaction is dropped.
use Rattle.std.specs.Prelude.{ℕ, ◌+◌, ◌≤◌, List, [], ◌∷◌, map, filter, sum_by, nat_lt, None, if◌then◌else◌}
use Rattle.std.specs.List.{AllByRecursion}
use Rattle.etcd_model.specs.History.{Change}
use Rattle.etcd_model.specs.Interval.{is_in, every_key}
use Rattle.etcd_model.specs.Kept.{cost, cost_delete}
use Rattle.etcd_model.specs.Reads.{Reads}
use Rattle.etcd_model.specs.Watches.{is_ahead}
use Rattle.etcd_model.specs.Tenant.{Asks}
use Rattle.etcd_model.specs.Changes.{Recorded, OwnRow, Rises, change_of, entry_of, record_revision, live}
use Rattle.etcd_model.specs.Changes.{rows, kept}

-- the current revision, that of the last compaction, and the changes that are kept, in order
pub record Store : Type 0 where
  pub current : ℕ
  pub compacted : ℕ
  pub changes : List Recorded

-- after some changes that make up one revision; no change makes none
abbrev pub after : Store → List Change → Store
after s [] = s
after s (c ∷ cs) = record s {
  current = s.current + 1;
  changes = record_revision (s.current + 1) s.changes (c ∷ cs);
}

abbrev pub compact : Store → ℕ → Store
compact s r = record s { compacted = r; changes = kept r s.changes }

-- what can be read
abbrev pub reads_of : Store → Reads
reads_of s = record {
  current = s.current;
  compacted = s.compacted;
  row = λ key. live key s.current s.changes;
  rows = λ key end. rows (is_in key end) s.current s.changes;
  rows_at = λ key end r. if nat_lt r s.compacted then [] else rows (is_in key end) r s.changes;
}

-- the cells of the records
abbrev pub record_cells : List Recorded → ℕ
record_cells xs = sum_by (λ x. cost (change_of x)) xs

-- room for a delete of each live key
abbrev pub reserved_cells : ℕ → List Recorded → ℕ
reserved_cells r xs = sum_by (λ row. cost_delete row.key) (rows every_key r xs)

abbrev pub counted_cells : Store → ℕ
counted_cells s = record_cells s.changes + reserved_cells s.current s.changes

-- a store as appends and compactions make it
pub record IsStore (s : Store) : Type 0 where
  pub rises : Rises s.changes
  pub own : AllByRecursion OwnRow s.changes
  pub up : AllByRecursion (λ x. x.revision ≤ s.current) s.changes
  pub compacted : s.compacted ≤ s.current

-- what such a store answers
abbrev pub kept_store : Asks Store
kept_store = record {
  look = λ s pending. reads_of (after s pending);
  after = after;
  compact = compact;
  cells = counted_cells;
  ahead = λ s w. if nat_lt w.next s.compacted then [] else filter (is_ahead w) (map entry_of s.changes);
  row_at = λ s key r. if nat_lt r s.compacted then None else live key r s.changes;
}
