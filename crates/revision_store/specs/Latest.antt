-- The rows of an interval, found by the changes that left them.
use Rattle.std.specs.Prelude.{◌≡◌, ◌==◌, ◌&&◌, ℕ, Bool, true, false, not, List, filter_map, Option, Some, None, IfSome, option_and_then}
use Rattle.std.specs.Prelude.{if◌then◌else◌}
use Rattle.etcd_types.specs.declared.key_value.KeyValue.{KeyValue}
use Rattle.etcd_types.specs.declared.kv.RangeReq.{RangeReq}
use Rattle.etcd_types.specs.declared.kv.SortOrder.{SortOrder}
use Rattle.etcd_types.specs.declared.kv.SortOrder.TheVariants.{Descend}
use Rattle.etcd_types.specs.declared.kv.SortTarget.{SortTarget}
use Rattle.etcd_types.specs.declared.kv.SortTarget.TheVariants.{Mod}
use Rattle.etcd_model.specs.Changes.{Recorded, live}
use Rattle.key_index.specs.Links.{Cells, change_at}
use Rattle.range_rows.specs.Answering.{wants_all}

-- the row, if a revision changed it last
abbrev pub row_from : ℕ → KeyValue → Option KeyValue
row_from revision row = if row.mod_revision == revision then Some row else None

-- the row that a change left to its key, if the key lies in an interval and shows that row at a revision
abbrev pub row_left_by : (List ℕ → Bool) → ℕ → List Recorded → Recorded → Option KeyValue
row_left_by interval r xs x = if interval x.key then option_and_then (row_from x.revision) (live x.key r xs) else None

-- the same of the change under a cell
abbrev pub row_left_at : Cells → (List ℕ → Bool) → ℕ → List Recorded → ℕ → Option KeyValue
row_left_at cells interval r xs c = option_and_then (row_left_by interval r xs) (change_at cells c)

-- the rows that the changes under some cells left
abbrev pub rows_left_at : Cells → (List ℕ → Bool) → ℕ → List Recorded → List ℕ → List KeyValue
rows_left_at cells interval r xs cs = filter_map (row_left_at cells interval r xs) cs

-- a delete left no row
abbrev pub LeavesNone : (List ℕ → Bool) → ℕ → List Recorded → Recorded → Type 0
LeavesNone interval r xs x = x.row ≡ None → row_left_by interval r xs x ≡ None

-- if the change under a cell is one
abbrev pub LeavesNoneAt : Cells → (List ℕ → Bool) → ℕ → List Recorded → ℕ → Type 0
LeavesNoneAt cells interval r xs c = IfSome (change_at cells c) (LeavesNone interval r xs)

-- the order is that of the last changes, the last one first
abbrev pub descends_by_change : SortOrder → SortTarget → Bool
descends_by_change Descend Mod = true
descends_by_change _ _ = false

-- a range that gives rows in that order, and has no filter
abbrev pub gives_last : RangeReq → Bool
gives_last q = not q.count_only && (wants_all q && descends_by_change q.sort_order q.sort_target)

-- the row that a change left has its revision
abbrev pub OwnRevision : Recorded → Type 0
OwnRevision x = IfSome x.row (λ row. row.mod_revision ≡ x.revision)
