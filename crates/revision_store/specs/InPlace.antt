-- Rows that lie in their cells.
use Rattle.std.specs.Prelude.{ℕ, Bool, List, map, if◌then◌else◌, ◌&&◌, not, is_none}
use Rattle.etcd_types.specs.declared.key_value.KeyValue.{KeyValue}
use Rattle.etcd_types.specs.declared.kv.RangeReq.{RangeReq}
use Rattle.etcd_model.specs.Ranges.{without_value}
use Rattle.etcd_model.specs.Reads.{revision_read, unreadable}
use Rattle.key_index.specs.Links.{Cells}
use Rattle.range_rows.specs.Answering.{is_by_key}
use Rattle.revision_store.specs.Ranging.{rows_of}
use Rattle.revision_store.specs.Stored.{StoreState, reads}

-- a row as it is shown, without its value where keys alone are asked for
abbrev pub row_shown : Bool → KeyValue → KeyValue
row_shown keys_only row = if keys_only then without_value row else row

-- the rows under some cells, as they are shown
abbrev pub in_place : Cells → Bool → List ℕ → List KeyValue
in_place cells keys_only cs = map (row_shown keys_only) (rows_of cells cs)

-- a range's rows are found where it gives some in the order of their keys, at a revision that can be read
abbrev pub is_found : StoreState → RangeReq → Bool
is_found store q = not q.count_only && (is_by_key q
    && is_none (unreadable (reads store) (revision_read (reads store) q.revision)))
