-- What compaction keeps, and what it costs in cells.
-- etcd: maintenance, "history compaction" and "space quota".
use Rattle.std.specs.Prelude.{ℕ, ◌+◌, Bool, ◌&&◌, ◌||◌, List, length, filter, sum_by, nat_le, nat_eq, Option}
use Rattle.std.specs.Prelude.{Some, None, false}
use Rattle.std.specs.Int.{div_ceil}
use Rattle.etcd_model.specs.History.{History, Change, Set, Del, Entry, key_of, is_put, current, entries}
use Rattle.etcd_model.specs.History.{last_change, history_rows}
use Rattle.etcd_model.specs.Interval.{every_key}

-- the entry is a put, and the last change that was looked up
abbrev pub is_last_put : Entry → Option Entry → Bool
is_last_put e None = false
is_last_put e (Some last) = nat_eq last.revision e.revision && is_put last.change

-- the changes from the compaction on, and of each key with no change there its last one before, if that is a
-- put
abbrev pub is_kept : History → Entry → Bool
is_kept H e = nat_le H.compacted e.revision || is_last_put e (last_change H (key_of e.change) H.compacted)

abbrev pub kept_entries : History → List Entry
kept_entries H = filter (is_kept H) (entries H)

-- a record is one cell, and one for each 48 bytes of its key and value
abbrev pub cost_put : List ℕ → List ℕ → ℕ
cost_put key value = 1 + div_ceil (length key + length value) 48

abbrev pub cost_delete : List ℕ → ℕ
cost_delete key = 1 + div_ceil (length key) 48

abbrev pub cost : Change → ℕ
cost (Set key value lease) = cost_put key value
cost (Del key) = cost_delete key

-- room for a delete of each live key
abbrev pub reserved : History → ℕ
reserved H = sum_by (λ row. cost_delete row.key) (history_rows H every_key (current H))

-- the cells of what is kept, and that room
abbrev pub history_cells : History → ℕ
history_cells H = sum_by (λ e. cost e.change) (kept_entries H) + reserved H
