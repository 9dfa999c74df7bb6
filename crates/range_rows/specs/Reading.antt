-- What of its rows a range reads.
use Rattle.std.specs.Prelude.{◌≡◌, Bool, true, false, not, ◌||◌, List, length, Option, Some, None, if◌then◌else◌}
use Rattle.etcd_types.specs.declared.key_value.KeyValue.{KeyValue}
use Rattle.etcd_types.specs.declared.kv.RangeReq.{RangeReq}
use Rattle.etcd_types.specs.declared.kv.SortTarget.{SortTarget}
use Rattle.etcd_types.specs.declared.kv.SortTarget.TheVariants.{Value}
use Rattle.etcd_model.specs.Ranges.{is_wanted, without_value}
use Rattle.range_rows.specs.Answering.{given, is_by_key}

-- there is a row, and it passes the filters
abbrev pub row_passes : RangeReq → Option KeyValue → Bool
row_passes q None = false
row_passes q (Some row) = is_wanted q row

abbrev pub is_value : SortTarget → Bool
is_value Value = true
is_value _ = false

-- the values are given, or rows are sorted by them
abbrev pub needs_values : Bool → SortTarget → Bool
needs_values keys_only target = not keys_only || is_value target

-- the row as it is read
abbrev pub read : RangeReq → KeyValue → KeyValue
read q row = if needs_values q.keys_only q.sort_target then row else without_value row

-- no row is read to be cut off again: in the order of their keys, each of these is given
abbrev pub AllAreGiven : RangeReq → List KeyValue → Type 0
AllAreGiven q rows = is_by_key q ≡ true → length (given q rows) ≡ length rows
