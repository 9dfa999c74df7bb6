-- What a range gives of the rows of its interval, in steps.
use Rattle.std.specs.Prelude.{◌≡◌, ℕ, ◌≤◌, ◌&&◌, pos, Bool, true, false, List, length, map, filter, take}
use Rattle.std.specs.Prelude.{if◌then◌else◌}
use Rattle.std.specs.List.Sorted.{IsStrictlySortedBy}
use Rattle.std.specs.Ordering.{int_eq}
use Rattle.etcd_types.specs.declared.key_value.KeyValue.{KeyValue}
use Rattle.etcd_types.specs.declared.kv.RangeReq.{RangeReq}
use Rattle.etcd_types.specs.declared.kv.SortOrder.{SortOrder}
use Rattle.etcd_types.specs.declared.kv.SortOrder.TheVariants.{Unsorted, Ascend}
use Rattle.etcd_types.specs.declared.kv.SortTarget.{SortTarget}
use Rattle.etcd_types.specs.declared.kv.SortTarget.TheVariants.{Key}
use Rattle.etcd_model.specs.Order.{in_order, by_key}
use Rattle.etcd_model.specs.Ranges.{is_wanted, row_cmp, limited, without_value, found}

-- b says whether a row of these revisions passes the filters
abbrev pub SaysWanted : RangeReq → ℕ → ℕ → Bool → Type 0
SaysWanted q create_revision mod_revision b = (row : KeyValue) → row.create_revision ≡ create_revision
    → row.mod_revision ≡ mod_revision → b ≡ is_wanted q row

-- it has no filter
abbrev pub wants_all : RangeReq → Bool
wants_all q = int_eq q.min_mod_revision (pos 0) && int_eq q.max_mod_revision (pos 0)
    && int_eq q.min_create_revision (pos 0) && int_eq q.max_create_revision (pos 0)

-- the order is that of ascending keys
abbrev pub ascends_by_key : SortOrder → SortTarget → Bool
ascends_by_key Unsorted Key = true
ascends_by_key Ascend Key = true
ascends_by_key _ _ = false

abbrev pub is_by_key : RangeReq → Bool
is_by_key q = ascends_by_key q.sort_order q.sort_target

-- of at most so many rows the first n are given
abbrev pub IsLimit : RangeReq → ℕ → ℕ → Type 0
IsLimit q count n = (rows : List KeyValue) → length rows ≤ count → limited q.limit rows ≡ take n rows

-- b says whether there are more rows than are given, where so many pass the filters
abbrev pub SaysMore : RangeReq → ℕ → Bool → Type 0
SaysMore q wanted b = (all : List KeyValue) → IsStrictlySortedBy by_key all
    → length (filter (is_wanted q) all) ≡ wanted → b ≡ (found q all).more

-- the row as it is given
abbrev pub shown : RangeReq → KeyValue → KeyValue
shown q row = if q.keys_only then without_value row else row

-- what is given of the rows that pass the filters
abbrev pub given : RangeReq → List KeyValue → List KeyValue
given q wanted = map (shown q) (limited q.limit (in_order (row_cmp q.sort_order q.sort_target) wanted))
