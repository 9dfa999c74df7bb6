-- The rows of an interval in which puts are pending: those under some cells, and those of the puts.
use Rattle.std.specs.Prelude.{◌≡◌, ℕ, ◌==◌, ◌++◌, ◌&&◌, ◌||◌, Bool, not, List, filter}
use Rattle.std.specs.List.{AllByRecursion, list_any}
use Rattle.std.specs.Str.{bytes_eq}
use Rattle.std.specs.declared.cmp.Ordering.{Ordering}
use Rattle.etcd_types.specs.declared.key_value.KeyValue.{KeyValue}
use Rattle.etcd_types.specs.declared.kv.RangeReq.{RangeReq}
use Rattle.etcd_model.specs.Order.{key_cmp}
use Rattle.key_index.specs.Links.{Cells}
use Rattle.range_rows.specs.Answering.{is_by_key, wants_all}
use Rattle.revision_store.specs.Plans.{key_at}

-- cells by the keys of their changes
abbrev pub by_cell : Cells → ℕ → ℕ → Ordering
by_cell cells c d = key_cmp (key_at cells c) (key_at cells d)

-- those of some cells whose keys are not this one
abbrev pub cells_without : Cells → List ℕ → List ℕ → List ℕ
cells_without cells key cs = filter (λ c. not (bytes_eq key (key_at cells c))) cs

-- some row is of the key
abbrev pub is_put_to : List KeyValue → List ℕ → Bool
is_put_to puts key = list_any (λ row. bytes_eq row.key key) puts

-- those of some cells whose keys none of some rows has
abbrev pub unput_cells : Cells → List KeyValue → List ℕ → List ℕ
unput_cells cells puts cs = filter (λ c. not (is_put_to puts (key_at cells c))) cs

-- those of some rows whose keys none of some others has
abbrev pub unput_rows : List KeyValue → List KeyValue → List KeyValue
unput_rows puts rows = filter (λ row. not (is_put_to puts row.key)) rows

-- some rows, with those of puts in the places of those of their keys, and in no order
abbrev pub overlaid : List KeyValue → List KeyValue → List KeyValue
overlaid puts rows = unput_rows puts rows ++ puts

-- the row is of a key that was created with it
abbrev pub is_created : KeyValue → Bool
is_created row = row.create_revision == row.mod_revision

-- of some puts' rows each is created with its key where none of some rows is of that key, and there alone
abbrev pub TellKeys : List KeyValue → List KeyValue → Type 0
TellKeys puts rows = AllByRecursion (λ row. is_created row ≡ not (is_put_to rows row.key)) puts

-- a range that only counts, or gives rows as their keys ascend and has no filter
abbrev pub needs_first : RangeReq → Bool
needs_first q = q.count_only || (wants_all q && is_by_key q)
