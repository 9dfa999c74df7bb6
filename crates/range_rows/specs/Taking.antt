-- The first rows of an order, where no more of them are held than are to be given.
use Rattle.std.specs.Prelude.{◌≡◌, ℕ, ◌+◌, ◌*◌, ◌++◌, List, min, take}
use Rattle.std.specs.declared.cmp.Ordering.{Ordering}
use Rattle.std.specs.List.{IsDistinct}
use Rattle.std.specs.Ordering.{eq_by_cmp}
use Rattle.etcd_types.specs.declared.key_value.KeyValue.{KeyValue}
use Rattle.etcd_types.specs.declared.kv.RangeReq.{RangeReq}
use Rattle.etcd_model.specs.Order.{by_key, in_order}
use Rattle.etcd_model.specs.Ranges.{row_cmp}

-- how two rows stand to each other in the order of a range
abbrev pub row_order : RangeReq → KeyValue → KeyValue → Ordering
row_order q = row_cmp q.sort_order q.sort_target

-- no two rows tie in it
abbrev pub NoneTies : RangeReq → List KeyValue → Type 0
NoneTies q rows = IsDistinct (eq_by_cmp (row_order q)) rows

-- so many rows, the first ones in it
abbrev pub first_of : RangeReq → ℕ → List KeyValue → List KeyValue
first_of q limit rows = take limit (in_order (row_order q) rows)

-- of some rows enough are left: with any others they give the same first ones, and tie no more than before
pub record AreEnough (q : RangeReq) (limit : ℕ) (old new : List KeyValue) : Type 0 where
  pub first : (more : List KeyValue) → first_of q limit (new ++ more) ≡ first_of q limit (old ++ more)
  pub apart : (more : List KeyValue) → NoneTies q (old ++ more) → NoneTies q (new ++ more)

-- no two rows are of one key
abbrev pub HaveOwnKeys : List KeyValue → Type 0
HaveOwnKeys rows = IsDistinct (eq_by_cmp by_key) rows

-- how many of some rows are held at most while the first `limit` of them are looked for: a new one, and
-- those that are not yet cut
abbrev pub most_held : ℕ → ℕ → ℕ
most_held limit rows = min rows (2 * limit + 1)
