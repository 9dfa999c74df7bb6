-- The rows under some cells.
use Rattle.std.specs.Prelude.{◌≡◌, ℕ, pos, Bool, List, map, filter, filter_map}
use Rattle.etcd_types.specs.declared.key_value.KeyValue.{KeyValue}
use Rattle.etcd_types.specs.declared.kv.RangeReq.{RangeReq}
use Rattle.etcd_types.specs.declared.reply.OpReply.TheVariants.{Range}
use Rattle.etcd_model.specs.Ranges.{range_reply}
use Rattle.key_index.specs.Links.{Cells}
use Rattle.range_rows.specs.Answering.{shown}
use Rattle.range_rows.specs.Reading.{AllAreGiven, row_passes}
use Rattle.revision_store.specs.Pending.{AreRows}
use Rattle.revision_store.specs.Stored.{row_at}

-- the rows under some cells
abbrev pub rows_of : Cells → List ℕ → List KeyValue
rows_of cells cs = filter_map (row_at cells) cs

-- those of some cells whose rows pass the filters
abbrev pub wanted_cells : Cells → RangeReq → List ℕ → List ℕ
wanted_cells cells q cs = filter (λ c. row_passes q (row_at cells c)) cs

-- Some cells are those of the rows that a range gives, where all cells are those of the rows of its interval: with
-- so many rows there, and with more than are given or not, they are its answer at any revision.
pub record AreGiven (cells : Cells) (q : RangeReq) (all found : List ℕ) (count : ℕ) (more : Bool) : Type 0 where
  pub rows : AreRows cells found
  pub given : AllAreGiven q (rows_of cells found)
  pub answer : (revision : ℕ) → Range (pos revision) count (map (shown q) (rows_of cells found)) more ≡ range_reply revision q (rows_of cells all)
