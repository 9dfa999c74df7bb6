-- What can be read of a store, with some changes pending.
-- etcd: API guarantees, "snapshot isolation": a read of a revision is of the store as it was then.
use Rattle.std.specs.Prelude.{ℕ, zero, suc, ℤ, pos, negsuc, List, Option, Some, None, nat_lt, if◌then◌else◌}
use Rattle.etcd_types.specs.declared.key_value.KeyValue.{KeyValue}
use Rattle.etcd_types.specs.declared.refusal.Refusal.{Refusal}
use Rattle.etcd_types.specs.declared.refusal.Refusal.TheVariants.{Compacted, Future}
use Rattle.etcd_model.specs.History.{Change}

-- the newest row of a key, the newest rows of an interval, and its rows at a revision, none below the
-- compaction
pub record Reads : Type 0 where
  pub current : ℕ
  pub compacted : ℕ
  pub row : List ℕ → Option KeyValue
  pub rows : List ℕ → List ℕ → List KeyValue
  pub rows_at : List ℕ → List ℕ → ℕ → List KeyValue

-- what can be read once some changes are one more revision
abbrev pub Look : Type 0
Look = List Change → Reads

-- the rows that a range reads: the newest for a revision of 0 or below
abbrev pub rows_read : Reads → List ℕ → List ℕ → ℤ → List KeyValue
rows_read R key end (negsuc n) = R.rows key end
rows_read R key end (pos zero) = R.rows key end
rows_read R key end (pos (suc n)) = R.rows_at key end (suc n)

-- the revision that is read
abbrev pub revision_read : Reads → ℤ → ℕ
revision_read R (negsuc n) = R.current
revision_read R (pos zero) = R.current
revision_read R (pos (suc n)) = suc n

-- why there is no read at a revision
abbrev pub unreadable : Reads → ℕ → Option Refusal
unreadable R r =
    if nat_lt r R.compacted then Some Compacted
    else if nat_lt R.current r then Some Future
    else None
