-- Ranges whose rows are found.
use Rattle.std.proofs.Common.{◌≡◌, Bool, true, false, refl, sym}
use Rattle.std.specs.Prelude.{◌&&◌, not, Option, Some, None, is_none}
use Rattle.std.proofs.lemmas.Bool.{and_parts, true≢false}
use Rattle.etcd_types.specs.declared.kv.RangeReq.{RangeReq}
use Rattle.etcd_types.specs.declared.refusal.Refusal.{Refusal}
use Rattle.etcd_model.specs.Reads.{revision_read, unreadable}
use Rattle.range_rows.specs.Answering.{is_by_key}
use Rattle.revision_store.specs.InPlace.{is_found}
use Rattle.revision_store.specs.Stored.{StoreState, reads}

none_there : (o : Option Refusal) → is_none o ≡ true → o ≡ None
none_there None h = refl
none_there (Some r) h = absurd (true≢false (sym h))

module _ (store : StoreState) (q : RangeReq) (found : is_found store q ≡ true) where
  abbrev lacks : Option Refusal
  lacks = unreadable (reads store) (revision_read (reads store) q.revision)

  -- their revision can be read
  pub found_readable : lacks ≡ None
  found_readable = none_there lacks (and_parts (is_by_key q) (is_none lacks) (and_parts (not q.count_only) (is_by_key q && is_none lacks) found).1).1
