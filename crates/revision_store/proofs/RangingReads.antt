-- The rows that a range reads, at a revision that can be read.
use Rattle.std.proofs.Common.{◌≡◌, ℕ, zero, suc, List, [], Option, Some, None, Bool, true, false, IsSome, IfSome, refl, sym, ap, ◌∙◌, if◌then◌else◌}
use Rattle.std.specs.Prelude.{ℤ, pos, negsuc, nat_lt}
use Rattle.etcd_types.specs.declared.key_value.KeyValue.{KeyValue}
use Rattle.etcd_types.specs.declared.refusal.Refusal.{Refusal}
use Rattle.etcd_types.specs.declared.refusal.Refusal.TheVariants.{Compacted, Future}
use Rattle.etcd_types.specs.declared.kv.RangeReq.{RangeReq}
use Rattle.etcd_model.specs.Changes.{rows}
use Rattle.etcd_model.specs.Interval.{is_in}
use Rattle.etcd_model.specs.Reads.{revision_read, rows_read, unreadable}
use Rattle.etcd_model.specs.Store.{Store, reads_of}
use Rattle.range_rows.specs.Answering.{SaysWanted}
use Rattle.range_rows.specs.Reading.{row_passes}

-- they are those at the revision that is read
rows_readable : (s : Store) (key end : List ℕ) (revision : ℤ) → unreadable (reads_of s) (revision_read (reads_of s) revision) ≡ None → rows_read (reads_of s) key end revision ≡ rows (is_in key end) (revision_read (reads_of s) revision) s.changes
rows_readable s key end (negsuc n) h = refl
rows_readable s key end (pos zero) h = refl
rows_readable s key end (pos (suc n)) h = by (nat_lt (suc n) s.compacted) (if nat_lt s.current (suc n) then Some Future else None) (rows (is_in key end) (suc n) s.changes) h
  where
    by : (below : Bool) (o : Option Refusal) (rs : List KeyValue) → (if below then Some Compacted else o) ≡ None → (if below then [] else rs) ≡ rs
    by true o rs h = let bad : ⊥ = cc in absurd bad
    by false o rs h = refl

pub rows_live : (s : Store) (key end low high : List ℕ) (revision : ℤ) (r : ℕ) → low ≡ key → high ≡ end → r ≡ revision_read (reads_of s) revision → unreadable (reads_of s) (revision_read (reads_of s) revision) ≡ None → rows (is_in low high) r s.changes ≡ rows_read (reads_of s) key end revision
rows_live s key end low high revision r from to at h =
    ap (λ k. rows (is_in k high) r s.changes) from ∙ ap (λ k. rows (is_in key k) r s.changes) to ∙ ap (λ n. rows (is_in key end) n s.changes) at ∙ sym (rows_readable s key end revision h)

-- what the filters say of the revisions of a row they say of the row
pub passes_by : (q : RangeReq) (o : Option KeyValue) (create_revision mod_revision : ℕ) (b : Bool) → IsSome o → IfSome o (λ row. create_revision ≡ row.create_revision) → IfSome o (λ row. mod_revision ≡ row.mod_revision) → SaysWanted q create_revision mod_revision b → b ≡ row_passes q o
passes_by q None create_revision mod_revision b there created modified says = let bad : ⊥ = cc in absurd bad
passes_by q (Some row) create_revision mod_revision b there created modified says = says row (sym created) (sym modified)
