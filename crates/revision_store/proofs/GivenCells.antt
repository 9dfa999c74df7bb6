-- The cells of the rows that a range gives in the order of their keys.
use Rattle.std.proofs.Common.{◌≡◌, ℕ, List, [], ◌∷◌, length, take, map, Bool, true, false, IsSome, sym, ap, ◌∙◌, subst, if◌then◌else◌, refl, arith}
use Rattle.std.specs.Prelude.{filter}
use Rattle.std.specs.List.Sorted.{IsStrictlySortedBy}
use Rattle.std.proofs.lemmas.List.Kept.{IsStrictlySortedBy-filter}
use Rattle.etcd_types.specs.declared.key_value.KeyValue.{KeyValue}
use Rattle.etcd_types.specs.declared.kv.RangeReq.{RangeReq}
use Rattle.etcd_model.specs.Order.{by_key}
use Rattle.etcd_model.specs.Ranges.{is_wanted, without_value}
use Rattle.key_index.specs.Links.{Cells}
use Rattle.range_rows.specs.Answering.{IsLimit, SaysMore, given, is_by_key, shown}
use Rattle.range_rows.specs.Reading.{needs_values, read, row_passes}
use Rattle.range_rows.proofs.AnsweringLaws.{all-take, given_by_key}
use Rattle.range_rows.proofs.RangingAnswers.{answer_given}
use Rattle.range_rows.proofs.RangingCells.{all_kept, filter_map-take, first_are_given, length-filter_map, wanted_rows}
use Rattle.revision_store.specs.Pending.{AreRows}
use Rattle.revision_store.specs.Ranging.{AreGiven, rows_of, wanted_cells}
use Rattle.revision_store.specs.Stored.{row_at}

-- the first ones of those that pass the filters, as many as the limit lets through
pub first_given : (cells : Cells) (q : RangeReq) (all cs : List ℕ) (count n : ℕ) (more : Bool) → AreRows cells all → IsStrictlySortedBy by_key (rows_of cells all) → q.count_only ≡ false → is_by_key q ≡ true
    → cs ≡ wanted_cells cells q all → count ≡ length all → SaysMore q (length cs) more → IsLimit q (length cs) n → AreGiven cells q all (take n cs) count more
first_given cells q all cs count n more rows up some by is counted says limit = record {
  rows = all-take (λ c. IsSome (row_at cells c)) n cs there;
  given = first_are_given (row_at cells) q cs n there sorted by limit;
  answer = λ revision. answer_given q revision (rows_of cells all) (map (shown q) (rows_of cells (take n cs))) count (length cs) more some up
      (counted ∙ sym (length-filter_map (row_at cells) all rows)) (ap length (sym wanted) ∙ many) says
      (ap (map (shown q)) (filter_map-take (row_at cells) n cs there) ∙ sym (given_by_key q (rows_of cells cs) (length cs) n by sorted limit (omega (arith, many))) ∙ ap (given q) wanted);
}
  where
    there : AreRows cells cs
    there = subst (AreRows cells) (sym is) (all_kept (λ k. IsSome (row_at cells k)) (λ k. row_passes q (row_at cells k)) all rows)

    wanted : rows_of cells cs ≡ filter (is_wanted q) (rows_of cells all)
    wanted = ap (rows_of cells) is ∙ wanted_rows (row_at cells) q all

    sorted : IsStrictlySortedBy by_key (rows_of cells cs)
    sorted = subst (IsStrictlySortedBy by_key) (sym wanted) (IsStrictlySortedBy-filter by_key (is_wanted q) (rows_of cells all) up)

    many : length (rows_of cells cs) ≡ length cs
    many = length-filter_map (row_at cells) cs there

-- a row is shown alike whether or not a value that isn't needed was read
pub shown_read : (q : RangeReq) (rows : List KeyValue) → map (shown q) (map (read q) rows) ≡ map (shown q) rows
shown_read q [] = refl
shown_read q (row ∷ rows) = ap (λ (r : KeyValue). r ∷ map (shown q) (map (read q) rows)) (by q.keys_only (needs_values q.keys_only q.sort_target) refl) ∙ ap (λ (rs : List KeyValue). shown q row ∷ rs) (shown_read q rows)
  where
    by : (keys_only needs : Bool) → needs ≡ needs_values keys_only q.sort_target → (if keys_only then without_value (if needs then row else without_value row) else (if needs then row else without_value row)) ≡ (if keys_only then without_value row else row)
    by true true h = refl
    by true false h = refl
    by false true h = refl
    by false false h = absurd (cc)
