-- Rows that lie in their cells, by their places.
use Rattle.std.proofs.Common.{◌≡◌, ℕ, zero, suc, ◌+◌, ◌<◌, List, [], ◌∷◌, length, get_or, drop, map, Option, Some, None, IsSome, IfSome, Bool, refl, sym, ap, ◌∙◌, subst, arith}
use Rattle.std.specs.Prelude.{option_map}
use Rattle.std.specs.List.{cons_option}
use Rattle.std.proofs.lemmas.List.{length-map}
use Rattle.etcd_types.specs.declared.key_value.KeyValue.{KeyValue}
use Rattle.key_index.specs.Links.{Cells}
use Rattle.range_rows.proofs.RangingCells.{length-filter_map}
use Rattle.revision_store.specs.InPlace.{in_place, row_shown}
use Rattle.revision_store.specs.Pending.{AreRows}
use Rattle.revision_store.specs.Ranging.{rows_of}
use Rattle.revision_store.specs.Stored.{row_at}

module _ (cells : Cells) (keys_only : Bool) where
  -- there are as many as cells
  pub as_many : (cs : List ℕ) → AreRows cells cs → length (in_place cells keys_only cs) ≡ length cs
  as_many cs rows = length-map (rows_of cells cs) (row_shown keys_only) ∙ length-filter_map (row_at cells) cs rows

  -- each place has a row
  pub row_there : (cs : List ℕ) (place d : ℕ) → AreRows cells cs → place < length cs → IsSome (row_at cells (get_or cs place d))
  row_there [] place d rows lt = absurd (omega (arith, lt))
  row_there (c ∷ cs) zero d rows lt = rows.0
  row_there (c ∷ cs) (suc place) d rows lt = row_there cs place d rows.1 (omega (arith, lt))

  first_row : (o : Option KeyValue) (row : KeyValue) (rest : List KeyValue) → option_map (row_shown keys_only) o ≡ Some row → map (row_shown keys_only) (cons_option o rest) ≡ row ∷ map (row_shown keys_only) rest
  first_row None row rest at = let bad : ⊥ = cc in absurd bad
  first_row (Some x) row rest at = let is : row_shown keys_only x ≡ row = cc in ap (λ (y : KeyValue). y ∷ map (row_shown keys_only) rest) is

  after_first : (o : Option KeyValue) (place : ℕ) (rest : List KeyValue) → IsSome o → drop (suc place) (map (row_shown keys_only) (cons_option o rest)) ≡ drop place (map (row_shown keys_only) rest)
  after_first None place rest none = let bad : ⊥ = cc in absurd bad
  after_first (Some x) place rest some = refl

  -- the row at a place is that under its cell
  pub row_at_place : (cs : List ℕ) (place d : ℕ) (row : KeyValue) → AreRows cells cs → place < length cs → option_map (row_shown keys_only) (row_at cells (get_or cs place d)) ≡ Some row
      → drop place (in_place cells keys_only cs) ≡ row ∷ drop (place + 1) (in_place cells keys_only cs)
  row_at_place [] place d row rows lt at = absurd (omega (arith, lt))
  row_at_place (c ∷ cs) zero d row rows lt at =
      first_row (row_at cells c) row (rows_of cells cs) at
      ∙ ap (λ (rest : List KeyValue). row ∷ rest) (sym (after_first (row_at cells c) 0 (rows_of cells cs) rows.0))
  row_at_place (c ∷ cs) (suc place) d row rows lt at =
      let next : suc (place + 1) ≡ suc place + 1 = omega arith in
      after_first (row_at cells c) place (rows_of cells cs) rows.0
      ∙ row_at_place cs place d row rows.1 (omega (arith, lt)) at
      ∙ ap (λ (rest : List KeyValue). row ∷ rest) (sym (after_first (row_at cells c) (place + 1) (rows_of cells cs) rows.0) ∙ ap (λ n. drop n (in_place cells keys_only (c ∷ cs))) next)

  -- what is said of the row under the cell, as it is shown, is said of the row that stands first from a place on
  pub first_from : (P : KeyValue → Type 0) (cs : List ℕ) (place d : ℕ) (row : KeyValue) (rest : List KeyValue) → AreRows cells cs → place < length cs → IfSome (row_at cells (get_or cs place d)) (λ x. P (row_shown keys_only x))
      → drop place (in_place cells keys_only cs) ≡ row ∷ rest → P row
  first_from P cs place d row rest rows lt says at = from (row_at cells (get_or cs place d)) refl says
    where
      from : (o : Option KeyValue) → row_at cells (get_or cs place d) ≡ o → IfSome o (λ x. P (row_shown keys_only x)) → P row
      from None is said = let none : IsSome (row_at cells (get_or cs place d)) = row_there cs place d rows lt in let some : IsSome {T = KeyValue} None = subst IsSome is none in absurd (cc)
      from (Some x) is said =
          let here = row_at_place cs place d (row_shown keys_only x) rows lt (ap (option_map (row_shown keys_only)) is) in
          let same : row_shown keys_only x ≡ row = cc in
          subst P same said
