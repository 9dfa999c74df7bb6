use Rattle.std.proofs.Common.{ℕ, zero, suc, ◌≡◌, ◌+◌, ◌<◌, List, [], ◌∷◌, length, take, drop, add-one, refl, arith, ◌∙◌}
use Rattle.std.specs.Prelude.{sum_by}
use Rattle.std.proofs.lemmas.List.Sums.{sum_by-cons}
use Rattle.etcd_types.specs.declared.key_value.KeyValue.{KeyValue}
use Rattle.etcd_types.specs.declared.rows.RowShape.{RowShape}
use Rattle.etcd_types.specs.Rows.{shape_of}
use Rattle.gateway_text.specs.Room.{row_room, shape_room}
use Rattle.gateway_text.proofs.size.rows_size.Goals as goal

-- a row more, whose shape is read
one_more : (rows : List KeyValue) (i : ℕ) (shape : RowShape) → i < length rows
    → ((row : KeyValue) → (rest : List KeyValue) → drop i rows ≡ row ∷ rest → shape ≡ shape_of row)
    → sum_by row_room (take (suc i) rows) ≡ sum_by row_room (take i rows) + shape_room shape
one_more [] i shape lt read = absurd (omega (arith, lt))
one_more (row ∷ rest) zero shape lt read = rw (read row rest refl) (omega arith)
one_more (row ∷ rest) (suc i) shape lt read =
    let more = one_more rest i shape (omega (arith, lt)) read in
    sum_by-cons row_room row (take (suc i) rest) ∙ omega (arith, more, sum_by-cons row_room row (take i rest))

pub loop-place-preserved : goal.loop-place-preserved
loop-place-preserved g c =
    let rows = g.S.RowsInPlace.rows c.args.rows.now in
    let i = c.loop-place.place in
    let lt : i < length rows = omega arith in
    let more = one_more rows i c.shape.result lt c.shape.ensures in
    rw add-one (omega (arith, more, c.loop-place.invariant, c.saturating_add-size.ensures, c.shape_size.ensures))
