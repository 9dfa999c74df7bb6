use Rattle.std.proofs.Common.{◌≡◌, ◌+◌, ◌<◌, ◌∙◌, ◌∷◌, ◌≤◌, List, ap, arith, drop, length, map, subst, sym}
use Rattle.std.specs.Borrow.{Bor}
use Rattle.std.specs.Prelude.{vec_capacity}
use Rattle.std.proofs.lemmas.List.{drop_all, drop_more}
use Rattle.etcd_types.specs.declared.key_value.KeyValue.{KeyValue}
use Rattle.revision_store.specs.Mixing.{cells_without}
use Rattle.revision_store.specs.Recorded.{cells_of}
use Rattle.revision_store.proofs.MixingCells.{IsUnputting, unputting_all, unputting_next}
use Rattle.revision_store.proofs.pending_puts.take_away.Goals as goal
use Rattle.revision_store.proofs.pending_puts.take_away.Goals.{in-Some, in_default}

pub loop-put-preserved : goal.loop-put-preserved
loop-put-preserved c =
    let cells = cells_of c.args.log.now.records in
    let puts : List (Bor KeyValue) = c.args.puts.now in
    let i = c.loop-put.put-index in
    let put : Bor KeyValue = c.put-item.result in
    let all = c.args.cells.now.items in
    let lt : i < length puts = omega arith in
    let here : drop i puts ≡ put ∷ drop (i + 1) puts = drop_more puts i put lt ∙ ap (λ (p : Bor KeyValue). p ∷ drop (i + 1) puts) (sym c.put-item.is) in
    let next : cells_without cells put.now.key c.loop-put.cells.items ≡ c.match-place_of.cells.items = elim c.match-place_of.branch [
      | in-Some w ↦ rw w.cells-is ((rw (c.deref.ensures.value, c.as_slice.ensures) at w.in-Some.ensures.place) ∙ sym w.remove.ensures.items)
      | in_default w ↦ rw w.cells-is (rw (c.deref.ensures.value, c.as_slice.ensures) at w.in_default.ensures.place)
    ] in
    let room : vec_capacity c.match-place_of.cells ≡ vec_capacity c.loop-put.cells = elim c.match-place_of.branch [
      | in-Some w ↦ rw w.cells-is w.remove.ensures.capacity
      | in_default w ↦ ap vec_capacity w.cells-is
    ] in
    record {
      cells = unputting_next cells put.now (map (λ row. row.now) (drop (i + 1) puts)) (map (λ row. row.now) puts) c.loop-put.cells.items c.match-place_of.cells.items all
          (subst (λ (ps : List (Bor KeyValue)). IsUnputting cells (map (λ row. row.now) ps) (map (λ row. row.now) puts) c.loop-put.cells.items all) here c.loop-put.invariant.cells) next;
      room = room ∙ c.loop-put.invariant.room;
    }

pub returns-clause-cells : goal.returns-clause-cells
returns-clause-cells c =
    let puts : List (Bor KeyValue) = c.args.puts.now in
    let i = c.loop-put.put-index in
    let all = c.args.cells.now.items in
    let past : length puts ≤ i = omega arith in
    unputting_all (cells_of c.args.log.now.records) (map (λ row. row.now) puts) c.loop-put.cells.items all
    (subst (λ (ps : List (Bor KeyValue)). IsUnputting (cells_of c.args.log.now.records) (map (λ row. row.now) ps) (map (λ row. row.now) puts) c.loop-put.cells.items all) (drop_all i puts past) c.loop-put.invariant.cells)
