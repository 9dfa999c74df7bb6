use Rattle.std.proofs.Common.{◌≡◌, ℕ, ◌-◌, ◌<◌, ◌≤◌, get_or, length}
use Rattle.chunk_list.specs.Chunked.{HasItem, position_of}
use Rattle.key_index.proofs.visiting.take_out.Given as goal

abbrev pub invariant-loop-cell : goal.invariant-loop-cell
invariant-loop-cell g l =
    let items = l.fn.order.items in
    record {
      item : HasItem l.fn.order.sizes l.place;
      behind : (p : ℕ) × (p < length items) × (get_or items p 0 ≡ l.fn.cell) × (position_of l.fn.order.sizes l.place ≤ p);
    }

abbrev pub decreases-loop-cell : goal.decreases-loop-cell
decreases-loop-cell g l = length l.fn.order.items - position_of l.fn.order.sizes l.place
