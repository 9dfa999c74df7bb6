use Rattle.std.proofs.Common.{◌≡◌, ◌+◌, ◌≤◌, ◌++◌, length, take, drop}
use Rattle.key_index.specs.Order.{with_records}
use Rattle.key_index.proofs.visiting.settle.Given as goal

abbrev pub invariant-settling : goal.invariant-settling
invariant-settling g l =
    let cells = g.R.Records.cells l.records in
    record {
      recent : l.recent.items ≡ drop l._settled l.fn.recent.items;
      settled : l.settled.items ≡ l.fn.settled.items ++ with_records cells (take l._settled l.fn.recent.items);
      long : length l.settled.items ≤ length l.fn.settled.items + l._settled;
      recent_room : l.recent.room ≡ l.fn.recent.room;
      settled_room : l.settled.room ≡ l.fn.settled.room;
    }
