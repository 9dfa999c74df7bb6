use Rattle.std.proofs.Common.{◌≡◌, ◌+◌, ◌≤◌, ◌++◌, drop, length, map}
use Rattle.std.specs.Prelude.{vec_capacity}
use Rattle.range_rows.specs.Reading.{read}
use Rattle.range_rows.specs.Taking.{NoneTies, first_of}
use Rattle.revision_store.proofs.mixing.first_with.Given as goal

abbrev pub invariant-loop-put : goal.invariant-loop-put
invariant-loop-put l = record {
  apart : NoneTies l.request (l.first.items ++ map (read l.request) (map (λ row. row.now) (drop l.put-index l.puts)));
  few : length l.first.items ≤ length l.initial.first.items + l.put-index;
  room : vec_capacity l.first ≡ vec_capacity l.initial.first;
  first : first_of l.request l.limit (l.first.items ++ map (read l.request) (map (λ row. row.now) (drop l.put-index l.puts))) ≡ first_of l.request l.limit (l.initial.first.items ++ map (read l.request) (map (λ row. row.now) l.puts));
}
