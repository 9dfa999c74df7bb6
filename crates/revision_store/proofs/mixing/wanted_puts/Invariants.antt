use Rattle.std.proofs.Common.{◌≡◌, ◌++◌, drop, map}
use Rattle.std.specs.Prelude.{filter}
use Rattle.etcd_model.specs.Ranges.{is_wanted}
use Rattle.revision_store.proofs.mixing.wanted_puts.Given as goal

abbrev pub invariant-loop-put : goal.invariant-loop-put
invariant-loop-put l = map (λ row. row.now) l.found ++ filter (is_wanted l.request) (map (λ row. row.now) (drop l.put-index l.puts)) ≡ filter (is_wanted l.request) (map (λ row. row.now) l.puts)
