use Rattle.std.proofs.Common.{◌≡◌, drop, map}
use Rattle.etcd_model.specs.Members.{named}
use Rattle.gateway_json.proofs.choice.named.Given as goal

abbrev pub invariant-loop-entry : goal.invariant-loop-entry
invariant-loop-entry g l = named l.name (map (λ e. (e.0.now, e.1)) l.table) ≡ named l.name (map (λ e. (e.0.now, e.1)) (drop l.entry-index l.table))
