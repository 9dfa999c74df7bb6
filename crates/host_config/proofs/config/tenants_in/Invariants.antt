use Rattle.std.proofs.Common.{take}
use Rattle.serde_json.specs.View.{items_view}
use Rattle.host_config.specs.Configuring.{AreTenants}
use Rattle.host_config.proofs.config.tenants_in.Given as goal

abbrev pub invariant-loop-value : goal.invariant-loop-value
invariant-loop-value l = AreTenants (items_view (take l.value-index l.values)) l.tenants.items l.allowances.items
