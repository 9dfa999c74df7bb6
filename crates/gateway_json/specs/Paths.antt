-- What a target's two slices hold.
use Rattle.gateway_json.specs.declared.paths.Target.{Target}
use Rattle.etcd_model.specs.Calls as calls

-- a target's parts, as the definitions have them
abbrev pub target_view : Target → calls.Target
target_view t = record { tenant = t.tenant.now; path = t.path.now }
