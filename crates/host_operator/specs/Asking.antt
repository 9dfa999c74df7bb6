-- What the operator asks by a method and a path.
use Rattle.std.specs.Prelude.{◌≡◌, ◌⊎◌, ℕ, ◌++◌, ◌||◌, Bool, List, codes, nat_eq, if◌then◌else◌}
use Rattle.std.specs.List.{starts_with}
use Rattle.std.specs.Str.{bytes_eq}
use Rattle.host_operator.specs.declared.calls.OperatorCall.{OperatorCall}
use Rattle.host_operator.specs.declared.calls.OperatorCall.TheVariants as call
use Rattle.host_operator.specs.declared.calls.OperatorRefusal.{OperatorRefusal}
use Rattle.host_operator.specs.declared.calls.OperatorRefusal.TheVariants.{Method, Path}

-- the path is that of a tenant of this name
abbrev pub IsOf : List ℕ → List ℕ → Type 0
IsOf name path = path ≡ codes "/tenants/" ++ name

-- a method and a path ask for this call
abbrev pub Asks : List ℕ → List ℕ → OperatorCall → Type 0
Asks method path call.List = (method ≡ codes "GET") × (path ≡ codes "/tenants")
Asks method path (call.Show name) = (method ≡ codes "GET") × IsOf name.now path
Asks method path call.Add = (method ≡ codes "POST") × (path ≡ codes "/tenants")
Asks method path (call.Change name) = (method ≡ codes "PATCH") × IsOf name.now path
Asks method path (call.Remove name) = (method ≡ codes "DELETE") × IsOf name.now path
Asks method path call.Grow = (method ≡ codes "POST") × (path ≡ codes "/pool")
Asks method path call.Metrics = (method ≡ codes "GET") × (path ≡ codes "/metrics")
Asks method path call.Health = (method ≡ codes "GET") × (path ≡ codes "/health")
Asks method path call.Ready = (method ≡ codes "GET") × (path ≡ codes "/ready")
Asks method path call.Stop = (method ≡ codes "POST") × (path ≡ codes "/stop")

-- the paths that have calls, beside those of tenants
abbrev pub is_path : List ℕ → Bool
is_path path =
    bytes_eq path (codes "/tenants")
    || bytes_eq path (codes "/pool")
    || bytes_eq path (codes "/metrics")
    || bytes_eq path (codes "/health")
    || bytes_eq path (codes "/ready")
    || bytes_eq path (codes "/stop")

-- why nothing is asked: no call has the path, or none of those by the method
abbrev pub unasked : List ℕ → OperatorRefusal
unasked path = if starts_with nat_eq path (codes "/tenants/") || is_path path then Method else Path

-- the status of a call that is done
abbrev pub IsDone : OperatorCall → ℕ → Type 0
IsDone call.List s = s ≡ 200
IsDone (call.Show name) s = s ≡ 200
IsDone call.Add s = s ≡ 201
IsDone (call.Change name) s = (s ≡ 200) ⊎ (s ≡ 204)
IsDone (call.Remove name) s = s ≡ 204
IsDone call.Grow s = (s ≡ 200) ⊎ (s ≡ 204)
IsDone call.Metrics s = s ≡ 200
IsDone call.Health s = s ≡ 200
IsDone call.Ready s = s ≡ 200
IsDone call.Stop s = s ≡ 202
