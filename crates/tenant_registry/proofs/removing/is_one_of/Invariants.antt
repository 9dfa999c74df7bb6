use Rattle.std.proofs.Common.{◌≡◌, map, drop}
use Rattle.std.specs.List.{list_any}
use Rattle.std.specs.Str.{bytes_eq}
use Rattle.tenant_registry.proofs.removing.is_one_of.Given as goal

-- the name is one of them if and only if it is one of the rest
abbrev pub invariant-loop-one : goal.invariant-loop-one
invariant-loop-one l = list_any (bytes_eq l.fn.name) (map (λ v. v.items) l.fn.names) ≡ list_any (bytes_eq l.fn.name) (map (λ v. v.items) (drop l.one-index l.fn.names))
