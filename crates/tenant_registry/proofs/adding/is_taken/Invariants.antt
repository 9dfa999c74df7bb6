use Rattle.std.proofs.Common.{◌≡◌, map, drop}
use Rattle.tenant_registry.specs.Adding.{is_one_of, name_of}
use Rattle.tenant_registry.proofs.adding.is_taken.Given as goal

-- the name is one of them if and only if it is one of the rest
abbrev pub invariant-loop-config : goal.invariant-loop-config
invariant-loop-config l = is_one_of (map name_of l.fn.there) l.fn.name ≡ is_one_of (map name_of (drop l.config-index l.fn.there)) l.fn.name
