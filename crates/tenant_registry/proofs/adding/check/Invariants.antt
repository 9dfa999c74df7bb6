use Rattle.std.proofs.Common.{◌≡◌, map, take, drop, []}
use Rattle.tenant_registry.specs.Adding.{configs_fault, name_of}
use Rattle.tenant_registry.proofs.adding.check.Given as goal

-- what speaks against all speaks against the rest
abbrev pub invariant-loop-place : goal.invariant-loop-place
invariant-loop-place l = configs_fault l.fn.segments [] l.fn.configs ≡ configs_fault l.free (map name_of (take l.place l.fn.configs)) (drop l.place l.fn.configs)
