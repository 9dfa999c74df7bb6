use Rattle.std.proofs.Common.{◌≡◌, ◌≤◌, ◌+◌, ◌++◌, length}
use Rattle.std.specs.Vec.{vec_capacity}
use Rattle.tenant_audit.specs.Closed.{AreLawful, given_of}
use Rattle.tenant_registry.specs.Registries.{tenants_of}
use Rattle.tenant_registry.proofs.close.sheets_of.Given as goal

-- the tenants so far are sheets, the others are left, and there is room for these
abbrev pub invariant-loop-name : goal.invariant-loop-name
invariant-loop-name l = record {
  given : given_of l.sheets.items ++ tenants_of l.name-iterator ≡ tenants_of l.fn.tenants.entries;
  lawful : AreLawful l.sheets.items;
  room : length l.sheets.items + length l.name-iterator ≤ vec_capacity l.sheets;
}
