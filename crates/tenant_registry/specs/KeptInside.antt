-- What a contract sees of what a lock keeps.
use Rattle.std.specs.Prelude.{◌≡◌}
use Rattle.tenant_registry.specs.Keeping.{Content, IsKept}
use Rattle.tenant_registry.specs.declared.kept.Kept.TheInside.{Inside}

abbrev pub content_of : Inside → Content
content_of k = record { machine = k.machine; audit = k.audit; left = k.left }

-- and how many segments are reserved is counted
pub record IsKeptInside (k : Inside) : Type 0 where
  pub kept : IsKept k.machine k.audit k.left
  pub reserved : k.reserved ≡ k.machine.store.share.reserved
