-- What a contract sees of an audit.
use Rattle.std.specs.Prelude.{◌≤◌, length}
use Rattle.std.specs.Vec.{vec_capacity}
use Rattle.tenant_audit.specs.Audits.{Log}
use Rattle.tenant_audit.specs.declared.audit.Audit.TheInside.{Inside}

abbrev pub log_of : Inside → Log
log_of a = record {
  opening = a.opening;
  entries = a.entries.items;
  quotas = a.quotas.items;
}

-- it has no more entries than it takes, for which there is room
pub record IsWithin (a : Inside) : Type 0 where
  pub count : length a.entries.items ≤ a.opening.cap
  pub room : a.opening.cap ≤ vec_capacity a.entries
