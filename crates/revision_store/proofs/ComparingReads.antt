-- A compare over the rows under some cells.
use Rattle.std.proofs.Common.{List}
use Rattle.std.specs.Prelude.{Bool, if◌then◌else◌}
use Rattle.std.specs.List.{list_all}
use Rattle.etcd_types.specs.declared.key_value.KeyValue.{KeyValue}
use Rattle.etcd_types.specs.declared.txn.Compare.{Compare}
use Rattle.etcd_model.specs.Compares.{holds_of}
use Rattle.revision_store.specs.Comparing.{meets}

-- the compare over the rows that are left, where there was one before, each of which met it, or there was none
abbrev pub holds_from : Compare → Bool → List KeyValue → Bool
holds_from c any left = if any then list_all (meets c) left else holds_of c left
