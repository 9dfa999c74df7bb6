-- How many cells a put takes.
use Rattle.std.specs.Prelude.{ℕ, ◌+◌, ◌==◌, if◌then◌else◌}
use Rattle.etcd_types.specs.declared.key_value.KeyValue.{KeyValue}
use Rattle.etcd_model.specs.Kept.{cost_delete, cost_put}

-- By how many cells a put of a row raises those that count: by its record, and by room for a delete of its key where it
-- creates that.
abbrev pub growth_put : KeyValue → ℕ
growth_put row = cost_put row.key row.value + (if row.create_revision == row.mod_revision
    then cost_delete row.key else 0)
