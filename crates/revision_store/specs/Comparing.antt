-- What a compare asks of a row.
use Rattle.std.specs.Prelude.{Bool}
use Rattle.etcd_types.specs.declared.key_value.KeyValue.{KeyValue}
use Rattle.etcd_types.specs.declared.txn.Compare.{Compare}
use Rattle.etcd_model.specs.Compares.{operand_cmp, is_met}

-- a row meets the compare
abbrev pub meets : Compare → KeyValue → Bool
meets c row = is_met c.result (operand_cmp row c.operand)
