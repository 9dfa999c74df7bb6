-- Compares: what a transaction asks of the rows of an interval.
-- etcd: API reference, Compare.
use Rattle.std.specs.Prelude.{Bool, false, List, [], ◌∷◌, pos}
use Rattle.std.specs.List.{list_all}
use Rattle.std.specs.Ordering.{int_cmp, is_eq, is_lt, is_gt, is_ne}
use Rattle.std.specs.declared.cmp.Ordering.{Ordering}
use Rattle.etcd_types.specs.declared.key_value.KeyValue.{KeyValue}
use Rattle.etcd_types.specs.declared.txn.CompareResult.{CompareResult}
use Rattle.etcd_types.specs.declared.txn.CompareResult.TheVariants.{Equal, Greater, Less, NotEqual}
use Rattle.etcd_types.specs.declared.txn.Operand.{Operand}
use Rattle.etcd_types.specs.declared.txn.Operand.TheVariants.{Version, Create, Mod, Value, Lease}
use Rattle.etcd_types.specs.declared.txn.Compare.{Compare}
use Rattle.etcd_model.specs.Order.{key_cmp}
use Rattle.etcd_model.specs.Reads.{Reads}

-- how a row stands to the operand
abbrev pub operand_cmp : KeyValue → Operand → Ordering
operand_cmp row (Version n) = int_cmp (pos row.version) n
operand_cmp row (Create n) = int_cmp (pos row.create_revision) n
operand_cmp row (Mod n) = int_cmp (pos row.mod_revision) n
operand_cmp row (Value v) = key_cmp row.value v
operand_cmp row (Lease n) = int_cmp row.lease n

abbrev pub is_met : CompareResult → Ordering → Bool
is_met Equal o = is_eq o
is_met Greater o = is_gt o
is_met Less o = is_lt o
is_met NotEqual o = is_ne o

-- where there is no row, no value meets a compare, and each number counts as 0
abbrev pub is_met_by_none : CompareResult → Operand → Bool
is_met_by_none r (Version n) = is_met r (int_cmp (pos 0) n)
is_met_by_none r (Create n) = is_met r (int_cmp (pos 0) n)
is_met_by_none r (Mod n) = is_met r (int_cmp (pos 0) n)
is_met_by_none r (Value v) = false
is_met_by_none r (Lease n) = is_met r (int_cmp (pos 0) n)

-- every live row meets it
abbrev pub holds_of : Compare → List KeyValue → Bool
holds_of c [] = is_met_by_none c.result c.operand
holds_of c (row ∷ more) = list_all (λ r. is_met c.result (operand_cmp r c.operand)) (row ∷ more)

abbrev pub holds : Reads → Compare → Bool
holds R c = holds_of c (R.rows c.key c.range_end)

abbrev pub all_hold : Reads → List Compare → Bool
all_hold R cs = list_all (holds R) cs
