-- A transaction whose rows are found, and not made.
use Rattle.std.specs.Prelude.{Bool, ◌&&◌, ◌==◌, not, false, [], length, map, pos}
use Rattle.std.specs.List.{list_all}
use Rattle.etcd_types.specs.Rows.{op_reply_of}
use Rattle.etcd_types.specs.declared.txn.Op.{Op}
use Rattle.etcd_types.specs.declared.txn.Op.TheVariants.{Range}
use Rattle.etcd_types.specs.declared.txn.TxnReq.{TxnReq}
use Rattle.etcd_model.specs.Operations.{branch}
use Rattle.revision_store.specs.InPlace.{is_found}
use Rattle.revision_store.specs.Stored.{StoreState, reads}
use Rattle.txn_plan.specs.declared.finding.FoundTxn.{FoundTxn}
use Rattle.txn_plan.specs.declared.transaction.PlannedTxn.{PlannedTxn}

-- an operation is a range whose rows are found
abbrev pub is_found_op : StoreState → Op → Bool
is_found_op store (Range q) = is_found store q
is_found_op store op = false

-- a transaction's rows are found where the branch that is taken has such ranges, and nothing else
abbrev pub is_found_txn : StoreState → TxnReq → Bool
is_found_txn store t =
    let ops = branch (reads store) t in not (length ops == 0) && list_all (is_found_op store) ops

-- what is found, as a plan that changes nothing
abbrev pub found_plan : StoreState → FoundTxn → PlannedTxn
found_plan store found = record {
  plan = [];
  succeeded = found.succeeded;
  adds = false;
  revision = pos store.kept.current;
  responses = map (op_reply_of (λ rows. rows)) found.responses;
}
