use Rattle.std.proofs.Common.{◌≡◌, ◌++◌, drop, length, map, true}
use Rattle.std.specs.List.{list_all}
use Rattle.std.specs.Prelude.{vec_capacity}
use Rattle.etcd_types.specs.Rows.{op_reply_of}
use Rattle.etcd_model.specs.Operations.{op_reply}
use Rattle.revision_store.specs.Stored.{reads}
use Rattle.txn_plan.specs.Finding.{is_found_op}
use Rattle.txn_plan.proofs.finding.find_ranges.Given as goal

-- what is found and the answers to the ranges that are left make the whole
abbrev pub invariant-loop-op : goal.invariant-loop-op
invariant-loop-op l = record {
  all : map (op_reply_of (λ rows. rows)) l.found.items ++ map (op_reply (reads l.store) l.store.kept.current) (drop l.op-index l.ops) ≡ map (op_reply (reads l.store) l.store.kept.current) l.ops;
  left : list_all (is_found_op l.store) (drop l.op-index l.ops) ≡ true;
  many : length l.found.items ≡ l.op-index;
  room : vec_capacity l.found ≡ length l.ops;
}
