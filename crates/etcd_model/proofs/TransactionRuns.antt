-- Transactions: compares, and operations that read what was written before them.
use Rattle.std.proofs.Common.{[], ◌∷◌, refl, true, false}
use Rattle.std.specs.Prelude.{pos, None, replicate, map}
use Rattle.std.specs.List.{range_with_len}
use Rattle.etcd_types.specs.declared.txn.CompareResult.TheVariants.{Equal, Greater, Less, NotEqual}
use Rattle.etcd_types.specs.declared.txn.Operand.TheVariants.{Version as VersionIs, Create as CreateIs, Mod as ModIs, Value as ValueIs, Lease as LeaseIs}
use Rattle.etcd_types.specs.declared.txn.Op.TheVariants.{Range as RangeOp, Put as PutOp, Delete as DeleteOp, Nested}
use Rattle.etcd_types.specs.declared.refusal.Refusal.TheVariants.{NoKey, TooManyOps, DuplicateKey, Future, NotOffered}
use Rattle.etcd_types.specs.declared.reply.OpReply.TheVariants.{Range as RangeAnswer, Put as PutAnswer, Delete as DeleteAnswer}
use Rattle.etcd_types.specs.declared.reply.Reply.TheVariants.{Txn as TxnReply, Refused}
use Rattle.etcd_model.proofs.Terms.{◌⇒◌, IsRun, fresh, a, b, c, foo, one, two, three, row, put_of, put, range_of, get, delete_of, txn, at, done, found}

-- with no row no value meets a compare, and a number counts as 0
compare_with_no_row : IsRun fresh
    (txn (record { key = foo; range_end = []; result = Equal; operand = ValueIs [] } ∷ []) [] [] ⇒ TxnReply (at 1) false []
    ∷ txn (record { key = foo; range_end = []; result = Equal; operand = VersionIs (pos 0) } ∷ []) [] [] ⇒ TxnReply (at 1) true []
    ∷ [])
compare_with_no_row = refl

-- every row of an interval has to meet a compare
compare_of_an_interval : IsRun fresh
    (put a one ⇒ done 2
    ∷ put b two ⇒ done 3
    ∷ txn (record { key = a; range_end = c; result = Less; operand = ModIs (pos 4) } ∷ []) [] [] ⇒ TxnReply (at 3) true []
    ∷ txn (record { key = a; range_end = c; result = Greater; operand = CreateIs (pos 2) } ∷ []) [] [] ⇒ TxnReply (at 3) false []
    ∷ txn (record { key = a; range_end = c; result = NotEqual; operand = ValueIs three } ∷ []) [] [] ⇒ TxnReply (at 3) true []
    ∷ txn (record { key = a; range_end = c; result = Equal; operand = LeaseIs (pos 0) } ∷ []) [] [] ⇒ TxnReply (at 3) true []
    ∷ [])
compare_of_an_interval = refl

reads_its_writes : IsRun fresh
    (txn [] (PutOp (put_of a one) ∷ RangeOp (range_of a []) ∷ DeleteOp (delete_of b []) ∷ []) []
    ⇒ TxnReply (at 2) true (PutAnswer (pos 2) None ∷ RangeAnswer (pos 2) 1 (row a 2 2 one 1 ∷ []) false ∷ DeleteAnswer (pos 2) 0 [] ∷ [])
    ∷ txn [] (PutOp (put_of a one) ∷ DeleteOp (delete_of a b) ∷ []) [] ⇒ Refused DuplicateKey
    ∷ [])
reads_its_writes = refl

-- 128 operations are taken
limit_of_operations : IsRun fresh
    (txn [] (map (λ n. PutOp (put_of (n ∷ []) [])) (range_with_len 1 128)) [] ⇒ TxnReply (at 2) true (replicate 128 (PutAnswer (pos 2) None)) ∷ [])
limit_of_operations = refl

-- one more is not, in the branch that would not run either
too_many_operations : IsRun fresh
    (txn [] (replicate 129 (RangeOp (range_of a []))) [] ⇒ Refused TooManyOps
    ∷ txn [] [] (replicate 129 (RangeOp (range_of a []))) ⇒ Refused TooManyOps
    ∷ txn [] [] [] ⇒ TxnReply (at 1) true []
    ∷ [])
too_many_operations = refl

-- a revision is looked up against the state before the transaction
future_revision : IsRun fresh
    (txn [] (PutOp (put_of a one) ∷ RangeOp (record (range_of a []) { revision = pos 2 }) ∷ []) [] ⇒ Refused Future
    ∷ get a ⇒ found 1 []
    ∷ [])
future_revision = refl

-- both branches are checked
bad_branches : IsRun fresh
    (txn [] [] (PutOp (put_of a []) ∷ PutOp (put_of a []) ∷ []) ⇒ Refused DuplicateKey
    ∷ txn [] (Nested ∷ []) [] ⇒ Refused NotOffered
    ∷ txn [] (RangeOp (range_of [] []) ∷ []) [] ⇒ Refused NoKey
    ∷ [])
bad_branches = refl
