-- Old revisions, and revisions that are used up.
use Rattle.std.proofs.Common.{[], ◌∷◌, refl, true}
use Rattle.std.specs.Prelude.{pos, negsuc}
use Rattle.etcd_types.specs.declared.txn.Op.TheVariants.{Delete as DeleteOp}
use Rattle.etcd_types.specs.declared.step.Step.TheVariants.{Delete, Revoke}
use Rattle.etcd_types.specs.declared.refusal.Refusal.TheVariants.{UsedUp}
use Rattle.etcd_types.specs.declared.reply.Reply.TheVariants.{Delete as DeleteReply, Revoked, Refused}
use Rattle.etcd_model.specs.Machine.{opening}
use Rattle.etcd_model.proofs.Terms.{◌⇒◌, IsRun, fresh, a, foo, bar, one, two, three, row, put, put_leased, get, get_at, delete_of, delete, txn, grant, at, done, found, granted}

-- a delete ends a generation, and old revisions are still read
old_revisions : IsRun fresh
    (put foo one ⇒ done 2
    ∷ put foo two ⇒ done 3
    ∷ Delete (record (delete_of foo []) { prev_kv = true }) ⇒ DeleteReply (at 4) 1 (row foo 2 3 two 2 ∷ [])
    ∷ put foo three ⇒ done 5
    ∷ get_at foo (pos 3) ⇒ found 5 (row foo 2 3 two 2 ∷ [])
    ∷ get_at foo (pos 4) ⇒ found 5 []
    ∷ get_at foo (pos 5) ⇒ found 5 (row foo 5 5 three 1 ∷ [])
    ∷ get_at foo (negsuc 0) ⇒ found 5 (row foo 5 5 three 1 ∷ [])
    ∷ [])
old_revisions = refl

revisions_used_up : IsRun (opening 7 1024 4611686018427387904)
    (put foo bar ⇒ Refused UsedUp
    ∷ get foo ⇒ found 4611686018427387904 []
    ∷ [])
revisions_used_up = refl

-- a revoke goes on where puts and deletes do not
revisions_used_up_by_a_lease : IsRun (opening 7 1024 4611686018427387903)
    (grant (pos 5) (pos 0) ⇒ granted 4611686018427387903 1 5
    ∷ put_leased a [] (pos 1) ⇒ done 4611686018427387904
    ∷ put a [] ⇒ Refused UsedUp
    ∷ delete a ⇒ Refused UsedUp
    ∷ txn [] [] (DeleteOp (delete_of a []) ∷ []) ⇒ Refused UsedUp
    ∷ Revoke (pos 1) ⇒ Revoked (at 4611686018427387905)
    ∷ [])
revisions_used_up_by_a_lease = refl
