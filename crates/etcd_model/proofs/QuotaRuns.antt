-- The quota in cells, and its alarm.
use Rattle.std.proofs.Common.{[], ◌∷◌, refl, true, false}
use Rattle.std.specs.Prelude.{pos, replicate}
use Rattle.etcd_types.specs.declared.alarm.AlarmAction.TheVariants.{Get, Activate, Deactivate}
use Rattle.etcd_types.specs.declared.alarm.AlarmKind.TheVariants.{Any, NoSpace as SpaceAlarm, Corrupt}
use Rattle.etcd_types.specs.declared.txn.Op.TheVariants.{Put as PutOp, Delete as DeleteOp}
use Rattle.etcd_types.specs.declared.step.Step.TheVariants.{Compact, Status, Defragment}
use Rattle.etcd_types.specs.declared.refusal.Refusal.TheVariants.{NoSpace, NotOffered}
use Rattle.etcd_types.specs.declared.reply.OpReply.TheVariants.{Delete as DeleteAnswer}
use Rattle.etcd_types.specs.declared.reply.Reply.TheVariants.{Txn as TxnReply, Compacted, Alarms as AlarmsReply, Status as StatusReply, Defragmented, Refused}
use Rattle.etcd_model.specs.Machine.{opening, state_after}
use Rattle.etcd_model.proofs.Terms.{◌⇒◌, IsRun, fresh, a, b, foo, bar, one, row, put_of, put, get, delete_of, delete, txn, grant, alarm, at, done, found, deleted, granted}

-- three puts of two cells each fill eight cells, with two for the delete
quota_and_alarm : IsRun (opening 7 8 1)
    (put foo bar ⇒ done 2
    ∷ put foo bar ⇒ done 3
    ∷ put foo bar ⇒ done 4
    ∷ put foo bar ⇒ Refused NoSpace
    ∷ alarm Get Any 0 ⇒ AlarmsReply (at 4) true
    ∷ delete foo ⇒ deleted 5 1
    ∷ Status ⇒ StatusReply (at 5) 384 384
    ∷ Compact (pos 5) ⇒ Compacted (at 5)
    ∷ Status ⇒ StatusReply (at 5) 384 96
    ∷ put foo bar ⇒ Refused NoSpace
    ∷ alarm Deactivate SpaceAlarm 0 ⇒ AlarmsReply (at 5) true
    ∷ put foo bar ⇒ done 6
    ∷ Status ⇒ StatusReply (at 6) 384 288
    ∷ [])
quota_and_alarm = refl

-- 48 bytes of key and value are one cell beside the record's own
value_of_45_bytes : IsRun fresh (put foo (replicate 45 120) ⇒ done 2 ∷ Status ⇒ StatusReply (at 2) 49152 192 ∷ [])
value_of_45_bytes = refl

value_of_46_bytes : IsRun fresh (put foo (replicate 46 120) ⇒ done 2 ∷ Status ⇒ StatusReply (at 2) 49152 240 ∷ [])
value_of_46_bytes = refl

put_fits_quota : IsRun (opening 7 4 1) (put foo (replicate 45 120) ⇒ done 2 ∷ Status ⇒ StatusReply (at 2) 192 192 ∷ [])
put_fits_quota = refl

put_passes_quota : IsRun (opening 7 4 1) (put foo (replicate 46 120) ⇒ Refused NoSpace ∷ Status ⇒ StatusReply (at 1) 192 0 ∷ [])
put_passes_quota = refl

-- a corrupt alarm cannot be raised, and that of another member does nothing
alarm_of_another_member : IsRun fresh
    (alarm Activate Corrupt 2 ⇒ Refused NotOffered
    ∷ alarm Activate SpaceAlarm 2 ⇒ AlarmsReply (at 1) false
    ∷ put a [] ⇒ done 2
    ∷ [])
alarm_of_another_member = refl

-- under the alarm what may add is refused, and what does not goes on
alarm_refuses : IsRun fresh
    (put a one ⇒ done 2
    ∷ alarm Activate SpaceAlarm 1 ⇒ AlarmsReply (at 2) true
    ∷ grant (pos 5) (pos 0) ⇒ Refused NoSpace
    ∷ txn [] [] (PutOp (put_of b one) ∷ []) ⇒ Refused NoSpace
    ∷ txn [] (DeleteOp (delete_of b []) ∷ []) [] ⇒ TxnReply (at 2) true (DeleteAnswer (pos 2) 0 [] ∷ [])
    ∷ get a ⇒ found 2 (row a 2 2 one 1 ∷ [])
    ∷ delete a ⇒ deleted 3 1
    ∷ Defragment ⇒ Defragmented (at 3)
    ∷ alarm Get SpaceAlarm 0 ⇒ AlarmsReply (at 3) true
    ∷ alarm Get Corrupt 0 ⇒ AlarmsReply (at 3) false
    ∷ [])
alarm_refuses = refl

-- a lease is one cell, and the put that passes the quota is the fourth
lease_counts : IsRun (opening 7 9 1)
    (grant (pos 10) (pos 0) ⇒ granted 1 1 10
    ∷ Status ⇒ StatusReply (at 1) 432 48
    ∷ put foo bar ⇒ done 2
    ∷ Status ⇒ StatusReply (at 2) 432 240
    ∷ put foo bar ⇒ done 3
    ∷ put foo bar ⇒ done 4
    ∷ Status ⇒ StatusReply (at 4) 432 432
    ∷ put foo bar ⇒ Refused NoSpace
    ∷ [])
lease_counts = refl

-- a quota below what is used leaves what is there, and a greater one leaves the alarm
live_quota :
    let S = state_after (opening 7 8 1) (replicate 3 (put foo bar)) in
    let T = record S { quota = 4 } in
    IsRun T (Status ⇒ StatusReply (at 4) 192 384 ∷ delete foo ⇒ deleted 5 1 ∷ put foo bar ⇒ Refused NoSpace ∷ [])
    × IsRun (record (state_after T (delete foo ∷ put foo bar ∷ [])) { quota = 256 })
    (put foo bar ⇒ Refused NoSpace
    ∷ alarm Deactivate SpaceAlarm 0 ⇒ AlarmsReply (at 5) true
    ∷ put foo bar ⇒ done 6
    ∷ [])
live_quota = (refl, refl)
