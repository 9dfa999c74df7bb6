-- Puts and deletes, and what they are refused for.
use Rattle.std.proofs.Common.{[], ◌∷◌, refl, true}
use Rattle.std.specs.Prelude.{pos, Some}
use Rattle.etcd_types.specs.declared.alarm.AlarmAction.TheVariants.{Activate}
use Rattle.etcd_types.specs.declared.alarm.AlarmKind.TheVariants.{NoSpace as SpaceAlarm}
use Rattle.etcd_types.specs.declared.step.Step.TheVariants.{Range, Put, Delete}
use Rattle.etcd_types.specs.declared.refusal.Refusal.TheVariants.{NoKey, ValueGiven, LeaseGiven, KeyNotFound, NoSpace, LeaseNotFound}
use Rattle.etcd_types.specs.declared.reply.Reply.TheVariants.{Put as PutReply, Delete as DeleteReply, Alarms as AlarmsReply, Refused}
use Rattle.etcd_model.proofs.Terms.{◌⇒◌, IsRun, fresh, a, b, c, foo, bar, one, two, three, row, put_of, put, put_leased, every, get, delete_of, delete, alarm, at, done, found, deleted}

first_put : IsRun fresh
    (put foo bar ⇒ done 2
    ∷ get foo ⇒ found 2 (row foo 2 2 bar 1 ∷ [])
    ∷ get b ⇒ found 2 []
    ∷ [])
first_put = refl

-- the row before comes with the answer where it is asked for
row_before : IsRun fresh
    (Put (record (put_of a one) { prev_kv = true }) ⇒ done 2
    ∷ Put (record (put_of a two) { prev_kv = true }) ⇒ PutReply (at 3) (Some (row a 2 2 one 1))
    ∷ [])
row_before = refl

present_value_stays : IsRun fresh
    (put a one ⇒ done 2
    ∷ Put (record (put_of a []) { ignore_value = true }) ⇒ done 3
    ∷ get a ⇒ found 3 (row a 2 3 one 2 ∷ [])
    ∷ [])
present_value_stays = refl

-- a delete of nothing is no revision
delete_of_nothing : IsRun fresh
    (delete a ⇒ deleted 1 0
    ∷ put a one ⇒ done 2
    ∷ delete a ⇒ deleted 3 1
    ∷ delete a ⇒ deleted 3 0
    ∷ put a one ⇒ done 4
    ∷ get a ⇒ found 4 (row a 4 4 one 1 ∷ [])
    ∷ [])
delete_of_nothing = refl

deletes_of_an_interval : IsRun fresh
    (put a one ⇒ done 2
    ∷ put b two ⇒ done 3
    ∷ put c three ⇒ done 4
    ∷ Delete (record (delete_of a c) { prev_kv = true }) ⇒ DeleteReply (at 5) 2 (row a 2 2 one 1 ∷ row b 3 3 two 1 ∷ [])
    ∷ Range every ⇒ found 5 (row c 4 4 three 1 ∷ [])
    ∷ [])
deletes_of_an_interval = refl

-- fields come before the alarm, and the alarm before what is looked up
put_refusals : IsRun fresh
    (Put (record (put_of b []) { ignore_value = true }) ⇒ Refused KeyNotFound
    ∷ Put (record (put_of b one) { ignore_value = true }) ⇒ Refused ValueGiven
    ∷ Put (record (put_of b []) { ignore_lease = true; lease = pos 77 }) ⇒ Refused LeaseGiven
    ∷ put_leased b [] (pos 77) ⇒ Refused LeaseNotFound
    ∷ alarm Activate SpaceAlarm 0 ⇒ AlarmsReply (at 1) true
    ∷ put_leased b [] (pos 77) ⇒ Refused NoSpace
    ∷ put_leased [] [] (pos 77) ⇒ Refused NoKey
    ∷ [])
put_refusals = refl
