-- Watches: their slots, and which events a take gives.
use Rattle.std.proofs.Common.{◌+◌, [], ◌∷◌, refl, true, false}
use Rattle.std.specs.Prelude.{pos, replicate, map}
use Rattle.std.specs.List.{range_with_len}
use Rattle.etcd_types.specs.declared.step.Step.TheVariants.{Compact, Watch, Take, DropWatch, Tick, CatchUp}
use Rattle.etcd_types.specs.declared.refusal.Refusal.TheVariants.{TooManyWatches}
use Rattle.etcd_types.specs.declared.reply.Reply.TheVariants.{Compacted, Created, Events, Progress, Canceled, Quiet, Refused}
use Rattle.etcd_model.specs.Machine.{state_after}
use Rattle.etcd_model.proofs.Terms.{◌⇒◌, IsRun, fresh, a, b, foo, bar, one, row, put, put_leased, delete, watch_of, grant, at, done, deleted, granted, events, put_event, delete_event}

-- the keys of a lease that ran out are deleted in key order, in one revision
lease_end_is_watched : IsRun fresh
    (grant (pos 10) (pos 0) ⇒ granted 1 1 10
    ∷ put_leased b one (pos 1) ⇒ done 2
    ∷ put_leased a one (pos 1) ⇒ done 3
    ∷ Tick 10 ⇒ Quiet
    ∷ Watch (watch_of (0 ∷ []) (0 ∷ []) (pos 4)) ⇒ Created (at 4) (pos 0) 0
    ∷ Take 0 ⇒ events 4 (delete_event a 4 ∷ delete_event b 4 ∷ [])
    ∷ [])
lease_end_is_watched = refl

-- a watch is told of what was written before it, and of no other key
watch_of_the_past : IsRun fresh
    (put foo bar ⇒ done 2
    ∷ grant (pos 10) (pos 0) ⇒ granted 2 1 10
    ∷ put_leased b [] (pos 1) ⇒ done 3
    ∷ Watch (watch_of foo [] (pos 2)) ⇒ Created (at 3) (pos 0) 0
    ∷ Take 0 ⇒ events 3 (put_event (row foo 2 2 bar 1) ∷ [])
    ∷ [])
watch_of_the_past = refl

-- a response has the events of sixteen revisions at most
watch_of_twenty_puts : IsRun (state_after fresh (replicate 20 (put a one)))
    (Watch (watch_of a [] (pos 2)) ⇒ Created (at 21) (pos 0) 0
    ∷ CatchUp 3 ⇒ Quiet
    ∷ Take 0 ⇒ events 21 (map (λ n. put_event (row a 2 (n + 1) one n)) (range_with_len 1 16))
    ∷ CatchUp 3 ⇒ Quiet
    ∷ Take 0 ⇒ events 21 (map (λ n. put_event (row a 2 (n + 1) one n)) (range_with_len 17 4))
    ∷ Take 0 ⇒ Quiet
    ∷ [])
watch_of_twenty_puts = refl

-- a watch that was there first is told the same
watch_of_forty_puts : IsRun (state_after fresh (Watch (watch_of a [] (pos 2)) ∷ replicate 40 (put a [])))
    (Take 0 ⇒ events 41 (map (λ n. put_event (row a 2 (n + 1) [] n)) (range_with_len 1 16))
    ∷ Take 0 ⇒ events 41 (map (λ n. put_event (row a 2 (n + 1) [] n)) (range_with_len 17 16))
    ∷ Take 0 ⇒ events 41 (map (λ n. put_event (row a 2 (n + 1) [] n)) (range_with_len 33 8))
    ∷ Take 0 ⇒ Quiet
    ∷ [])
watch_of_forty_puts = refl

-- a watch that missed what was compacted is cancelled, and a delete at the compacted revision is still told
watch_and_compaction : IsRun fresh
    (put a one ⇒ done 2
    ∷ put a one ⇒ done 3
    ∷ put b one ⇒ done 4
    ∷ delete a ⇒ deleted 5 1
    ∷ Watch (watch_of a [] (pos 3)) ⇒ Created (at 5) (pos 0) 0
    ∷ Watch (record (watch_of a [] (pos 5)) { prev_kv = true }) ⇒ Created (at 5) (pos 0) 1
    ∷ CatchUp 100 ⇒ Quiet
    ∷ Compact (pos 5) ⇒ Compacted (at 5)
    ∷ Take 0 ⇒ Canceled (at 5) (pos 0) (pos 5)
    ∷ Take 1 ⇒ events 5 (delete_event a 5 ∷ [])
    ∷ Take 0 ⇒ Quiet
    ∷ [])
watch_and_compaction = refl

watch_slots : IsRun (state_after fresh (replicate 64 (Watch (watch_of a [] (pos 0)))))
    (Watch (watch_of a [] (pos 0)) ⇒ Refused TooManyWatches
    ∷ DropWatch 7 ⇒ Quiet
    ∷ Watch (record (watch_of a [] (pos 0)) { watch_id = pos 9 }) ⇒ Created (at 1) (pos 9) 7
    ∷ put a [] ⇒ done 2
    ∷ Take 7 ⇒ Events (at 2) (pos 9) (put_event (row a 2 2 [] 1) ∷ [])
    ∷ [])
watch_slots = refl

watch_filters : IsRun fresh
    (put a one ⇒ done 2
    ∷ Watch (record (watch_of a [] (pos 2)) { filters = record { no_put = true; no_delete = false }; watch_id = pos 5 }) ⇒ Created (at 2) (pos 5) 0
    ∷ Take 0 ⇒ Quiet
    ∷ delete a ⇒ deleted 3 1
    ∷ Take 0 ⇒ Events (at 3) (pos 5) (delete_event a 3 ∷ [])
    ∷ Take 200 ⇒ Quiet
    ∷ [])
watch_filters = refl

-- word that there is no event comes 600 seconds after the last response; a quiet take is none
progress : IsRun fresh
    (Tick 100 ⇒ Quiet
    ∷ Watch (record (watch_of a [] (pos 0)) { progress_notify = true }) ⇒ Created (at 1) (pos 0) 0
    ∷ Tick 699 ⇒ Quiet
    ∷ Take 0 ⇒ Quiet
    ∷ Tick 700 ⇒ Quiet
    ∷ Take 0 ⇒ Progress (at 1) (pos 0)
    ∷ Take 0 ⇒ Quiet
    ∷ put b [] ⇒ done 2
    ∷ Tick 1300 ⇒ Quiet
    ∷ Take 0 ⇒ Progress (at 2) (pos 0)
    ∷ put a one ⇒ done 3
    ∷ Tick 1900 ⇒ Quiet
    ∷ Take 0 ⇒ events 3 (put_event (row a 3 3 one 1) ∷ [])
    ∷ Take 0 ⇒ Quiet
    ∷ Watch (record (watch_of a [] (pos 10)) { progress_notify = true }) ⇒ Created (at 3) (pos 0) 1
    ∷ Tick 2500 ⇒ Quiet
    ∷ Take 1 ⇒ Quiet
    ∷ [])
progress = refl
