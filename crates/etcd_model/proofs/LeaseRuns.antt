-- Leases: their IDs, their ends, and the keys that they take along.
use Rattle.std.proofs.Common.{[], ◌∷◌, refl, true, false}
use Rattle.std.specs.Prelude.{pos, negsuc}
use Rattle.etcd_types.specs.declared.step.Step.TheVariants.{Range, Revoke, KeepAlive, TimeToLive, Leases, Tick}
use Rattle.etcd_types.specs.declared.refusal.Refusal.TheVariants.{LeaseNotFound, LeaseExists, TtlTooLarge, UsedUp}
use Rattle.etcd_types.specs.declared.reply.Reply.TheVariants.{Revoked, KeptAlive, TimeToLive as TimeReply, Leases as LeasesReply, Quiet, Refused}
use Rattle.etcd_model.proofs.Terms.{◌⇒◌, IsRun, fresh, a, b, one, row, with_lease, put, put_leased, every, get, grant, at, done, found, granted}

-- a lease of ten seconds from the moment 5 has run out at 15
lease_runs_out : IsRun fresh
    (Tick 5 ⇒ Quiet
    ∷ grant (pos 10) (pos 0) ⇒ granted 1 1 10
    ∷ put_leased b one (pos 1) ⇒ done 2
    ∷ put_leased a one (pos 1) ⇒ done 3
    ∷ Tick 14 ⇒ Quiet
    ∷ Range every ⇒ found 3 (with_lease (pos 1) (row a 3 3 one 1) ∷ with_lease (pos 1) (row b 2 2 one 1) ∷ [])
    ∷ Tick 15 ⇒ Quiet
    ∷ Range every ⇒ found 4 []
    ∷ [])
lease_runs_out = refl

unknown_lease : IsRun fresh
    (KeepAlive (pos 9) ⇒ KeptAlive (at 1) (pos 9) (pos 0)
    ∷ TimeToLive (pos 9) false ⇒ TimeReply (at 1) (pos 9) (negsuc 0) (pos 0) []
    ∷ Revoke (pos 9) ⇒ Refused LeaseNotFound
    ∷ [])
unknown_lease = refl

longest_lease : IsRun fresh
    (grant (pos 9000000000) (pos 0) ⇒ granted 1 1 9000000000
    ∷ grant (pos 9000000001) (pos 0) ⇒ Refused TtlTooLarge
    ∷ [])
longest_lease = refl

-- each lease that runs out is a revision of its own
chosen_lease_ids : IsRun fresh
    (grant (pos 5) (pos 1) ⇒ granted 1 1 5
    ∷ grant (pos 3) (pos 0) ⇒ granted 1 2 3
    ∷ Leases ⇒ LeasesReply (at 1) (pos 1 ∷ pos 2 ∷ [])
    ∷ put_leased a [] (pos 1) ⇒ done 2
    ∷ put_leased b [] (pos 2) ⇒ done 3
    ∷ Tick 5 ⇒ Quiet
    ∷ Range every ⇒ found 5 []
    ∷ grant (pos 0) (pos 0) ⇒ granted 5 3 1
    ∷ [])
chosen_lease_ids = refl

-- a put without a lease takes the key off its old one
lease_taken_off_a_key : IsRun fresh
    (grant (pos 10) (pos 5) ⇒ granted 1 5 10
    ∷ grant (pos 10) (pos 5) ⇒ Refused LeaseExists
    ∷ put_leased a [] (pos 5) ⇒ done 2
    ∷ TimeToLive (pos 5) true ⇒ TimeReply (at 2) (pos 5) (pos 10) (pos 10) (a ∷ [])
    ∷ put a [] ⇒ done 3
    ∷ TimeToLive (pos 5) true ⇒ TimeReply (at 3) (pos 5) (pos 10) (pos 10) []
    ∷ Revoke (pos 5) ⇒ Revoked (at 3)
    ∷ get a ⇒ found 3 (row a 2 3 [] 2 ∷ [])
    ∷ [])
lease_taken_off_a_key = refl

kept_alive : IsRun fresh
    (grant (pos 10) (pos 0) ⇒ granted 1 1 10
    ∷ Tick 8 ⇒ Quiet
    ∷ KeepAlive (pos 1) ⇒ KeptAlive (at 1) (pos 1) (pos 10)
    ∷ Tick 17 ⇒ Quiet
    ∷ TimeToLive (pos 1) false ⇒ TimeReply (at 1) (pos 1) (pos 1) (pos 10) []
    ∷ Tick 18 ⇒ Quiet
    ∷ Leases ⇒ LeasesReply (at 1) []
    ∷ [])
kept_alive = refl

-- the clock stops at the last moment, and nothing runs out there any more
last_moment : IsRun fresh
    (Tick 18446744073709551615 ⇒ Quiet
    ∷ grant (pos 1) (pos 0) ⇒ granted 1 1 1
    ∷ Tick 3 ⇒ Quiet
    ∷ TimeToLive (pos 1) false ⇒ TimeReply (at 1) (pos 1) (pos 1) (pos 1) []
    ∷ [])
last_moment = refl

-- where no more IDs are chosen, one that is given is still taken
lease_ids_used_up : IsRun (record fresh { counter = 4611686018427387904 })
    (grant (pos 5) (pos 0) ⇒ Refused UsedUp
    ∷ grant (pos 5) (pos 3) ⇒ granted 1 3 5
    ∷ [])
lease_ids_used_up = refl
