-- What is planned for a lease call is what the machine does with it.
use Rattle.std.proofs.Common.{◌≡◌, ◌∙◌, ◌<◌, ◌≤◌, ◌+◌, Bool, true, false, refl, ap, sym, subst, arith, List, map, inl, inr, length, if◌then◌else◌}
use Rattle.std.specs.Prelude.{◌&&◌, ◌||◌, [], ◌∷◌, ◌-◌, ℕ, ℤ, Option, Some, None, nat_le, int_lt, pos}
use Rattle.std.specs.Ordering.{int_eq}
use Rattle.std.proofs.lemmas.Bool.{cases_lt}
use Rattle.etcd_types.specs.Limits.{last_lease_id, last_revision, max_ttl}
use Rattle.etcd_types.specs.declared.lease.GrantReq.{GrantReq}
use Rattle.etcd_types.specs.declared.step.Step.TheVariants.{Grant}
use Rattle.etcd_types.specs.declared.refusal.Refusal.{Refusal}
use Rattle.etcd_types.specs.declared.refusal.Refusal.TheVariants.{LeaseExists, NoSpace, TtlTooLarge, UsedUp}
use Rattle.etcd_types.specs.declared.reply.Reply.TheVariants.{Refused, TimeToLive as TimeReply}
use Rattle.etcd_model.specs.declared.state.Lease.{Lease}
use Rattle.etcd_model.specs.Fields.{refused_if}
use Rattle.etcd_model.specs.Leases.{attached, granted_ttl, lease_at, put_lease}
use Rattle.etcd_model.specs.Operations.{first_refusal, has_lease}
use Rattle.etcd_model.specs.Stepping.{grant_id, is_taken_id, look_up, outcome, time_left}
use Rattle.etcd_model.specs.Store.{kept_store}
use Rattle.etcd_model.specs.Tenant.{header, stays, used}
use Rattle.model_laws.proofs.BoundLaws.{grant_has_id}
use Rattle.model_laws.proofs.CounterLaws.{grant_adds}
use Rattle.lease_book.specs.Book.{Book, leases_of}
use Rattle.lease_book.specs.declared.book.Booked.{Booked}
use Rattle.lease_book.specs.Granting.{IsGrant, grant_refusal}
use Rattle.lease_book.specs.declared.granting.NewLease.{NewLease}
use Rattle.revision_store.specs.Stored.{reads}
use Rattle.tenant_machine.specs.Deciding.{Does, early_refusal, granted, past_early}
use Rattle.tenant_machine.specs.Tenants.{MachineState, cells_used, tenant, told_book}
use Rattle.tenant_machine.specs.Plans.{Plan}
use Rattle.tenant_machine.specs.declared.planned.Effect.TheVariants.{Alarm, Nothing, Grant as GrantEffect}
use Rattle.tenant_machine.proofs.DecidingOps.{does_as}
use Rattle.tenant_machine.proofs.EarlyRefusals.{done_past_gate, is_kept, passes, refused_past_gate}

-- ---- a grant

-- a grant that is not refused early is refused for an ID that is taken alone
grant_looked_up : (m : MachineState) (g : GrantReq) → early_refusal (tenant m) (Grant g) ≡ None → grant_refusal m.leases g ≡ look_up kept_store (tenant m) (Grant g)
grant_looked_up m g let_through = by (int_lt max_ttl g.ttl) (nat_le last_revision m.store.kept.current) (nat_le last_lease_id m.leases.counter && int_eq g.id (pos 0)) (is_taken_id m.leases.leases g.id) (m.alarm && true) let_through
  where
    by : (long high used_up taken full : Bool) → first_refusal (first_refusal (refused_if long TtlTooLarge ∷ refused_if ((high && false) || used_up) UsedUp ∷ []) ∷ refused_if full NoSpace ∷ []) ≡ None
        → (if long then Some TtlTooLarge else if used_up then Some UsedUp else if taken then Some LeaseExists else None) ≡ refused_if taken LeaseExists
    by false high false true full h = refl
    by false high false false full h = refl
    by true high used_up taken full h = absurd (cc)
    by false true true taken full h = absurd (cc)
    by false false true taken full h = absurd (cc)

pub grant_refused : (m : MachineState) (g : GrantReq) (r : Refusal) (p : Plan) → early_refusal (tenant m) (Grant g) ≡ None → grant_refusal m.leases g ≡ Some r → p ≡ record { effect = Nothing; reply = Refused r } → Does m p (past_early (tenant m) (Grant g))
grant_refused m g r p let_through is planned =
    subst (Does m p) (sym (refused_past_gate (tenant m) (Grant g) r (sym (grant_looked_up m g let_through) ∙ is))) (does_as m p _ _ planned (record { reply = refl; state = refl }))

pub grant_does : (m : MachineState) (g : GrantReq) (new : NewLease) (p : Plan) → early_refusal (tenant m) (Grant g) ≡ None → IsGrant m.leases m.moment g new
    → (cells_used m.store.kept m.leases.leases + 1 ≤ m.quota → p ≡ record { effect = GrantEffect new; reply = granted m new.lease })
    → (m.quota < cells_used m.store.kept m.leases.leases + 1 → p ≡ record { effect = Alarm true; reply = Refused NoSpace })
    → Does m p (past_early (tenant m) (Grant g))
grant_does m g new p let_through is admitted refused =
    let t = tenant m in
    let o = outcome kept_store t (Grant g) in
    let id = grant_id m.leases.counter m.leases.leases g.id in
    let none : look_up kept_store t (Grant g) ≡ None = sym (grant_looked_up m g let_through) ∙ is.granted in
    let unused : has_lease m.leases.leases id ≡ false = subst (λ (l : Lease). has_lease m.leases.leases l.id ≡ false) is.lease is.fits.id in
    let one_more : length (put_lease m.moment m.leases.leases id (granted_ttl g.ttl)) ≡ length m.leases.leases + 1 = grant_adds m.moment m.leases.leases id (granted_ttl g.ttl) unused in
    let same : used kept_store o.state ≡ cells_used m.store.kept m.leases.leases + 1 = omega (arith, one_more) in
    elim (cases_lt m.quota (cells_used m.store.kept m.leases.leases + 1)) [
      | inr within ↦
          subst (Does m p) (sym (done_past_gate t (Grant g) none ∙ is_kept t (Grant g) o (omega (arith, same, within))))
          (does_as m p _ o (admitted within) (record {
            reply = ap (granted m) is.lease;
            state = λ i. record (tenant m) { leases = put_lease m.moment m.leases.leases (is.lease i).id (is.lease i).ttl; counter = is.counter i };
          }))
      | inl past ↦
          subst (Does m p) (sym (done_past_gate t (Grant g) none ∙ passes t (Grant g) o refl (omega (arith, same, past))))
          (does_as m p _ _ (refused past) (record { reply = refl; state = refl }))
    ]

-- the ID of a grant is not 0, and the counter stays above it
pub grant_numbers : (m : MachineState) (g : GrantReq) (new : NewLease) → 1 ≤ m.leases.counter → IsGrant m.leases m.moment g new → (int_eq new.lease.id (pos 0) ≡ false) × (1 ≤ new.counter)
grant_numbers m g new least is =
    let book = m.leases in
    let bound = book.counter + length book.leases in
    let has = grant_has_id bound book.counter book.leases g.id (record { least = least; most = omega arith }) (omega arith) (not_full (nat_le last_lease_id book.counter && int_eq g.id (pos 0)) is.granted) in
    (ap (λ (l : Lease). int_eq l.id (pos 0)) is.lease ∙ has.0, omega (arith, is.counter, has.1.least))
  where
    not_full : (b : Bool) → grant_refusal m.leases g ≡ None → (nat_le last_lease_id m.leases.counter && int_eq g.id (pos 0)) ≡ false
    not_full b granted = by (int_lt max_ttl g.ttl) (nat_le last_lease_id m.leases.counter && int_eq g.id (pos 0)) (is_taken_id m.leases.leases g.id) granted
      where
        by : (long full taken : Bool) → (if long then Some TtlTooLarge else if full then Some UsedUp else if taken then Some LeaseExists else None) ≡ None → full ≡ false
        by true full taken h = absurd (cc)
        by false true taken h = absurd (cc)
        by false false taken h = refl

-- ---- the list of leases

pub ids_booked : (bs : List Booked) → map (λ b. b.lease.id) bs ≡ map (λ l. l.id) (leases_of bs)
ids_booked [] = refl
ids_booked (b ∷ bs) = ap (λ ids. b.lease.id ∷ ids) (ids_booked bs)

-- ---- the time that a lease has left

pub time_does : (m : MachineState) (id : ℤ) (asked : Bool) (l : Lease) (keys : List (List ℕ)) (p : Plan) → lease_at m.leases.leases id ≡ Some l → keys ≡ (if asked then attached (reads m.store) id else [])
    → p ≡ record { effect = Nothing; reply = TimeReply (header kept_store (tenant m)) id (pos (l.end - m.moment)) (pos l.ttl) keys }
    → Does m p (stays kept_store (tenant m) (time_left kept_store (tenant m) id asked (lease_at m.leases.leases id)))
time_does m id asked l keys p is are planned =
    subst (λ (o : Option Lease). Does m p (stays kept_store (tenant m) (time_left kept_store (tenant m) id asked o))) (sym is)
    (does_as m p _ _ planned (record { reply = ap (TimeReply (header kept_store (tenant m)) id (pos (l.end - m.moment)) (pos l.ttl)) are; state = refl }))

-- a grant is the same of a book as it is told
pub told_grant : (book : Book) (moment : ℕ) (request : GrantReq) (new : NewLease) → IsGrant book moment request new → IsGrant (told_book book) moment request new
told_grant book moment request new is = record {
  granted = is.granted;
  lease = is.lease;
  counter = is.counter;
  fits = record { id = is.fits.id; ttl = is.fits.ttl };
}
