use Rattle.std.proofs.Common.{◌≡◌, ◌∙◌, ℤ, Some, ap, arith, false, is_some, of_z, pos, rules, subst, sym, to_z, true, w64}
use Rattle.std.specs.Prelude.{◌-◌, [], if◌then◌else◌}
use Rattle.etcd_types.specs.declared.reply.Header.{Header}
use Rattle.revision_store.specs.Stored.{reads}
use Rattle.std.proofs.lemmas.Int.{to_z_pos}
use Rattle.etcd_types.specs.declared.reply.Reply.TheVariants.{TimeToLive as TimeReply}
use Rattle.etcd_model.specs.Leases.{attached, lease_at}
use Rattle.etcd_model.specs.Operations.{has_lease}
use Rattle.lease_book.proofs.Standing.{has_is}
use Rattle.tenant_machine.specs.Tenants.{MachineState, tenant}
use Rattle.tenant_machine.specs.declared.planned.Effect.TheVariants.{Nothing}
use Rattle.tenant_machine.proofs.DecidingLeases.{time_does}
use Rattle.tenant_machine.proofs.EarlyRefusals.{no_keys}
use Rattle.tenant_machine.proofs.LeaseEnds.{time_within}
use Rattle.tenant_machine.proofs.machine.Machine.plan_time_to_live.Goals as goal

pub keys_asked-requires : goal.keys_asked-requires
keys_asked-requires c =
    let id = to_z w64 (of_z w64 c.args.id) in
    subst (λ (m : MachineState). has_lease m.leases.leases id ≡ true) c.self.view_is
    (sym (has_is c.self.inside.leases.leases id) ∙ ap is_some (sym c.in-Some.ensures.lease))

pub overflow_cast-saturating_sub : goal.overflow_cast-saturating_sub
overflow_cast-saturating_sub c =
    let id = to_z w64 (of_z w64 c.args.id) in
    let within = time_within c.self.inside.store c.self.inside.leases c.self.inside.moment id c.in-Some.lease c.self.invariant.0.keeps (sym c.in-Some.ensures.lease) c.in-Some.ensures.ttl in
    omega (arith, within.0, c.saturating_sub.ensures)

pub returns-clause-does : goal.returns-clause-does
returns-clause-does c =
    let bits : to_z w64 (of_z w64 c.args.id) ≡ c.args.id = search rules in
    let l = c.in-Some.lease in
    let m = c.args.self.now in
    let found : lease_at c.self.inside.leases.leases c.args.id ≡ Some l = ap (lease_at c.self.inside.leases.leases) (sym bits) ∙ sym c.in-Some.ensures.lease in
    let within = time_within c.self.inside.store c.self.inside.leases c.self.inside.moment c.args.id l c.self.invariant.0.keeps found c.in-Some.ensures.ttl in
    let left : to_z w64 c.saturating_sub.result ≡ pos (l.end - m.moment) = to_z_pos w64 c.saturating_sub.result (omega (arith, within.0, c.saturating_sub.ensures)) ∙ ap pos (c.saturating_sub.ensures ∙ ap (λ (n : MachineState). l.end - n.moment) c.self.view_is) in
    let ttl : to_z w64 l.ttl ≡ pos l.ttl = to_z_pos w64 l.ttl (omega (arith, within.1)) in
    let planned = c.told-2.ensures ∙ (λ i. record { effect = Nothing; reply = TimeReply c.header-header.result (bits i) (left i) (ttl i) c.in_ok-keys.keys }) in
    time_does m c.args.id c.args.asked l c.in_ok-keys.keys c.told-2.result (subst (λ (n : MachineState). lease_at n.leases.leases c.args.id ≡ Some l) c.self.view_is found)
    (c.in_ok-keys.ensures.keys ∙ ap (λ (id : ℤ). if c.args.asked then attached (reads m.store) id else []) bits)
    (planned ∙ ap (λ (h : Header). record { effect = Nothing; reply = TimeReply h c.args.id (pos (l.end - m.moment)) (pos l.ttl) c.in_ok-keys.keys }) c.header-header.ensures)

pub returns-in_err-keys-clause-sure : goal.returns-in_err-keys-clause-sure
returns-in_err-keys-clause-sure c = λ nothing.
    let bits : to_z w64 (of_z w64 c.args.id) ≡ c.args.id = search rules in
    let m = c.args.self.now in
    let found : lease_at c.self.inside.leases.leases c.args.id ≡ Some c.in-Some.lease = ap (lease_at c.self.inside.leases.leases) (sym bits) ∙ sym c.in-Some.ensures.lease in
    let there : has_lease m.leases.leases c.args.id ≡ true =
    subst (λ (n : MachineState). has_lease n.leases.leases c.args.id ≡ true) c.self.view_is (sym (has_is c.self.inside.leases.leases c.args.id) ∙ ap is_some found) in
    let no : false ≡ true = c.in_err-keys.ensures.sure (λ asked. ap (attached (reads m.store)) bits ∙ no_keys (tenant m) c.args.id c.args.asked there nothing asked) in
    absurd (cc)
