use Rattle.std.proofs.Common.{◌≡◌, ◌∙◌, sym, ap, refl, true, true≢false, ◌+◌, ◌++◌, ◌∷◌, [], arith}
use Rattle.std.specs.Int.{w64}
use Rattle.std.proofs.lemmas.Int.{to_z_pos}
use Rattle.cell_arena.specs.Loan.{segments_for, undrawn}
use Rattle.etcd_model.specs.Pool.{PoolState}
use Rattle.std.specs.Map.{lookup}
use Rattle.etcd_model.proofs.NamedLaws.{absent, test}
use Rattle.steps_core.specs.declared.tenant.Tenant.{Tenant}
use Rattle.tenant_rules.specs.Rules.{within_limits}
use Rattle.steps_core.proofs.Shown.{shown_there}
use Rattle.steps_core.proofs.Added.{first_fits, some_segments, added, adds, is_short}
use Rattle.tenant_rules.proofs.Faults.{no_faults, neither}
use Rattle.steps_core.proofs.host.Host.admit.Goals as goal

pub unreachable-requires : goal.unreachable-requires
unreachable-requires c =
    let es = c.self.inside.tenants.entries in
    let short = is_short es c.self.inside.desk c.args.self.now (segments_for c.args.quota) c.self.view_is c.self.invariant (omega (arith, c.in_default.ensures.short, c.segments_for.ensures)) in
    true≢false (sym short ∙ (no_faults _ _ _ _ c.requires).1.1.1)

pub append-requires-clause-new : goal.append-requires-clause-new
append-requires-clause-new c =
    let es = c.self.inside.tenants.entries in
    let free = no_faults _ _ _ _ c.requires in
    let none = absent _ (shown_there c.args.name.now es c.self.inside.desk c.args.self.now c.self.view_is ∙ free.1.1.0) in
    ap (lookup (test c.in_ok-key.key.items)) c.reserve.ensures.entries ∙ ap (λ t. lookup (test t) es) c.in_ok-key.ensures.items ∙ none

pub invariant_of-self-2 : goal.invariant_of-self-2
invariant_of-self-2 c =
    let es = c.self.inside.tenants.entries in
    let free = no_faults _ _ _ _ c.requires in
    let limits : within_limits c.args.cluster c.args.quota c.args.first ≡ true = (neither _ _ free.1.0).0 in
    let v : Tenant = record { machine = c.in_ok-machine.machine; ticket = c.in-Ok.ticket } in
    let entries = c.append.ensures ∙ ap (λ xs. xs ++ (c.in_ok-key.key, v) ∷ []) c.reserve.ensures.entries in
    added es c.append.new.tenants.entries c.self.inside.desk _ c.in_ok-key.key v c.segments_for.result c.self.invariant entries
    (c.in_ok-machine.ensures.share ∙ ap undrawn (sym c.segments_for.ensures))
    (omega (arith, c.segments_for.ensures, some_segments c.args.cluster c.args.quota c.args.first limits))
    c.in-Ok.ensures.number c.in-Ok.ensures.ticket refl c.in-Ok.ensures.pool c.in-Ok.ensures.held c.in-Ok.ensures.adds_up

pub returns-clause-adds : goal.returns-clause-adds
returns-clause-adds c =
    let es = c.self.inside.tenants.entries in
    let free = no_faults _ _ _ _ c.requires in
    let limits : within_limits c.args.cluster c.args.quota c.args.first ≡ true = (neither _ _ free.1.0).0 in
    let v : Tenant = record { machine = c.in_ok-machine.machine; ticket = c.in-Ok.ticket } in
    let entries = c.append.ensures ∙ ap (λ xs. xs ++ (c.in_ok-key.key, v) ∷ []) c.reserve.ensures.entries in
    adds es c.append.new.tenants.entries c.self.inside.desk c.in_ok-key.key v c.args.self.now _ c.args.name.now c.args.cluster c.args.quota c.args.first c.self.view_is refl entries c.in_ok-key.ensures.items
    (absent _ free.1.1.0)
    (c.in_ok-machine.ensures.holds c.args.first (to_z_pos w64 c.args.first (first_fits c.args.cluster c.args.quota c.args.first limits)))
    c.in_ok-machine.ensures.share
    (ap (λ (p : PoolState). p.free + p.out) c.in-Ok.ensures.pool)
