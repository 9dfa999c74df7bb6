use Rattle.std.proofs.Common.{◌≡◌, ◌∙◌, sym, ap, refl, true, true≢false, is_some, None}
use Rattle.steps_core.specs.Hosts.{has_tenant}
use Rattle.steps_core.proofs.Shown.{shown_at}
use Rattle.steps_core.proofs.Resized.{all_passed, can_reserve, requoted_or_not, resizes_if, stays_if_not}
use Rattle.steps_core.proofs.host.Host.change_quota.Goals as goal

pub resize-requires-clause-can : goal.resize-requires-clause-can
resize-requires-clause-can c = can_reserve c.args.name.now c.self.inside.tenants.entries c.self.inside.desk c.args.self.now c.in-Some.tenant.now c.args.quota c.self.view_is c.self.invariant (sym c.in-Some.ensures.value) c.requires

pub invariant_of-self : goal.invariant_of-self
invariant_of-self c =
    let w = c.resize.new.tenant in
    requoted_or_not c.args.name.now c.self.inside.tenants.entries _ c.self.inside.desk _ c.in-Some.tenant.now w c.args.quota c.resize.result c.self.invariant (sym c.in-Some.ensures.value) (c.get_mut.follows.holds w).0 refl c.resize.ensures.ok c.resize.ensures.err

pub unreachable-requires : goal.unreachable-requires
unreachable-requires c =
    let there : has_tenant c.args.self.now c.args.name.now ≡ true = (all_passed _ _ _ _ c.requires).1.1.0 in
    true≢false (sym there ∙ ap is_some (shown_at c.args.name.now c.self.inside.tenants.entries c.self.inside.desk c.args.self.now None c.self.view_is c.in-None.ensures.value))

pub returns-clause-resizes : goal.returns-clause-resizes
returns-clause-resizes c =
    let w = c.resize.new.tenant in
    resizes_if c.args.name.now c.self.inside.tenants.entries _ c.self.inside.desk c.resize.new.pool c.in-Some.tenant.now w c.args.quota c.args.self.now c.resize.result c.self.view_is c.self.invariant (sym c.in-Some.ensures.value) (c.get_mut.follows.holds w).0 c.resize.ensures.ok

pub returns-clause-err : goal.returns-clause-err
returns-clause-err c =
    let w = c.resize.new.tenant in
    stays_if_not c.args.name.now c.self.inside.tenants.entries _ c.self.inside.desk c.resize.new.pool c.in-Some.tenant.now w c.args.self.now c.resize.result c.self.view_is (sym c.in-Some.ensures.value) (c.get_mut.follows.holds w).0 c.resize.ensures.err
