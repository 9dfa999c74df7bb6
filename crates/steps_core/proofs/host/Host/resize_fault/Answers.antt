use Rattle.std.proofs.Common.{◌∙◌, sym, ap, refl, None, Some, is_some, arith}
use Rattle.steps_core.proofs.Shown.{shown_at}
use Rattle.tenant_rules.proofs.Faults.{by_tests}
use Rattle.steps_core.proofs.Resized.{are_lacking, are_enough}
use Rattle.steps_core.proofs.host.Host.resize_fault.Goals as goal

pub returns-in_default : goal.returns-in_default
returns-in_default c =
    let h = c.args.self.now in
    let es = c.self.inside.tenants.entries in
    sym (by_tests _ _ _ _ (sym c.is_name.ensures ∙ c.if-not-is_name.false) (sym c.is_quota.ensures ∙ c.if-not-is_quota.false)
    (ap is_some (shown_at c.args.name.now es c.self.inside.desk h None c.self.view_is c.in_default.ensures.value)) refl)

pub returns-then-unreserved-more_wanted : goal.returns-then-unreserved-more_wanted
returns-then-unreserved-more_wanted c =
    let h = c.args.self.now in
    let es = c.self.inside.tenants.entries in
    let v = c.in-Some.tenant.now in
    sym (by_tests _ _ _ _ (sym c.is_name.ensures ∙ c.if-not-is_name.false) (sym c.is_quota.ensures ∙ c.if-not-is_quota.false)
    (ap is_some (shown_at c.args.name.now es c.self.inside.desk h (Some v) c.self.view_is c.in-Some.ensures.value))
    (are_lacking c.args.name.now es c.self.inside.desk h v c.args.quota c.self.view_is c.self.invariant (sym c.in-Some.ensures.value) (omega (arith, c.unreserved.ensures, c.more_wanted.ensures, c.if-unreserved-more_wanted.true))))

pub returns : goal.returns
returns c =
    let h = c.args.self.now in
    let es = c.self.inside.tenants.entries in
    let v = c.in-Some.tenant.now in
    sym (by_tests _ _ _ _ (sym c.is_name.ensures ∙ c.if-not-is_name.false) (sym c.is_quota.ensures ∙ c.if-not-is_quota.false)
    (ap is_some (shown_at c.args.name.now es c.self.inside.desk h (Some v) c.self.view_is c.in-Some.ensures.value))
    (are_enough c.args.name.now es c.self.inside.desk h v c.args.quota c.self.view_is c.self.invariant (sym c.in-Some.ensures.value) (omega (arith, c.unreserved.ensures, c.more_wanted.ensures, c.if-unreserved-more_wanted.false))))
