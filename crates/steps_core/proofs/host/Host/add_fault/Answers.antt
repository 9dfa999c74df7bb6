use Rattle.std.proofs.Common.{◌∙◌, sym, arith}
use Rattle.steps_core.proofs.Shown.{shown_there}
use Rattle.steps_core.proofs.Added.{few, is_short, is_enough, is_taken, short_fault, no_fault}
use Rattle.steps_core.proofs.host.Host.add_fault.Goals as goal

pub returns-then-contains_key : goal.returns-then-contains_key
returns-then-contains_key c =
    let h = c.args.self.now in
    let es = c.self.inside.tenants.entries in
    sym (is_taken _ _ _ _ _ (sym c.is_name.ensures ∙ c.if-not-is_name.false) (sym c.within_limits.ensures ∙ c.if-not-within_limits.false)
    (few es c.self.inside.desk h c.len.result c.self.view_is c.len.ensures.len (omega (arith, c.if-len-ge-MAX_TENANTS.false)))
    (sym (shown_there c.args.name.now es c.self.inside.desk h c.self.view_is) ∙ sym c.contains_key.ensures ∙ c.if-contains_key.true))

pub returns-then-unreserved-segments_for : goal.returns-then-unreserved-segments_for
returns-then-unreserved-segments_for c =
    let h = c.args.self.now in
    let es = c.self.inside.tenants.entries in
    sym (short_fault _ _ _ _ _ (sym c.is_name.ensures ∙ c.if-not-is_name.false) (sym c.within_limits.ensures ∙ c.if-not-within_limits.false)
    (few es c.self.inside.desk h c.len.result c.self.view_is c.len.ensures.len (omega (arith, c.if-len-ge-MAX_TENANTS.false)))
    (sym (shown_there c.args.name.now es c.self.inside.desk h c.self.view_is) ∙ sym c.contains_key.ensures ∙ c.if-contains_key.false)
    (is_short es c.self.inside.desk h _ c.self.view_is c.self.invariant (omega (arith, c.unreserved.ensures, c.if-unreserved-segments_for.true, c.segments_for.ensures))))

pub returns : goal.returns
returns c =
    let h = c.args.self.now in
    let es = c.self.inside.tenants.entries in
    sym (no_fault _ _ _ _ _ (sym c.is_name.ensures ∙ c.if-not-is_name.false) (sym c.within_limits.ensures ∙ c.if-not-within_limits.false)
    (few es c.self.inside.desk h c.len.result c.self.view_is c.len.ensures.len (omega (arith, c.if-len-ge-MAX_TENANTS.false)))
    (sym (shown_there c.args.name.now es c.self.inside.desk h c.self.view_is) ∙ sym c.contains_key.ensures ∙ c.if-contains_key.false)
    (is_enough es c.self.inside.desk h _ c.self.view_is c.self.invariant (omega (arith, c.unreserved.ensures, c.if-unreserved-segments_for.false, c.segments_for.ensures))))
