use Rattle.std.proofs.Common.{◌≡◌, ◌∙◌, sym, ap, arith, rules, FitsSigned, to_z-of_z}
use Rattle.std.specs.Int.{w64}
use Rattle.cell_arena.specs.Loan.{Share, undrawn}
use Rattle.etcd_model.specs.Pool.{StockState}
use Rattle.tenant_audit.specs.Audits.{first_of}
use Rattle.tenant_registry.proofs.KeptLemmas.{first_is, no_numbers, opened_kept, opened_segments}
use Rattle.tenant_registry.proofs.kept.Kept.open.Goals as goal

pub invariant_of-result : goal.invariant_of-result
invariant_of-result c =
    let o = c.args.opening in
    let fits : FitsSigned w64 o.first = search rules in
    let held : c.move_to.new.to.held ≡ c.segments_for-segments.result =
    omega (arith, c.move_to.ensures.to_held, ap (λ (s : StockState). s.held) c.in_ok-make_room.ensures.ok, ap (λ (s : StockState). s.held) c.in_ok-left.ensures) in
    let share = c.in_ok-machine.ensures.share ∙ ap undrawn (sym c.segments_for-segments.ensures) in
    record {
      kept = opened_kept c.in_ok-machine.machine c.in_ok-audit.audit c.move_to.new.to o c.segments_for-segments.result c.in_ok-audit.ensures
          (c.in_ok-machine.ensures.holds (first_of o.first) (to_z-of_z fits ∙ first_is o.first c.requires.allowed.positive)) share held;
      reserved = sym (ap (λ (s : Share). s.reserved) share);
    }

pub returns-clause-holds : goal.returns-clause-holds
returns-clause-holds c =
    let o = c.args.opening in
    let fits : FitsSigned w64 o.first = search rules in
    c.in_ok-machine.ensures.holds (first_of o.first) (to_z-of_z fits ∙ first_is o.first c.requires.allowed.positive)

pub returns-clause-segments : goal.returns-clause-segments
returns-clause-segments c =
    let made = ap (λ (s : StockState). s.numbers) c.in_ok-make_room.ensures.ok ∙ no_numbers _ c.in_ok-left.ensures in
    opened_segments c.args.free.now.numbers c.move_to.new.self.numbers c.move_to.new.to.numbers _ _ made (ap (λ (s : Share). s.numbers) c.in_ok-machine.ensures.share) c.move_to.ensures.numbers
