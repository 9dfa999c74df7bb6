use Rattle.std.proofs.Common.{◌≡◌, ◌∙◌, sym, arith}
use Rattle.tenant_registry.proofs.KeptLemmas.{gives_back, none_left, on_ok}
use Rattle.tenant_registry.proofs.kept.Kept.end.Goals as goal

pub returns-clause-back : goal.returns-clause-back
returns-clause-back c =
    let made = on_ok c.make_room.result (sym c.is_err.ensures.value ∙ c.if-is_err.false) c.make_room.ensures.ok in
    let emptied : c.move_to.new.self.held ≡ 0 = omega (arith, c.move_to.ensures.from_held, c.held-count.ensures) in
    gives_back c.args.self c.self.inside.machine c.self.inside.audit c.self.inside.left c.args.free.now c.make_room.new.self c.move_to.new.to c.give_up.new.segments c.move_to.new.self _ c.held-count.result c.self.view_is
    c.self.invariant.kept.lent c.give_up.ensures.settles made c.held-count.ensures c.move_to.ensures.to_held c.move_to.ensures.numbers (none_left c.move_to.new.self c.left.inside.segments _ c.left.view_is emptied)
