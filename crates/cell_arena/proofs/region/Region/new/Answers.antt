use Rattle.cell_arena.proofs.Starting.{bare_sound, bare_held}
use Rattle.cell_arena.proofs.region.Region.new.Goals as goal

pub invariant_of-result : goal.invariant_of-result
invariant_of-result c = bare_sound c.in_ok-new.field-0 c.in_ok-new.ensures.0 c.in_ok-new.ensures.1

pub returns : goal.returns
returns c = bare_held c.in_ok-new.field-0 c.args.cells c.in_ok-new.ensures.0 c.in_ok-new.ensures.1 c.in_ok-new.ensures.3 c.in_ok-new.ensures.2 c.in_ok-new.ensures.4 c.in_ok-new.ensures.5 c.requires.whole
