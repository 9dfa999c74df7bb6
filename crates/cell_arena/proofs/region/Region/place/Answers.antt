use Rattle.std.proofs.Common.{◌∙◌, arith}
use Rattle.cell_arena.proofs.Records.{seen_get, seen_insert, seen_free, seen_share, seen_lent, seen_settles, used_fits}
use Rattle.cell_arena.proofs.region.Region.place.Goals as goal

pub place-requires-clause-space : goal.place-requires-clause-space
place-requires-clause-space g c = omega (arith, c.requires.space, seen_free c.self.inside.table _ c.self.view_is)

pub place-requires-clause-lent : goal.place-requires-clause-lent
place-requires-clause-lent g c = seen_lent c.self.inside.table _ _ c.self.invariant.table c.self.view_is c.requires.lent

pub returns-clause-fresh : goal.returns-clause-fresh
returns-clause-fresh g c = seen_get c.self.inside.table _ c.place.result c.self.view_is ∙ c.place.ensures.fresh

pub returns-clause-placed : goal.returns-clause-placed
returns-clause-placed g c = seen_insert c.self.inside.table c.place.new.table _ c.place.result _ c.self.view_is c.place.ensures.placed c.place.ensures.kept

pub returns-clause-free : goal.returns-clause-free
returns-clause-free g c = omega (arith, c.requires.space, seen_free c.self.inside.table _ c.self.view_is, c.place.ensures.used, c.place.ensures.settles.reserved)

pub returns-clause-draws : goal.returns-clause-draws
returns-clause-draws g c = omega (arith, c.place.ensures.table.busy, c.place.ensures.draws, seen_share c.self.inside.table _ c.self.invariant.table c.self.view_is, used_fits c.place.new.table c.place.ensures.table)

pub returns-clause-settles : goal.returns-clause-settles
returns-clause-settles g c = seen_settles c.self.inside.table c.place.new.table _ _ _ c.self.invariant.table c.place.ensures.table c.self.view_is c.place.ensures.settles
