use Rattle.std.proofs.Common.{arith}
use Rattle.cell_arena.proofs.Records.{seen_head, seen_remove, seen_cost, seen_share, seen_lent, seen_settles, used_fits}
use Rattle.cell_arena.proofs.Tables.{busy_fits}
use Rattle.cell_arena.proofs.region.Region.release.Goals as goal

pub release-requires-clause-head : goal.release-requires-clause-head
release-requires-clause-head g c = seen_head c.self.inside.table _ c.args.cell c.self.view_is c.requires.head

pub release-requires-clause-lent : goal.release-requires-clause-lent
release-requires-clause-lent g c = seen_lent c.self.inside.table _ _ c.self.invariant.table c.self.view_is c.requires.lent

pub returns-clause-gone : goal.returns-clause-gone
returns-clause-gone g c = seen_remove c.self.inside.table c.release.new.table _ c.args.cell c.self.view_is c.release.ensures.gone c.release.ensures.kept

pub returns-clause-free : goal.returns-clause-free
returns-clause-free g c = seen_cost c.self.inside.table _ c.args.cell _ c.self.view_is c.self.invariant.linked (omega (arith, c.release.ensures.used, c.release.ensures.settles.reserved, used_fits c.self.inside.table c.self.invariant.table)) (seen_head c.self.inside.table _ c.args.cell c.self.view_is c.requires.head)

pub returns-clause-none_drawn : goal.returns-clause-none_drawn
returns-clause-none_drawn g c = omega (arith, c.release.ensures.table.busy, c.release.ensures.none_drawn, seen_share c.self.inside.table _ c.self.invariant.table c.self.view_is)

pub returns-clause-busy : goal.returns-clause-busy
returns-clause-busy g c = omega (arith, c.release.ensures.table.busy, busy_fits c.release.new.table c.release.ensures.table, used_fits c.release.new.table c.release.ensures.table)

pub returns-clause-settles : goal.returns-clause-settles
returns-clause-settles g c = seen_settles c.self.inside.table c.release.new.table _ _ _ c.self.invariant.table c.release.ensures.table c.self.view_is c.release.ensures.settles
