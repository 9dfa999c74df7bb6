use Rattle.std.proofs.Common.{ap, ◌∙◌, ◌/◌}
use Rattle.cell_arena.specs.Region.{roomier}
use Rattle.cell_arena.proofs.Fronts.{on_ok}
use Rattle.cell_arena.proofs.Rooms.{grown_held}
use Rattle.cell_arena.proofs.region.Region.grow_rooms.Goals as goal

pub returns-clause-ok : goal.returns-clause-ok
returns-clause-ok c =
    on_ok c.grow.result _ _ (λ share. grown_held c.self.inside.table c.grow.new.table (c.args.cells / 64) c.self.invariant.table c.grow.ensures.table c.grow.ensures.cells c.grow.ensures.used share ∙ ap (roomier (c.args.cells / 64)) c.self.view_is) c.grow.ensures.ok
