use Rattle.std.proofs.Common.{◌∙◌}
use Rattle.cell_arena.proofs.Records.{seen_has}
use Rattle.cell_arena.proofs.region.Region.has.Goals as goal

pub returns : goal.returns
returns c = c.begins_at.ensures ∙ seen_has c.self.inside.table _ c.args.cell c.self.view_is
