use Rattle.std.proofs.Common.{◌∙◌, sym}
use Rattle.revision_store.specs.Recorded.{cells_of}
use Rattle.revision_store.specs.Stored.{row_at}
use Rattle.range_rows.proofs.RangingCells.{all_pass}
use Rattle.revision_store.proofs.ranging.wanted.Goals as goal

pub returns-then-wants_all : goal.returns-then-wants_all
returns-then-wants_all c = sym (all_pass (row_at (cells_of c.args.log.now.records)) c.args.request.now c.args.cells.items c.requires (sym c.wants_all.ensures ∙ c.if-wants_all.true))
