use Rattle.revision_store.specs.Recorded.{cells_of}
use Rattle.revision_store.specs.Stored.{row_at}
use Rattle.revision_store.proofs.RangingReads.{passes_by}
use Rattle.revision_store.proofs.ranging.passes.Goals as goal

pub returns : goal.returns
returns c = passes_by c.args.request.now (row_at (cells_of c.args.log.now.records) c.args.cell) c.revisions-create_revision.result.0 c.revisions-create_revision.result.1 c.is_wanted.result c.requires c.revisions-create_revision.ensures.created c.revisions-create_revision.ensures.modified c.is_wanted.ensures
