use Rattle.std.proofs.Common.{◌≡◌, ℕ, ◌≤◌, Some}
use Rattle.key_index.specs.Links.{Linked, IsOfKey}
use Rattle.key_index.proofs.Links.{revision_at}
use Rattle.key_index.proofs.search.last_up_to.Given as goal

abbrev pub invariant-loop-cell : goal.invariant-loop-cell
invariant-loop-cell g l =
    let cells = g.R.Records.cells l.records in
    (e : Linked) × (cells l.cell ≡ Some e) × IsOfKey cells e.change.key l.fn.head × ((b : ℕ) (f : Linked) → cells b ≡ Some f → f.change.key ≡ e.change.key → f.change.revision ≤ l.revision → f.change.revision ≤ e.change.revision)

abbrev pub decreases-loop-cell : goal.decreases-loop-cell
decreases-loop-cell g l = revision_at (g.R.Records.cells l.records) l.cell
