use Rattle.std.proofs.Common.{◌≡◌, IsSome, IfSome, subst, sym, arith}
use Rattle.key_index.specs.Links.{Cells}
use Rattle.revision_store.specs.Stored.{cells}
use Rattle.revision_store.proofs.ReadingCells.{before_compacted, before_given, before_none}
use Rattle.revision_store.proofs.store.Store.row_before.Goals as goal

pub revision-requires : goal.revision-requires
revision-requires c = subst (λ (m : Cells). IsSome (m c.args.cell)) (sym c.records.ensures) c.requires

pub returns-then-revision-compacted : goal.returns-then-revision-compacted
returns-then-revision-compacted c =
    let told = subst (λ (m : Cells). IfSome (m c.args.cell) (λ e. c.revision.result ≡ e.change.revision)) c.records.ensures c.revision.ensures in
    before_compacted (cells c.args.self.now) c.args.self.now.kept c.args.cell c.revision.result told (omega (arith, c.saturating_sub-revision.ensures, c.compacted.ensures.compacted, c.if-revision-compacted.true))

pub returns-in_ok-row-in-Some : goal.returns-in_ok-row-in-Some
returns-in_ok-row-in-Some c =
    let told = subst (λ (m : Cells). IfSome (m c.args.cell) (λ e. c.revision.result ≡ e.change.revision)) c.records.ensures c.revision.ensures in
    before_given (cells c.args.self.now) c.args.self.now.kept c.args.cell c.revision.result told c.cell_before.result c.cell_before.ensures.row c.in-Some.before c.in_ok-row-in-Some.field-0 (omega (arith, c.saturating_sub-revision.ensures, c.compacted.ensures.compacted, c.if-revision-compacted.false)) c.in-Some.is c.in_ok-row-in-Some.ensures

pub returns-in-None : goal.returns-in-None
returns-in-None c =
    let told = subst (λ (m : Cells). IfSome (m c.args.cell) (λ e. c.revision.result ≡ e.change.revision)) c.records.ensures c.revision.ensures in
    before_none (cells c.args.self.now) c.args.self.now.kept c.args.cell c.revision.result told c.cell_before.result c.cell_before.ensures.row c.in-None.is
