use Rattle.std.proofs.Common.{◌∙◌, ap, arith, inl, inr, subst, sym}
use Rattle.revision_store.specs.Stored.{cells}
use Rattle.etcd_model.specs.Changes.{since}
use Rattle.watch_sync.specs.Ahead.{before}
use Rattle.watch_sync.specs.Catching.{next_changes, passed}
use Rattle.watch_sync.proofs.Passing.{count_of, notes_count}
use Rattle.watch_sync.proofs.watch.OpenWatch.go_on.Goals as goal

pub returns-then-count-budget-clause-stuck : goal.returns-then-count-budget-clause-stuck
returns-then-count-budget-clause-stuck c = λ none.
    let s = c.args.store.now in
    inl (omega (arith, count_of (cells s) c.next_stretch-changes.result.0 (next_changes s.kept c.args.self.now.position) c.next_stretch-changes.ensures.next, c.len-count.ensures))

pub returns-then-not-pass-clause-stuck : goal.returns-then-not-pass-clause-stuck
returns-then-not-pass-clause-stuck c = λ none.
    let s = c.args.store.now in
    inr (omega (arith, notes_count (cells s) c.args.self.now.watch c.next_stretch-changes.result.0 (next_changes s.kept c.args.self.now.position) c.next_stretch-changes.ensures.next, c.pass.ensures.full c.if-not-pass.true))

pub returns-clause-passed : goal.returns-clause-passed
returns-clause-passed c =
    let s = c.args.store.now in
    let p = c.args.self.now.position in
    c.len-count.ensures
    ∙ count_of (cells s) c.next_stretch-changes.result.0 (before c.next_stretch-changes.result.1 (since p s.kept.changes)) c.next_stretch-changes.ensures.stretch.changes
    ∙ ap (passed s.kept p) (sym (c.pass.ensures.moved c.if-not-pass.false))
