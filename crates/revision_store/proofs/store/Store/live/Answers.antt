use Rattle.std.proofs.Common.{◌≡◌, IsSome, IfSome, ap, subst, sym}
use Rattle.std.specs.Prelude.{option_and_then}
use Rattle.std.specs.List.{AllByRecursion}
use Rattle.etcd_model.specs.Changes.{OwnRow, live}
use Rattle.revision_store.specs.Recorded.{cells_of}
use Rattle.revision_store.specs.Stored.{StoreState, cells, row_at}
use Rattle.revision_store.proofs.NewestRows.{first_shows, first_there}
use Rattle.revision_store.proofs.store.Store.live.Goals as goal

pub returns-clause-row : goal.returns-clause-row
returns-clause-row c =
    let log = c.self.inside.log in
    let key = c.args.key.now in
    let own = subst (AllByRecursion OwnRow) (sym (ap (λ (s : StoreState). s.kept.changes) c.self.view_is)) c.use_invariant.ensures.kept.own in
    let shown = first_shows (cells_of log.records) log.changes own key c.self.inside.current c.newest_cells.result _ c.next.result (c.newest_cells.ensures c.self.inside.current c.self.invariant.up) c.next.ensures.steps in
    subst (λ (s : StoreState). option_and_then (row_at (cells s)) c.next.result ≡ live key s.kept.current s.kept.changes) c.self.view_is shown

pub returns-clause-there : goal.returns-clause-there
returns-clause-there c =
    let log = c.self.inside.log in
    let own = subst (AllByRecursion OwnRow) (sym (ap (λ (s : StoreState). s.kept.changes) c.self.view_is)) c.use_invariant.ensures.kept.own in
    let there = first_there (cells_of log.records) log.changes own c.args.key.now c.self.inside.current c.newest_cells.result _ c.next.result (c.newest_cells.ensures c.self.inside.current c.self.invariant.up) c.next.ensures.steps in
    subst (λ (s : StoreState). IfSome c.next.result (λ k. IsSome (row_at (cells s) k))) c.self.view_is there
