use Rattle.std.proofs.Common.{◌≡◌, ◌∙◌, IsSome, IfSome, None, is_some, ap, subst, sym}
use Rattle.etcd_model.specs.Changes.{live}
use Rattle.etcd_model.specs.Interval.{is_in}
use Rattle.key_index.specs.Links.{Cells, change_at}
use Rattle.revision_store.specs.Plans.{key_at}
use Rattle.revision_store.specs.Recorded.{cells_of}
use Rattle.revision_store.specs.Stored.{StoreState, cells, row_at}
use Rattle.revision_store.proofs.DeletesLeft.{kind_is, left_deleted}
use Rattle.revision_store.proofs.LatestCells.{change_is_of, has_change, left_here, left_none, left_older, left_out}
use Rattle.revision_store.proofs.store.Store.row_left.Goals as goal
use Rattle.revision_store.proofs.store.Store.row_left.Goals.{in_default-via-in-Some+else-revisions-revision, in_default-via-in_default}

pub is_put-requires : goal.is_put-requires
is_put-requires c = subst (λ (m : Cells). IsSome (m c.args.cell)) (sym c.records-records.ensures) c.requires.there

pub returns-then-not-is_put-clause-row : goal.returns-then-not-is_put-clause-row
returns-then-not-is_put-clause-row c =
    let q = c.args.request.now in
    let s = c.args.self.now in
    let kind : IfSome (change_at (cells s) c.args.cell) (λ x. c.is_put.result ≡ is_some x.row) = kind_is (cells s c.args.cell) c.is_put.result (subst (λ (m : Cells). IfSome (m c.args.cell) (λ e. c.is_put.result ≡ is_some e.change.row)) c.records-records.ensures c.is_put.ensures) in
    left_deleted (is_in q.key q.range_end) s.kept.current s.kept.changes (change_at (cells s) c.args.cell) c.is_put.result c.if-not-is_put.true kind c.requires.gone

pub lies_in-requires : goal.lies_in-requires
lies_in-requires c = subst (λ (m : Cells). IsSome (m c.args.cell)) (sym c.records-records.ensures) c.requires.there

pub returns-then-not-lies_in-clause-row : goal.returns-then-not-lies_in-clause-row
returns-then-not-lies_in-clause-row c =
    let q = c.args.request.now in
    let s = c.args.self.now in
    let cell = c.args.cell in
    let told : is_in q.key q.range_end (key_at (cells s) cell) ≡ c.lies_in.result =
    sym (subst (λ (m : Cells). c.lies_in.result ≡ is_in q.key q.range_end (key_at m cell)) c.records-records.ensures (rw (c.as_slice.ensures, c.as_slice-2.ensures) at c.lies_in.ensures)) in
    left_out (is_in q.key q.range_end) s.kept.current s.kept.changes (change_at (cells s) cell) (told ∙ c.if-not-lies_in.true)

pub revision-requires : goal.revision-requires
revision-requires c = subst (λ (m : Cells). IsSome (m c.args.cell)) (sym c.records-records.ensures) c.requires.there

pub returns-in-Some-clause-row : goal.returns-in-Some-clause-row
returns-in-Some-clause-row c =
    let q = c.args.request.now in
    let s = c.args.self.now in
    let cell = c.args.cell in
    let told : is_in q.key q.range_end (key_at (cells s) cell) ≡ c.lies_in.result =
    sym (subst (λ (m : Cells). c.lies_in.result ≡ is_in q.key q.range_end (key_at m cell)) c.records-records.ensures (rw (c.as_slice.ensures, c.as_slice-2.ensures) at c.lies_in.ensures)) in
    let there : IsSome (change_at (cells s) cell) = has_change (cells s cell) c.requires.there in
    let key : c.as_slice-3.result.now ≡ key_at (cells s) cell = c.as_slice-3.ensures ∙ c.in_ok-key.ensures in
    let same : cells_of c.self.inside.log.records ≡ cells s = ap (λ (t : StoreState). cells t) c.self.view_is in
    let shown : row_at (cells s) c.in-Some.live ≡ live (key_at (cells s) cell) s.kept.current s.kept.changes = c.in-Some.ensures.row ∙ ap (λ k. live k s.kept.current s.kept.changes) key in
    let changed : IfSome (row_at (cells s) c.in-Some.live) (λ row. c.revisions.result.1 ≡ row.mod_revision) = subst (λ (m : Cells). IfSome (row_at m c.in-Some.live) (λ row. c.revisions.result.1 ≡ row.mod_revision)) same c.revisions.ensures.modified in
    let of : IfSome (change_at (cells s) cell) (λ x. c.revision.result ≡ x.revision) = change_is_of (cells s cell) c.revision.result (subst (λ (m : Cells). IfSome (m cell) (λ e. c.revision.result ≡ e.change.revision)) c.records-records.ensures c.revision.ensures) in
    left_here (is_in q.key q.range_end) s.kept.current s.kept.changes (change_at (cells s) cell) (row_at (cells s) c.in-Some.live) c.revisions.result.1 c.revision.result there (told ∙ c.if-not-lies_in.false) shown changed of c.if-revisions-revision.true

pub returns-clause-row : goal.returns-clause-row
returns-clause-row c =
    let q = c.args.request.now in
    let s = c.args.self.now in
    let cell = c.args.cell in
    let told : is_in q.key q.range_end (key_at (cells s) cell) ≡ c.lies_in.result =
    sym (subst (λ (m : Cells). c.lies_in.result ≡ is_in q.key q.range_end (key_at m cell)) c.records-records.ensures (rw (c.as_slice.ensures, c.as_slice-2.ensures) at c.lies_in.ensures)) in
    let there : IsSome (change_at (cells s) cell) = has_change (cells s cell) c.requires.there in
    let key : c.as_slice-3.result.now ≡ key_at (cells s) cell = c.as_slice-3.ensures ∙ c.in_ok-key.ensures in
    let same : cells_of c.self.inside.log.records ≡ cells s = ap (λ (t : StoreState). cells t) c.self.view_is in
    elim c.in_default.branch [
      | in_default-via-in-Some+else-revisions-revision w ↦
          let shown : row_at (cells s) w.in-Some.live ≡ live (key_at (cells s) cell) s.kept.current s.kept.changes = w.in-Some.ensures.row ∙ ap (λ k. live k s.kept.current s.kept.changes) key in
          let changed : IfSome (row_at (cells s) w.in-Some.live) (λ row. w.revisions.result.1 ≡ row.mod_revision) = subst (λ (m : Cells). IfSome (row_at m w.in-Some.live) (λ row. w.revisions.result.1 ≡ row.mod_revision)) same w.revisions.ensures.modified in
          let of : IfSome (change_at (cells s) cell) (λ x. w.revision.result ≡ x.revision) = change_is_of (cells s cell) w.revision.result (subst (λ (m : Cells). IfSome (m cell) (λ e. w.revision.result ≡ e.change.revision)) c.records-records.ensures w.revision.ensures) in
          left_older (is_in q.key q.range_end) s.kept.current s.kept.changes (change_at (cells s) cell) (row_at (cells s) w.in-Some.live) w.revisions.result.1 w.revision.result there (told ∙ c.if-not-lies_in.false) shown changed of w.if-revisions-revision.false
      | in_default-via-in_default w ↦
          let shown : None ≡ live (key_at (cells s) cell) s.kept.current s.kept.changes = w.in_default.ensures.row ∙ ap (λ k. live k s.kept.current s.kept.changes) key in
          left_none (is_in q.key q.range_end) s.kept.current s.kept.changes (change_at (cells s) cell) there (told ∙ c.if-not-lies_in.false) shown
    ]
