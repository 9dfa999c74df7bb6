use Rattle.std.proofs.Common.{ℕ, List, ap, ◌∙◌, subst}
use Rattle.std.specs.Prelude.{MatchOption, option_and_then}
use Rattle.cell_arena.specs.Region.{RegionState}
use Rattle.etcd_model.specs.Changes.{Recorded}
use Rattle.key_index.specs.Links.{IsLast, IsOfKey, NoneUpTo}
use Rattle.revision_store.specs.Recorded.{cells_of}
use Rattle.revision_store.specs.Plans.{key_at}
use Rattle.revision_store.specs.Logged.{LogState}
use Rattle.revision_store.proofs.ReadingCells.{last_there, log_last}
use Rattle.revision_store.proofs.ReadingRows.{head_key}
use Rattle.revision_store.proofs.log.Log.live_of.Goals as goal

pub put_of-requires : goal.put_of-requires
put_of-requires c =
    let cells = cells_of c.args.self.now.records in
    let same = ap (λ (h : RegionState). h.records) c.new.ensures ∙ ap (λ (l : LogState). l.records) c.self.view_is in
    let told = subst (λ m. (key : List ℕ) → IsOfKey (cells_of m) key c.args.head → MatchOption c.last_up_to.result (NoneUpTo (cells_of m) key c.args.revision) (IsLast (cells_of m) key c.args.revision)) same c.last_up_to.ensures in
    last_there cells (key_at cells c.args.head) c.args.revision c.last_up_to.result (told (key_at cells c.args.head) (head_key cells c.args.head c.requires))

pub returns-clause-row : goal.returns-clause-row
returns-clause-row c =
    let cells = cells_of c.args.self.now.records in
    let records = ap (λ (l : LogState). l.records) c.self.view_is in
    let changes = ap (λ (l : LogState). l.changes) c.self.view_is in
    let same = ap (λ (h : RegionState). h.records) c.new.ensures ∙ records in
    let told = subst (λ m. (key : List ℕ) → IsOfKey (cells_of m) key c.args.head → MatchOption c.last_up_to.result (NoneUpTo (cells_of m) key c.args.revision) (IsLast (cells_of m) key c.args.revision)) same c.last_up_to.ensures in
    let is = log_last _ _ _ _ _ _ _ (key_at cells c.args.head) c.args.revision c.last_up_to.result c.self.invariant records changes (told (key_at cells c.args.head) (head_key cells c.args.head c.requires)) in
    c.put_of.ensures.row ∙ ap (option_and_then (λ (x : Recorded). x.row)) is
