use Rattle.std.proofs.Common.{ℕ, ◌-◌, ◌∙◌, Some, List, map, take, ap, arith, subst, sym}
use Rattle.etcd_model.specs.Changes.{since}
use Rattle.key_index.specs.Links.{change_at}
use Rattle.revision_store.specs.Stored.{cells}
use Rattle.watch_sync.specs.Ahead.{before}
use Rattle.watch_sync.specs.Agreeing.{IsStretch, reached}
use Rattle.watch_sync.proofs.Passing.{next_is}
use Rattle.watch_sync.proofs.Rings.{first_stretch, no_fewer, reached_within}
use Rattle.watch_sync.proofs.Notes.{all_there, under}
use Rattle.watch_sync.proofs.watch.OpenWatch.next_stretch.Goals as goal

pub overflow_sub-count : goal.overflow_sub-count
overflow_sub-count c =
    let s = c.args.store.now in
    let all = c.since-changes.ensures ∙ ap (λ r. map Some (since r s.kept.changes)) c.position.ensures in
    let later = c.since-later.ensures ∙ ap (λ r. map Some (since r s.kept.changes)) c.reached-to.ensures in
    let to = reached_within s c.args.self.now.position c.since-changes.result c.requires all in
    omega (arith, no_fewer s c.args.self.now.position (reached s c.since-changes.result) c.since-changes.result c.since-later.result c.use_invariant.ensures.kept (omega (arith, to.0)) all later, c.len.ensures, c.len-2.ensures)

pub reached-to-requires : goal.reached-to-requires
reached-to-requires c =
    let s = c.args.store.now in
    all_there (cells s) c.since-changes.result (since c.position.result s.kept.changes) (under (cells s) c.since-changes.result (since c.position.result s.kept.changes) c.since-changes.ensures)

pub returns-clause-stretch : goal.returns-clause-stretch
returns-clause-stretch c =
    let s = c.args.store.now in
    let all = c.since-changes.ensures ∙ ap (λ r. map Some (since r s.kept.changes)) c.position.ensures in
    let later = c.since-later.ensures ∙ ap (λ r. map Some (since r s.kept.changes)) c.reached-to.ensures in
    let to = reached_within s c.args.self.now.position c.since-changes.result c.requires all in
    let count = c.len.result - c.len-2.result in
    subst (λ (r : ℕ). IsStretch s c.args.self.now.position r c.first.result) (sym c.reached-to.ensures)
    (subst (IsStretch s c.args.self.now.position (reached s c.since-changes.result)) (sym c.first.ensures)
    (first_stretch s c.args.self.now.position (reached s c.since-changes.result) count c.since-changes.result c.since-later.result c.use_invariant.ensures.kept (omega (arith, to.0)) to.1 all later (omega (arith, c.len.ensures, c.len-2.ensures))))

pub returns-clause-next : goal.returns-clause-next
returns-clause-next c =
    let s = c.args.store.now in
    let all = c.since-changes.ensures ∙ ap (λ r. map Some (since r s.kept.changes)) c.position.ensures in
    let later = c.since-later.ensures ∙ ap (λ r. map Some (since r s.kept.changes)) c.reached-to.ensures in
    let to = reached_within s c.args.self.now.position c.since-changes.result c.requires all in
    let count = c.len.result - c.len-2.result in
    let stretch = first_stretch s c.args.self.now.position (reached s c.since-changes.result) count c.since-changes.result c.since-later.result c.use_invariant.ensures.kept (omega (arith, to.0)) to.1 all later (omega (arith, c.len.ensures, c.len-2.ensures)) in
    ap (λ (cs : List ℕ). map (change_at (cells s)) cs) c.first.ensures ∙ stretch.changes ∙ ap (map Some) (next_is s c.args.self.now.position c.since-changes.result c.use_invariant.ensures.kept all)

pub returns-clause-later : goal.returns-clause-later
returns-clause-later c =
    let s = c.args.store.now in
    let all = c.since-changes.ensures ∙ ap (λ r. map Some (since r s.kept.changes)) c.position.ensures in
    let to = reached_within s c.args.self.now.position c.since-changes.result c.requires all in
    omega (arith, to.0, c.reached-to.ensures)
