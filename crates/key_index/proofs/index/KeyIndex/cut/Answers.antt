use Rattle.std.proofs.Common.{ℕ, List, true, false, sym, ap, subst}
use Rattle.key_index.specs.Index.{AreNewest, AreParted, Heads}
use Rattle.key_index.proofs.Both.{both_compacted}
use Rattle.key_index.proofs.Parted.{back_parted, these_newest, others_newest, turned_parted}
use Rattle.key_index.proofs.index.KeyIndex.cut.Goals as goal

pub cut_heads-requires-clause-newest : goal.cut_heads-requires-clause-newest
cut_heads-requires-clause-newest g c =
    let live = ap (λ (h : Heads). h.live) c.self.view_is in
    subst (AreNewest (g.R.Records.cells c.args.records.now)) (sym live) (these_newest _ _ _ _ c.requires.index)

pub cut_heads-requires-2-clause-newest : goal.cut_heads-requires-2-clause-newest
cut_heads-requires-2-clause-newest g c =
    let live = ap (λ (h : Heads). h.live) c.self.view_is in
    let dead = ap (λ (h : Heads). h.dead) c.self.view_is in
    let parted = subst (λ (xs : List ℕ). AreParted (g.R.Records.cells c.args.records.now) true xs c.self.inside.dead.items) (sym live)
    (subst (AreParted (g.R.Records.cells c.args.records.now) true c.args.self.now.live) (sym dead) c.requires.index) in
    others_newest _ _ _ _ (c.cut_heads.ensures.parted true c.self.inside.dead.items parted)

pub returns-clause-index : goal.returns-clause-index
returns-clause-index g c =
    let live = ap (λ (h : Heads). h.live) c.self.view_is in
    let dead = ap (λ (h : Heads). h.dead) c.self.view_is in
    let parted = subst (λ (xs : List ℕ). AreParted (g.R.Records.cells c.args.records.now) true xs c.self.inside.dead.items) (sym live)
    (subst (AreParted (g.R.Records.cells c.args.records.now) true c.args.self.now.live) (sym dead) c.requires.index) in
    back_parted _ _ _ (c.cut_heads-2.ensures.parted false _ (turned_parted _ _ _ (c.cut_heads.ensures.parted true c.self.inside.dead.items parted)))

pub returns-clause-compacted : goal.returns-clause-compacted
returns-clause-compacted g c =
    let live = ap (λ (h : Heads). h.live) c.self.view_is in
    let dead = ap (λ (h : Heads). h.dead) c.self.view_is in
    let parted = subst (λ (xs : List ℕ). AreParted (g.R.Records.cells c.args.records.now) true xs c.self.inside.dead.items) (sym live)
    (subst (AreParted (g.R.Records.cells c.args.records.now) true c.args.self.now.live) (sym dead) c.requires.index) in
    both_compacted _ _ _ _ _ _ c.requires.chained parted c.cut_heads.ensures.done c.cut_heads-2.ensures.done
