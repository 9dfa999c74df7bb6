use Rattle.std.proofs.Common.{ℕ, List, true, false, sym, ap, subst}
use Rattle.key_index.specs.Index.{AreParted, Heads}
use Rattle.key_index.specs.Sought.{entry_key}
use Rattle.key_index.proofs.Order.{which}
use Rattle.key_index.proofs.Parted.{back_parted, none_from_gaps, others_newest, spread_newest, these_newest, turned_parted}
use Rattle.key_index.proofs.index.KeyIndex.cut_key.Goals as goal

pub search-requires-clause-spread : goal.search-requires-clause-spread
search-requires-clause-spread g c =
    let live = ap (λ (h : Heads). h.live) c.self.view_is in
    rw live (spread_newest _ _ (these_newest _ _ _ _ c.requires.index))

pub cut_head-requires-clause-newest : goal.cut_head-requires-clause-newest
cut_head-requires-clause-newest g c =
    let live = ap (λ (h : Heads). h.live) c.self.view_is in
    rw live (these_newest _ _ _ _ c.requires.index)

pub search-requires-in-Err-clause-spread : goal.search-requires-in-Err-clause-spread
search-requires-in-Err-clause-spread g c =
    let dead = ap (λ (h : Heads). h.dead) c.self.view_is in
    rw dead (spread_newest _ _ (others_newest _ _ _ _ c.requires.index))

pub cut_head-requires-in-Ok-search-clause-newest : goal.cut_head-requires-in-Ok-search-clause-newest
cut_head-requires-in-Ok-search-clause-newest g c =
    let dead = ap (λ (h : Heads). h.dead) c.self.view_is in
    rw dead (others_newest _ _ _ _ c.requires.index)

pub unreachable-requires : goal.unreachable-requires
unreachable-requires g c =
    let cells = g.R.Records.cells c.args.records.now in
    let live = ap (λ (h : Heads). h.live) c.self.view_is in
    let dead = ap (λ (h : Heads). h.dead) c.self.view_is in
    let parted = subst (λ (xs : List ℕ). AreParted cells true xs c.self.inside.dead.items) (sym live)
    (subst (AreParted cells true c.args.self.now.live) (sym dead) c.requires.index) in
    let e = which (cells c.args.cell) c.requires.there in
    none_from_gaps _ _ _ _ _ _ _ parted c.in-Err.ensures.gap c.in-Err-search.ensures.gap c.args.cell e.0 e.1 (sym (ap entry_key e.1))

pub returns-in-Ok-search-clause-index : goal.returns-in-Ok-search-clause-index
returns-in-Ok-search-clause-index g c =
    let cells = g.R.Records.cells c.args.records.now in
    let live = ap (λ (h : Heads). h.live) c.self.view_is in
    let dead = ap (λ (h : Heads). h.dead) c.self.view_is in
    let parted = subst (λ (xs : List ℕ). AreParted cells true xs c.self.inside.dead.items) (sym live)
    (subst (AreParted cells true c.args.self.now.live) (sym dead) c.requires.index) in
    back_parted _ _ _ (c.cut_head-in-Ok-search.ensures.parted false _ (turned_parted _ _ _ parted))
