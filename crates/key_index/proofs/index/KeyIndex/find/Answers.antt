use Rattle.std.proofs.Common.{ℕ, List, true, sym, ap, subst}
use Rattle.key_index.specs.Index.{AreNewest, AreParted, Heads}
use Rattle.key_index.proofs.Parted.{head_at, none_from_gaps, spread_newest, these_newest, others_newest}
use Rattle.key_index.proofs.index.KeyIndex.find.Goals as goal

pub search-requires-clause-spread : goal.search-requires-clause-spread
search-requires-clause-spread g c =
    let live = ap (λ (h : Heads). h.live) c.self.view_is in
    rw live (spread_newest _ _ (these_newest _ _ _ _ c.requires))

pub search-requires-in-Err-clause-spread : goal.search-requires-in-Err-clause-spread
search-requires-in-Err-clause-spread g c =
    let dead = ap (λ (h : Heads). h.dead) c.self.view_is in
    rw dead (spread_newest _ _ (others_newest _ _ _ _ c.requires))

pub returns-in-Ok : goal.returns-in-Ok
returns-in-Ok g c =
    let live = ap (λ (h : Heads). h.live) c.self.view_is in
    head_at _ _ _ _ _ (subst (AreNewest (g.R.Records.cells c.args.records.now)) (sym live) (these_newest _ _ _ _ c.requires)) c.in-Ok.ensures.at c.get.ensures

pub returns-in-Ok-search : goal.returns-in-Ok-search
returns-in-Ok-search g c =
    let dead = ap (λ (h : Heads). h.dead) c.self.view_is in
    head_at _ _ _ _ _ (subst (AreNewest (g.R.Records.cells c.args.records.now)) (sym dead) (others_newest _ _ _ _ c.requires)) c.in-Ok-search.ensures.at c.get-in-Ok-search.ensures

pub returns-in-Err-search : goal.returns-in-Err-search
returns-in-Err-search g c =
    let live = ap (λ (h : Heads). h.live) c.self.view_is in
    let dead = ap (λ (h : Heads). h.dead) c.self.view_is in
    let parted = subst (λ (xs : List ℕ). AreParted (g.R.Records.cells c.args.records.now) true xs c.self.inside.dead.items) (sym live)
    (subst (AreParted (g.R.Records.cells c.args.records.now) true c.args.self.now.live) (sym dead) c.requires) in
    none_from_gaps _ _ _ _ _ _ _ parted c.in-Err.ensures.gap c.in-Err-search.ensures.gap
