use Rattle.std.proofs.Common.{ap}
use Rattle.key_index.specs.Index.{Heads}
use Rattle.key_index.proofs.Parted.{spread_newest, these_newest}
use Rattle.key_index.proofs.index.KeyIndex.span.Goals as goal

pub heads_in-requires : goal.heads_in-requires
heads_in-requires g c =
    let items = ap (λ (h : Heads). h.live) c.self.view_is in
    rw items (spread_newest _ _ (these_newest _ _ _ _ c.requires))
