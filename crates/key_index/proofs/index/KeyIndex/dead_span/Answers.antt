use Rattle.std.proofs.Common.{ap}
use Rattle.key_index.specs.Index.{Heads}
use Rattle.key_index.proofs.Parted.{spread_newest, others_newest}
use Rattle.key_index.proofs.index.KeyIndex.dead_span.Goals as goal

pub heads_in-requires : goal.heads_in-requires
heads_in-requires g c =
    let items = ap (λ (h : Heads). h.dead) c.self.view_is in
    rw items (spread_newest _ _ (others_newest _ _ _ _ c.requires))
