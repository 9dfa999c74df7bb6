use Rattle.std.proofs.Common.{◌∙◌}
use Rattle.std.proofs.lemmas.List.{get_or_default}
use Rattle.chunk_list.specs.Chunked.{position_of}
use Rattle.key_index.proofs.Parted.{moved_in, moved_in_place, moved_over, spread_there, these_newest, others_newest}
use Rattle.key_index.proofs.index.move_head.Goals as goal

pub search_near-requires-clause-spread : goal.search_near-requires-clause-spread
search_near-requires-clause-spread g c = spread_there _ _ c.requires.placed _ (these_newest _ _ _ _ c.requires.parted)

pub search_near-requires-in-Err-clause-spread : goal.search_near-requires-in-Err-clause-spread
search_near-requires-in-Err-clause-spread g c = spread_there _ _ c.requires.placed _ (others_newest _ _ _ _ c.requires.parted)

pub returns-in-Ok-clause-moved : goal.returns-in-Ok-clause-moved
returns-in-Ok-clause-moved g c =
    let list = c.args.these.now in
    let at = c.in-Ok.ensures.at in
    let is = c.get-head.ensures ∙ get_or_default list.items (position_of list.sizes c.in-Ok.place) c.get-head.result 0 at.in_range in
    rw c.set.ensures.items (moved_in_place _ _ c.requires.placed c.requires.chained _ _ c.requires.parted _ _ at is)

pub returns-in-Ok-search_near-clause-moved : goal.returns-in-Ok-search_near-clause-moved
returns-in-Ok-search_near-clause-moved g c =
    let list = c.args.others.now in
    let at = c.in-Ok-search_near.ensures.at in
    let is = c.remove.ensures.value ∙ get_or_default list.items (position_of list.sizes c.in-Ok-search_near.place) c.remove.result 0 at.in_range in
    rw (c.insert.ensures.items, c.remove.ensures.items) (moved_over _ _ c.requires.placed c.requires.chained _ _ c.requires.parted _ _ _ c.in-Err.ensures.gap at is)

pub returns-in-Err-search_near-clause-moved : goal.returns-in-Err-search_near-clause-moved
returns-in-Err-search_near-clause-moved g c =
    rw c.insert.ensures.items (moved_in _ _ c.requires.placed c.requires.chained _ _ c.requires.parted _ _ c.in-Err.ensures.gap c.in-Err-search_near.ensures.gap)
