use Rattle.std.proofs.Common.{refl, ◌∙◌}
use Rattle.cell_arena.proofs.Chains.{record_kept}
use Rattle.cell_arena.proofs.Loans.{settles_both}
use Rattle.cell_arena.proofs.Storing.{head_linked, head_stands, free_unlinked, stored_all, short_text}
use Rattle.cell_arena.proofs.chain.place.Goals as goal

pub returns-clause-linked : goal.returns-clause-linked
returns-clause-linked g c =
    let stored = c.store_bytes-first.ensures.stored in
    let all = stored_all _ _ _ _ _ stored in
    head_linked _ _ _ _ _ c.put.ensures.written stored.linked c.put.ensures.was_free all.0 stored.loose (short_text c.args.table.now _ c.requires.table c.requires.space)

pub returns-clause-placed : goal.returns-clause-placed
returns-clause-placed g c =
    let stored = c.store_bytes-first.ensures.stored in
    let all = stored_all _ _ _ _ _ stored in
    rw c.none.ensures at (head_stands _ _ _ _ _ c.args.key.now c.args.value.now c.put.ensures.written stored.linked c.put.ensures.was_free all.0 stored.loose refl refl all.1)

pub returns-clause-kept : goal.returns-clause-kept
returns-clause-kept g c q other =
    let stored = c.store_bytes-first.ensures.stored in
    record_kept _ _ c.put.result _ c.put.ensures.written stored.linked (free_unlinked _ _ stored.linked c.put.ensures.was_free) q other ∙ stored.kept q

pub returns-clause-settles : goal.returns-clause-settles
returns-clause-settles g c = settles_both _ _ _ _ _ _ c.store_bytes-first.ensures.settles c.put.ensures.settles
