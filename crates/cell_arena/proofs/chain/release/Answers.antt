use Rattle.std.proofs.Common.{None, ap, ◌∙◌}
use Rattle.cell_arena.specs.Chain.{is_free, is_rest}
use Rattle.cell_arena.proofs.Chains.{unlinked, loose_first, record_kept}
use Rattle.cell_arena.proofs.Loans.{settles_both}
use Rattle.cell_arena.proofs.Freeing.{head_freed_linked, head_freed_chain}
use Rattle.cell_arena.proofs.chain.release.Goals as goal

pub free-requires-clause-used : goal.free-requires-clause-used
free-requires-clause-used g c = ap is_free c.head_at-kind.ensures

pub free_chain-requires-clause-linked : goal.free_chain-requires-clause-linked
free_chain-requires-clause-linked g c = head_freed_linked _ _ _ None _ _ c.free.ensures.written c.requires.linked c.head_at-kind.ensures

pub free_chain-requires-clause-chain : goal.free_chain-requires-clause-chain
free_chain-requires-clause-chain g c = rw c.pieces-count.ensures (head_freed_chain _ _ _ None _ _ c.free.ensures.written c.requires.linked c.head_at-kind.ensures)

pub free_chain-requires-clause-loose : goal.free_chain-requires-clause-loose
free_chain-requires-clause-loose g c = loose_first _ _ _ None _ _ c.free.ensures.written c.requires.linked c.head_at-kind.ensures

pub returns-clause-kept : goal.returns-clause-kept
returns-clause-kept g c q other =
    c.free_chain.ensures.kept q ∙ record_kept _ _ c.args.at _ c.free.ensures.written c.requires.linked (unlinked _ _ c.requires.linked (ap is_rest c.head_at-kind.ensures)) q other

pub returns-clause-settles : goal.returns-clause-settles
returns-clause-settles g c = settles_both _ _ _ _ _ _ c.free.ensures.settles c.free_chain.ensures.settles
