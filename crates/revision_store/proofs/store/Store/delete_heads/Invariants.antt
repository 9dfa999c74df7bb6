use Rattle.revision_store.proofs.store.Store.delete_heads.Given as goal

-- the cells are those that came here
abbrev pub ghost-append_deletes : goal.ghost-append_deletes
ghost-append_deletes g a = g.list
