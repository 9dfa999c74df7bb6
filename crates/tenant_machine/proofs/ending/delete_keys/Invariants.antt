use Rattle.tenant_machine.proofs.ending.delete_keys.Given as goal

abbrev pub ghost-delete_heads : goal.ghost-delete_heads
ghost-delete_heads g a = a.heads
