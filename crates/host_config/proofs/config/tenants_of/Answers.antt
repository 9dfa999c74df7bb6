use Rattle.host_config.proofs.TenantLemmas.{no_tenants}
use Rattle.host_config.proofs.config.tenants_of.Goals as goal

pub returns-in-None : goal.returns-in-None
returns-in-None c = no_tenants _ _ _ (rw c.in-None.is at c.member.ensures) c.new.ensures.items c.new-in-None.ensures.items
