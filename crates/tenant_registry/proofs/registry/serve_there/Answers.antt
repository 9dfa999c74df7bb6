use Rattle.std.proofs.Common.{refl}
use Rattle.tenant_registry.proofs.registry.serve_there.Goals as goal

pub returns-in-Ok-clause-served : goal.returns-in-Ok-clause-served
returns-in-Ok-clause-served c = record {
  before = c.in-Some.kept;
  after = c.serve.new.self;
  there = c.in-Some.is;
  stays = refl;
  opening_is = c.is_of.ensures c.if-is_of.true;
  serves = c.in-Ok.ensures.ok;
}
