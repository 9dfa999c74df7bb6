use Rattle.std.proofs.Common.{refl, subst}
use Rattle.tenant_scheduler.specs.Makes.{IsOpened}
use Rattle.tenant_scheduler.proofs.MakeLemmas.{unopened_for_memory}
use Rattle.tenant_scheduler.proofs.worker.WorkerTurn.open.Goals as goal

pub returns-in-Err-clause-made : goal.returns-in-Err-clause-made
returns-in-Err-clause-made g c = unopened_for_memory g.C.Key.TenantKey.number_of g.C.Key.TenantKey.name_of g.C.TenantCalls.gives c.args.unserved.request.value.route.tenant.value c.args.step c.refused.result.own.answer _ _ _ _ (λ name. refl) c.refused.ensures.answer c.make_room.ensures.watches

pub returns-in-Ok-clause-made : goal.returns-in-Ok-clause-made
returns-in-Ok-clause-made g c = subst (λ before. IsOpened g.C.Key.TenantKey.number_of g.C.Key.TenantKey.name_of g.C.TenantCalls.gives c.args.unserved.request.value.route.tenant.value c.args.step c.open.result.own.answer before c.open.new.clients.watches.items (g.C.TenantCalls.made c.args.caller.now.calls) (g.C.TenantCalls.made c.open.new.self.calls)) c.make_room.ensures.watches c.open.ensures.made
