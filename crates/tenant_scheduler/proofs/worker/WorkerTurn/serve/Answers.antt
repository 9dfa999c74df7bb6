use Rattle.std.proofs.Common.{refl}
use Rattle.tenant_scheduler.proofs.MakeLemmas.{compacted, made_after_takes, made_of_opened, unmade_for_memory}
use Rattle.tenant_scheduler.proofs.worker.WorkerTurn.serve.Goals as goal

pub returns-then-not-take_all-clause-made : goal.returns-then-not-take_all-clause-made
returns-then-not-take_all-clause-made g c = compacted g.C.Key.TenantKey.number_of g.C.Key.TenantKey.name_of g.C.TenantCalls.gives c.args.clients.now.key c.args.unserved.request.value.route.tenant.value c.args.step c.in-Compact.field-0 c.refused.result.own.answer _ _ _ c.in-Compact.is c.take_all.ensures.others (unmade_for_memory g.C.Key.TenantKey.number_of g.C.Key.TenantKey.name_of g.C.TenantCalls.gives c.args.unserved.request.value.route.tenant.value c.args.step c.refused.result.own.answer (g.C.TenantCalls.made c.take_all.new.caller.calls) _ (λ name. refl) c.refused.ensures.answer)

pub returns-in-Watch-clause-made : goal.returns-in-Watch-clause-made
returns-in-Watch-clause-made g c = made_after_takes g.C.Key.TenantKey.number_of g.C.Key.TenantKey.name_of g.C.TenantCalls.gives c.args.clients.now.key c.args.unserved.request.value.route.tenant.value c.args.step c.open.result.own.answer _ _ (made_of_opened g.C.Key.TenantKey.number_of g.C.Key.TenantKey.name_of g.C.TenantCalls.gives c.args.unserved.request.value.route.tenant.value c.args.step c.open.result.own.answer _ _ _ _ c.open.ensures.made)

pub returns-else-not-take_all-clause-made : goal.returns-else-not-take_all-clause-made
returns-else-not-take_all-clause-made g c = compacted g.C.Key.TenantKey.number_of g.C.Key.TenantKey.name_of g.C.TenantCalls.gives c.args.clients.now.key c.args.unserved.request.value.route.tenant.value c.args.step c.in-Compact.field-0 c.answer.result.own.answer _ (g.C.TenantCalls.made c.take_all.new.caller.calls) _ c.in-Compact.is c.take_all.ensures.others c.answer.ensures.made

pub returns-in_default : goal.returns-in_default
returns-in_default g c = record {
  request = c.answer-in_default.ensures.request;
  made = made_after_takes g.C.Key.TenantKey.number_of g.C.Key.TenantKey.name_of g.C.TenantCalls.gives c.args.clients.now.key c.args.unserved.request.value.route.tenant.value c.args.step c.answer-in_default.result.own.answer _ _ c.answer-in_default.ensures.made;
}
