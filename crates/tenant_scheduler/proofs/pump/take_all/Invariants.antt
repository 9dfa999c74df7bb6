use Rattle.std.specs.Prelude.{◌≡◌}
use Rattle.tenant_scheduler.specs.Makes.{IsOnlyOn}
use Rattle.tenant_scheduler.proofs.pump.take_all.Given as goal

abbrev pub invariant-loop : goal.invariant-loop
invariant-loop g l =
    (l.clients.key ≡ l.initial.clients.key)
    × (l.clients.standing ≡ l.initial.clients.standing)
    × (l.clients.running ≡ l.initial.clients.running)
    × IsOnlyOn g.C.Key.TenantKey.name_of l.initial.clients.key (g.C.TenantCalls.made l.initial.caller.calls) (g.C.TenantCalls.made l.caller.calls)
