use Rattle.std.proofs.Common.{rules}
use Rattle.tenant_server.proofs.threads.fn.run_threads.scope+FnOnce.call_once.Goals as goal

-- what the closure asks of its parameters is what the bounds say, and that a function may be called what the clause says
pub scope-requires : goal.scope-requires
scope-requires g c =
    let bounds = c.requires.1.1.1.1.1.1.1
    in (bounds.0, (bounds.1, (bounds.2, (bounds.3, (bounds.4, (bounds.5, c.requires.1.1.1.1.1.1.0))))))
