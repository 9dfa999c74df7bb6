use Rattle.std.proofs.Common.{◌∙◌, ap, arith}
use Rattle.watch_sync.specs.Agreeing.{WatchState}
use Rattle.watch_sync.proofs.Rings.{empty_agrees}
use Rattle.watch_sync.proofs.watch.OpenWatch.open.Goals as goal

pub returns-clause-agrees : goal.returns-clause-agrees
returns-clause-agrees c =
    let position = ap (λ (w : WatchState). w.position) c.new.ensures in
    let next = ap (λ (w : WatchState). w.watch.next) c.new.ensures in
    empty_agrees c.new.result c.args.store.now (ap (λ (w : WatchState). w.ring) c.new.ensures ∙ ap (λ b. b.items) c.in_ok-ring.ensures)
    (omega (arith, position, next, c.min-position.ensures)) (omega (arith, position, c.min-position.ensures, c.current-current.ensures.current))
