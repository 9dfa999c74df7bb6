use Rattle.std.proofs.Common.{◌≡◌, ◌∙◌, ap, arith, inl, inr}
use Rattle.etcd_model.specs.declared.state.Watch.{Watch}
use Rattle.watch_sync.specs.Agreeing.{WatchState, with_next}
use Rattle.watch_sync.proofs.Rings.{told_agrees}
use Rattle.watch_sync.proofs.watch.OpenWatch.told.Goals as goal

position : {a b : WatchState} → a ≡ b → a.position ≡ b.position
position e = ap (λ (v : WatchState). v.position) e

watch : {a b : WatchState} → a ≡ b → a.watch ≡ b.watch
watch e = ap (λ (v : WatchState). v.watch) e

pub returns-then-position-reached-clause-agrees : goal.returns-then-position-reached-clause-agrees
returns-then-position-reached-clause-agrees c =
    told_agrees c.args.self.now c.move_to.new.self c.args.store.now c.args.next c.args.last c.requires.later c.current.ensures.sound.kept.rises c.requires.whole c.requires.agrees
    (watch c.move_to.ensures ∙ watch c.set_next.ensures ∙ ap (λ (q : Watch). with_next q c.args.next c.args.last) c.drop_below.ensures.watch)
    (λ rises. ap (λ (v : WatchState). v.ring) c.move_to.ensures ∙ ap (λ (v : WatchState). v.ring) c.set_next.ensures ∙ c.drop_below.ensures.ring rises)
    (omega (arith, position c.move_to.ensures, position c.set_next.ensures))
    (inl (omega (arith, position c.move_to.ensures)))
    (omega (arith, position c.move_to.ensures))

pub returns-else-position-reached-clause-agrees : goal.returns-else-position-reached-clause-agrees
returns-else-position-reached-clause-agrees c =
    told_agrees c.args.self.now c.set_next.new.self c.args.store.now c.args.next c.args.last c.requires.later c.current.ensures.sound.kept.rises c.requires.whole c.requires.agrees
    (watch c.set_next.ensures ∙ ap (λ (q : Watch). with_next q c.args.next c.args.last) c.drop_below.ensures.watch)
    (λ rises. ap (λ (v : WatchState). v.ring) c.set_next.ensures ∙ c.drop_below.ensures.ring rises)
    (omega (arith, position c.set_next.ensures))
    (inr (position c.set_next.ensures ∙ c.drop_below.ensures.position))
    (omega (arith, position c.set_next.ensures, c.requires.agrees.up_to))
