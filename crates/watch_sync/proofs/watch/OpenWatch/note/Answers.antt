use Rattle.std.proofs.Common.{◌≡◌, ℕ, ◌+◌, subst, sym, arith, rules}
use Rattle.watch_sync.specs.Agreeing.{IsStretch}
use Rattle.watch_sync.proofs.Others.{none_of_other}
use Rattle.watch_sync.proofs.Rings.{newest_stretch, passes_on, stretch_there}
use Rattle.watch_sync.proofs.watch.OpenWatch.note.Goals as goal

pub pass-requires-clause-stretch : goal.pass-requires-clause-stretch
pass-requires-clause-stretch c =
    let at : c.args.self.now.position ≡ c.args.store.now.kept.current = omega arith in
    subst (λ (n : ℕ). IsStretch c.args.store.now c.args.self.now.position (n + 1) c.args.newest.now) (sym c.current-current.ensures.current)
    (newest_stretch c.args.store.now c.args.self.now.position c.args.newest.now c.current-current.ensures.sound.kept at c.requires.newest)

pub returns-then-is_other-clause-agrees : goal.returns-then-is_other-clause-agrees
returns-then-is_other-clause-agrees c = λ agrees.
    let store = c.args.store.now in
    let sound = c.current-current.ensures.sound.kept in
    let at : c.args.self.now.position ≡ store.kept.current = omega arith in
    let stretch = subst (λ (n : ℕ). IsStretch store c.args.self.now.position (n + 1) c.args.newest.now) (sym c.current-current.ensures.current)
    (newest_stretch store c.args.self.now.position c.args.newest.now sound at c.requires.newest) in
    let there = stretch_there store c.args.self.now.position (c.current-current.result + 1) c.args.newest.now stretch in
    passes_on c.args.self.now c.args.self.now c.move_to.new.self store c.args.newest.now (c.current-current.result + 1) sound (search rules) stretch
    (none_of_other store c.args.self.now c.args.newest.now c.args.front.now there c.requires.front (c.is_other.ensures.some c.if-is_other.true) (c.is_other.ensures.other c.if-is_other.true))
    c.move_to.ensures agrees
