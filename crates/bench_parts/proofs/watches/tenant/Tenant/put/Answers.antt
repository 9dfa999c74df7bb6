use Rattle.std.proofs.Common.{◌≡◌, ◌+◌, rules}
use Rattle.bench_parts.proofs.watches.tenant.Tenant.put.Goals as goal

pub invariant_of-self : goal.invariant_of-self
invariant_of-self c =
    let stock = c.commit-revision.new.segments in
    let store = c.commit-revision.new.self in
    let whole : stock.held + store.share.drawn ≡ store.share.reserved = search rules in
    let room : stock.room ≡ store.share.drawn = search rules in
    (whole, (room, c.note.ensures.agree c.self.inside.store c.in-Ok.planned.plan c.commit-revision.ensures.commits c.self.invariant.1.1))
