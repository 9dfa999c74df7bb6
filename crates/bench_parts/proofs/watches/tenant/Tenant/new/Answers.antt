use Rattle.std.proofs.Common.{◌≡◌, ◌+◌, rules}
use Rattle.bench_parts.proofs.watches.tenant.Tenant.new.Goals as goal

pub invariant_of-result : goal.invariant_of-result
invariant_of-result c =
    let stock = c.in_ok-new-3.field-0 in
    let store = c.in_ok-new.field-0 in
    let whole : stock.held + store.share.drawn ≡ store.share.reserved = search rules in
    let room : stock.room ≡ store.share.drawn = search rules in
    (whole, (room, c.in_ok-new-2.ensures.agree store))
