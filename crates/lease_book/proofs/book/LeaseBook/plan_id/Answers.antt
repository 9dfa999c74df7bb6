use Rattle.std.proofs.Common.{◌≡◌, pos, to_z, w64, arith, rules}
use Rattle.std.proofs.lemmas.Int.{to_z_pos}
use Rattle.lease_book.proofs.Granted.{chosen}
use Rattle.lease_book.proofs.Standing.{count_leases}
use Rattle.lease_book.proofs.book.LeaseBook.plan_id.Goals as goal

pub returns : goal.returns
returns c =
    let n = c.choose_id-id.result in
    let zero : c.args.wanted ≡ pos 0 = search rules in
    let id : to_z w64 n ≡ pos n = to_z_pos w64 n (omega (arith, c.choose_id-id.ensures.within, count_leases c.self.inside.list.items, c.self.invariant.book.count, c.self.invariant.book.room, c.if-self-ge-LAST_LEASE_ID.false)) in
    rw (← c.self.view_is, id) (chosen _ c.args.wanted n zero (omega arith) c.self.invariant.book.ascend c.choose_id-id.ensures.value)
