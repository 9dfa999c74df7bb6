use Rattle.std.proofs.Common.{subst}
use Rattle.cell_arena.proofs.Loans.{settles_none, settles_both, lent_still}
use Rattle.revision_store.specs.Appending.{IsAppending}
use Rattle.revision_store.proofs.Writing.{ahead_here, appended, next_fits, starting}
use Rattle.revision_store.proofs.log.Log.append_all.Goals as goal

pub loop-write-init : goal.loop-write-init
loop-write-init g c = record { appending = starting _ c.args.revision c.args.writes.now c.requires.takes; settles = settles_none _ _ }

pub append-requires-clause-takes : goal.append-requires-clause-takes
append-requires-clause-takes g c =
    let ahead = ahead_here c.args.writes.now c.loop-write.write-index c.write-item.result c.loop-write-test.true c.write-item.is in
    next_fits c.args.self.now c.loop-write.self c.args.revision c.args.writes.now _ c.write-item.result (subst (IsAppending c.args.self.now c.loop-write.self c.args.revision c.args.writes.now) ahead c.loop-write.invariant.appending)

pub append-requires-clause-lent : goal.append-requires-clause-lent
append-requires-clause-lent g c = lent_still _ _ _ _ c.requires.lent c.loop-write.invariant.settles

pub loop-write-preserved : goal.loop-write-preserved
loop-write-preserved g c =
    let ahead = ahead_here c.args.writes.now c.loop-write.write-index c.write-item.result c.loop-write-test.true c.write-item.is in
    let before = subst (IsAppending c.args.self.now c.loop-write.self c.args.revision c.args.writes.now) ahead c.loop-write.invariant.appending in
    record {
      appending = appended c.args.self.now c.loop-write.self c.append.new.self c.args.revision c.args.writes.now _ c.write-item.result before c.append.ensures.appends;
      settles = settles_both _ _ _ _ _ _ c.loop-write.invariant.settles c.append.ensures.settles;
    }
