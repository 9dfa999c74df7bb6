use Rattle.std.proofs.Common.{◌≡◌, true, false, arith}
use Rattle.watch_sync.proofs.Nothing.{gives_none, nothing_ahead, quiet_reply}
use Rattle.watch_sync.proofs.Takes.{plans_cancel, plans_told}
use Rattle.watch_sync.proofs.watch.OpenWatch.plan.Goals as goal

pub tell-requires-clause-whole : goal.tell-requires-clause-whole
tell-requires-clause-whole c = omega arith

pub returns-then-next-compacted-clause-plans : goal.returns-then-next-compacted-clause-plans
returns-then-next-compacted-clause-plans c = λ slots at. plans_cancel slots c.args.store.now c.args.header c.args.moment c.args.slot c.args.self.now at c.cancel-reply.result (omega arith) c.cancel-reply.ensures

pub returns-then-next-compacted-clause-quiet : goal.returns-then-next-compacted-clause-quiet
returns-then-next-compacted-clause-quiet c = λ quiet.
    absurd (omega (arith, (nothing_ahead c.args.self.now c.args.store.now c.args.moment c.use_invariant.ensures.kept c.requires quiet).1.1))

pub returns-in_err-reply-clause-sure : goal.returns-in_err-reply-clause-sure
returns-in_err-reply-clause-sure c = λ none.
    let no : false ≡ true = c.in_err-reply.ensures.sure (gives_none c.args.store.now.kept c.args.self.now.watch (omega arith) none) in
    absurd (cc)

pub returns-clause-plans : goal.returns-clause-plans
returns-clause-plans c = λ slots at. plans_told slots c.args.store.now c.args.header c.args.moment c.args.slot c.args.self.now at _ _ _ (omega arith) c.in_ok-reply.ensures.later c.in_ok-reply.ensures.reply c.in_ok-reply.ensures.next c.last_told-last.ensures

pub returns-clause-quiet : goal.returns-clause-quiet
returns-clause-quiet c = λ quiet.
    let none = nothing_ahead c.args.self.now c.args.store.now c.args.moment c.use_invariant.ensures.kept c.requires quiet in
    quiet_reply c.args.store.now c.args.self.now.watch c.args.header _ _ none.0 none.1.0 c.in_ok-reply.ensures.reply
