use Rattle.std.proofs.Common.{◌≡◌, ◌∷◌, [], Some, None, drop, length, refl, ap, subst, arith, length-append}
use Rattle.std.proofs.lemmas.List.{drop_all}
use Rattle.std.proofs.lemmas.Iterator.{YieldsList}
use Rattle.std.proofs.lemmas.Iterator.Consumers.{YieldsList-turn, YieldsList-end}
use Rattle.revision_store.specs.declared.plan.Write.TheVariants.{Delete}
use Rattle.revision_store.specs.Plans.{head_deletes}
use Rattle.cell_arena.proofs.Loans.{settles_none, settles_both, lent_still}
use Rattle.revision_store.specs.Appending.{IsAppending}
use Rattle.revision_store.proofs.Writing.{all_appended, deletes_here, appended, next_fits, starting}
use Rattle.revision_store.proofs.log.Log.append_deletes.Goals as goal

pub loop-head-init : goal.loop-head-init
loop-head-init g c = record { appending = starting _ c.args.revision (head_deletes g.list) c.requires.1.1.1.1.1.0; settles = settles_none _ _ }

pub append-requires-clause-takes : goal.append-requires-clause-takes
append-requires-clause-takes g c =
    let from = c.into_iter-head-iterator in
    let steps = g.I.Iterator.next_gives in
    let road : YieldsList steps (λ cell. cell) from.result g.list = record { runs = rw from.ensures.into_iter_gives c.requires.1.1.1.1.0 } in
    let turn = YieldsList-turn road c.loop-head.yielded c.loop-head.head-iterator c.loop-head.yielded_by (Some c.in-Some.head) c.next.new.self c.in-Some.head refl c.in-Some.ensures.steps in
    let ahead = deletes_here g.list (length c.loop-head.yielded) c.in-Some.head turn.0 turn.1 in
    next_fits c.args.self.now c.loop-head.self c.args.revision (head_deletes g.list) _ (Delete c.in-Some.head) (subst (IsAppending c.args.self.now c.loop-head.self c.args.revision (head_deletes g.list)) ahead c.loop-head.invariant.appending)

pub append-requires-clause-lent : goal.append-requires-clause-lent
append-requires-clause-lent g c = lent_still _ _ _ _ c.requires.1.1.1.1.1.1 c.loop-head.invariant.settles

pub loop-head-preserved : goal.loop-head-preserved
loop-head-preserved g c =
    let from = c.into_iter-head-iterator in
    let steps = g.I.Iterator.next_gives in
    let road : YieldsList steps (λ cell. cell) from.result g.list = record { runs = rw from.ensures.into_iter_gives c.requires.1.1.1.1.0 } in
    let xs = c.loop-head.yielded in
    let turn = YieldsList-turn road xs c.loop-head.head-iterator c.loop-head.yielded_by (Some c.in-Some.head) c.next.new.self c.in-Some.head refl c.in-Some.ensures.steps in
    let ahead = deletes_here g.list (length xs) c.in-Some.head turn.0 turn.1 in
    let before = subst (IsAppending c.args.self.now c.loop-head.self c.args.revision (head_deletes g.list)) ahead c.loop-head.invariant.appending in
    let more = length-append xs (c.in-Some.head ∷ []) in
    record {
      appending = rw more (appended c.args.self.now c.loop-head.self c.append.new.self c.args.revision (head_deletes g.list) _ (Delete c.in-Some.head) before c.append.ensures.appends);
      settles = settles_both _ _ _ _ _ _ c.loop-head.invariant.settles c.append.ensures.settles;
    }

pub returns-clause-appends : goal.returns-clause-appends
returns-clause-appends g c =
    let from = c.into_iter-head-iterator in
    let steps = g.I.Iterator.next_gives in
    let road : YieldsList steps (λ cell. cell) from.result g.list = record { runs = rw from.ensures.into_iter_gives c.requires.1.1.1.1.0 } in
    let xs = c.loop-head.yielded in
    let long = (YieldsList-end road xs c.loop-head.head-iterator c.loop-head.yielded_by None c.next.new.self refl c.in-None.ensures.steps).1 in
    let none : head_deletes (drop (length xs) g.list) ≡ [] = ap head_deletes (drop_all (length xs) g.list (omega (arith, long))) in
    all_appended c.args.self.now c.loop-head.self c.args.revision (head_deletes g.list) (subst (IsAppending c.args.self.now c.loop-head.self c.args.revision (head_deletes g.list)) none c.loop-head.invariant.appending)
