use Rattle.std.proofs.Common.{ℕ, Option, Some, None, true, false, subst}
use Rattle.key_index.specs.Links.{Linked, with_link}
use Rattle.key_index.specs.Compaction.{CutsAt, IsCompactedAt, Remains}
use Rattle.key_index.proofs.Links.{one_linked, is_some_from}
use Rattle.key_index.proofs.Costs.{gives_nothing, gives_link}
use Rattle.key_index.proofs.Compacted.{cut_nothing, cut_all, cut_after, last_left}
use Rattle.key_index.proofs.compaction.cut_chain.Goals as goal

pub drop_chain-requires-clause-first : goal.drop_chain-requires-clause-first
drop_chain-requires-clause-first g c =
    let n = c.requires.newest in
    let cut = subst (CutsAt (g.R.Records.cells c.args.records.now) n.0.change.key c.args.revision c.args.head c.cut_place-place.result.last) c.in-Some.is (c.cut_place-place.ensures n.0 n.1) in
    is_some_from _ cut.first_gone.0 cut.first_gone.1

pub returns-in-None-clause-compacted : goal.returns-in-None-clause-compacted
returns-in-None-clause-compacted g c = λ e at.
    let n = c.requires.newest in
    let cut = subst (CutsAt (g.R.Records.cells c.args.records.now) n.0.change.key c.args.revision c.args.head c.cut_place-place.result.last) c.in-None.is (c.cut_place-place.ensures n.0 n.1) in
    let r = cut_nothing (g.R.Records.cells c.args.records.now) c.args.revision c.args.head c.requires.chained n c.cut_place-place.result.last cut in
    subst (λ (x : Linked). IsCompactedAt (g.R.Records.cells c.args.records.now) (g.R.Records.cells c.args.records.now) c.args.revision x.change.key) (one_linked _ n.0 e n.1 at) r.compacted

pub returns-in-None-clause-remains : goal.returns-in-None-clause-remains
returns-in-None-clause-remains g c = λ e at.
    let n = c.requires.newest in
    let cut = subst (CutsAt (g.R.Records.cells c.args.records.now) n.0.change.key c.args.revision c.args.head c.cut_place-place.result.last) c.in-None.is (c.cut_place-place.ensures n.0 n.1) in
    let r = cut_nothing (g.R.Records.cells c.args.records.now) c.args.revision c.args.head c.requires.chained n c.cut_place-place.result.last cut in
    subst (λ (x : Linked). Remains (g.R.Records.cells c.args.records.now) x.change.key c.args.head true) (one_linked _ n.0 e n.1 at) r.remains

pub returns-in-None-clause-free : goal.returns-in-None-clause-free
returns-in-None-clause-free g c = gives_nothing _ _ _

pub returns-in-None-last-clause-chained : goal.returns-in-None-last-clause-chained
returns-in-None-last-clause-chained g c =
    let n = c.requires.newest in
    let cut = subst (CutsAt (g.R.Records.cells c.args.records.now) n.0.change.key c.args.revision c.args.head c.cut_place-place.result.last) c.in-Some.is (c.cut_place-place.ensures n.0 n.1) in
    let all = subst (λ (o : Option ℕ). CutsAt (g.R.Records.cells c.args.records.now) n.0.change.key c.args.revision c.args.head o (Some c.in-Some.first)) c.in-None-last.is cut in
    let r = cut_all (g.R.Records.cells c.args.records.now) c.args.revision c.args.head c.requires.chained n c.in-Some.first cut.first_gone.0 cut.first_gone.1 (g.R.Records.cells c.drop_chain.new.records) (c.drop_chain.ensures.drops cut.first_gone.0 cut.first_gone.1) all in
    r.chained

pub returns-in-None-last-clause-compacted : goal.returns-in-None-last-clause-compacted
returns-in-None-last-clause-compacted g c = λ e at.
    let n = c.requires.newest in
    let cut = subst (CutsAt (g.R.Records.cells c.args.records.now) n.0.change.key c.args.revision c.args.head c.cut_place-place.result.last) c.in-Some.is (c.cut_place-place.ensures n.0 n.1) in
    let all = subst (λ (o : Option ℕ). CutsAt (g.R.Records.cells c.args.records.now) n.0.change.key c.args.revision c.args.head o (Some c.in-Some.first)) c.in-None-last.is cut in
    let r = cut_all (g.R.Records.cells c.args.records.now) c.args.revision c.args.head c.requires.chained n c.in-Some.first cut.first_gone.0 cut.first_gone.1 (g.R.Records.cells c.drop_chain.new.records) (c.drop_chain.ensures.drops cut.first_gone.0 cut.first_gone.1) all in
    subst (λ (x : Linked). IsCompactedAt (g.R.Records.cells c.args.records.now) (g.R.Records.cells c.drop_chain.new.records) c.args.revision x.change.key) (one_linked _ n.0 e n.1 at) r.compacted

pub returns-in-None-last-clause-remains : goal.returns-in-None-last-clause-remains
returns-in-None-last-clause-remains g c = λ e at.
    let n = c.requires.newest in
    let cut = subst (CutsAt (g.R.Records.cells c.args.records.now) n.0.change.key c.args.revision c.args.head c.cut_place-place.result.last) c.in-Some.is (c.cut_place-place.ensures n.0 n.1) in
    let all = subst (λ (o : Option ℕ). CutsAt (g.R.Records.cells c.args.records.now) n.0.change.key c.args.revision c.args.head o (Some c.in-Some.first)) c.in-None-last.is cut in
    let r = cut_all (g.R.Records.cells c.args.records.now) c.args.revision c.args.head c.requires.chained n c.in-Some.first cut.first_gone.0 cut.first_gone.1 (g.R.Records.cells c.drop_chain.new.records) (c.drop_chain.ensures.drops cut.first_gone.0 cut.first_gone.1) all in
    subst (λ (x : Linked). Remains (g.R.Records.cells c.drop_chain.new.records) x.change.key c.args.head false) (one_linked _ n.0 e n.1 at) r.remains

pub set_older-requires : goal.set_older-requires
set_older-requires g c =
    let n = c.requires.newest in
    let cut = subst (CutsAt (g.R.Records.cells c.args.records.now) n.0.change.key c.args.revision c.args.head c.cut_place-place.result.last) c.in-Some.is (c.cut_place-place.ensures n.0 n.1) in
    let some = subst (λ (o : Option ℕ). CutsAt (g.R.Records.cells c.args.records.now) n.0.change.key c.args.revision c.args.head o (Some c.in-Some.first)) c.in-Some-last.is cut in
    is_some_from _ some.last_kept.0 (last_left (g.R.Records.cells c.args.records.now) c.args.revision c.args.head c.requires.chained n c.in-Some.first cut.first_gone.0 cut.first_gone.1 (g.R.Records.cells c.drop_chain.new.records) (c.drop_chain.ensures.drops cut.first_gone.0 cut.first_gone.1) c.in-Some-last.last some)

pub returns-in-Some-last-clause-chained : goal.returns-in-Some-last-clause-chained
returns-in-Some-last-clause-chained g c =
    let n = c.requires.newest in
    let cut = subst (CutsAt (g.R.Records.cells c.args.records.now) n.0.change.key c.args.revision c.args.head c.cut_place-place.result.last) c.in-Some.is (c.cut_place-place.ensures n.0 n.1) in
    let some = subst (λ (o : Option ℕ). CutsAt (g.R.Records.cells c.args.records.now) n.0.change.key c.args.revision c.args.head o (Some c.in-Some.first)) c.in-Some-last.is cut in
    let r = cut_after (g.R.Records.cells c.args.records.now) c.args.revision c.args.head c.requires.chained n c.in-Some.first cut.first_gone.0 cut.first_gone.1 (g.R.Records.cells c.drop_chain.new.records) (c.drop_chain.ensures.drops cut.first_gone.0 cut.first_gone.1) c.in-Some-last.last some in
    rw c.set_older.ensures.cells r.chained

pub returns-in-Some-last-clause-compacted : goal.returns-in-Some-last-clause-compacted
returns-in-Some-last-clause-compacted g c = λ e at.
    let n = c.requires.newest in
    let cut = subst (CutsAt (g.R.Records.cells c.args.records.now) n.0.change.key c.args.revision c.args.head c.cut_place-place.result.last) c.in-Some.is (c.cut_place-place.ensures n.0 n.1) in
    let some = subst (λ (o : Option ℕ). CutsAt (g.R.Records.cells c.args.records.now) n.0.change.key c.args.revision c.args.head o (Some c.in-Some.first)) c.in-Some-last.is cut in
    let r = cut_after (g.R.Records.cells c.args.records.now) c.args.revision c.args.head c.requires.chained n c.in-Some.first cut.first_gone.0 cut.first_gone.1 (g.R.Records.cells c.drop_chain.new.records) (c.drop_chain.ensures.drops cut.first_gone.0 cut.first_gone.1) c.in-Some-last.last some in
    let done = subst (λ (x : Linked). IsCompactedAt (g.R.Records.cells c.args.records.now) (with_link (g.R.Records.cells c.drop_chain.new.records) c.in-Some-last.last None) c.args.revision x.change.key) (one_linked _ n.0 e n.1 at) r.compacted in
    rw c.set_older.ensures.cells done

pub returns-in-Some-last-clause-remains : goal.returns-in-Some-last-clause-remains
returns-in-Some-last-clause-remains g c = λ e at.
    let n = c.requires.newest in
    let cut = subst (CutsAt (g.R.Records.cells c.args.records.now) n.0.change.key c.args.revision c.args.head c.cut_place-place.result.last) c.in-Some.is (c.cut_place-place.ensures n.0 n.1) in
    let some = subst (λ (o : Option ℕ). CutsAt (g.R.Records.cells c.args.records.now) n.0.change.key c.args.revision c.args.head o (Some c.in-Some.first)) c.in-Some-last.is cut in
    let r = cut_after (g.R.Records.cells c.args.records.now) c.args.revision c.args.head c.requires.chained n c.in-Some.first cut.first_gone.0 cut.first_gone.1 (g.R.Records.cells c.drop_chain.new.records) (c.drop_chain.ensures.drops cut.first_gone.0 cut.first_gone.1) c.in-Some-last.last some in
    let done = subst (λ (x : Linked). Remains (with_link (g.R.Records.cells c.drop_chain.new.records) c.in-Some-last.last None) x.change.key c.args.head true) (one_linked _ n.0 e n.1 at) r.remains in
    rw c.set_older.ensures.cells done

pub returns-in-Some-last-clause-free : goal.returns-in-Some-last-clause-free
returns-in-Some-last-clause-free g c =
    let gives = gives_link g.R.RecordsMut.cost (g.R.Records.cells c.args.records.now) (g.R.Records.cells c.drop_chain.new.records) (g.R.RecordsMut.free c.args.records.now) (g.R.RecordsMut.free c.drop_chain.new.records) c.drop_chain.ensures.free c.in-Some-last.last None (g.R.RecordsMut.free c.set_older.new.self) c.set_older.ensures.free in
    rw c.set_older.ensures.cells gives
