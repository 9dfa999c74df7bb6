use Rattle.std.proofs.Common.{◌≡◌, ◌+◌, ◌∙◌, true, false, fold, drop, length, ap, arith}
use Rattle.etcd_model.specs.Changes.{since}
use Rattle.revision_store.specs.Stored.{cells}
use Rattle.watch_sync.specs.Ahead.{notes_at}
use Rattle.watch_sync.specs.Gathering.{Gathering, offered}
use Rattle.watch_sync.proofs.Notes.{all_there, under}
use Rattle.watch_sync.proofs.Walks.{ring_end, ring_offered}
use Rattle.watch_sync.proofs.Gathers.{gathered_last, gathered_later, gathered_next, gathered_notes, gathers_on}
use Rattle.watch_sync.proofs.Nothing.{none_behind, ring_empty}
use Rattle.watch_sync.proofs.watch.OpenWatch.gather.Goals as goal

pub loop-place-preserved : goal.loop-place-preserved
loop-place-preserved c = record {
  within = omega arith;
  rest = ap (λ (k : Gathering). fold offered k (drop (c.loop-place.place + 1) c.args.self.now.ring)) c.in_ok-offer.ensures ∙ ring_offered c.args.self.now.ring c.loop-place.place c.note_at.result c.loop-place.found _ c.note_at.ensures c.loop-place.invariant.rest;
}

pub returns-clause-notes : goal.returns-clause-notes
returns-clause-notes c =
    gathered_notes c.args.self.now c.args.store.now c.behind.result c.scan.new.found c.use_invariant.ensures.kept c.requires.whole c.requires.agrees
    c.behind.ensures
    (gathers_on c.args.self.now.ring (notes_at (cells c.args.store.now) c.args.self.now.watch c.behind.result) c.loop-place.found c.scan.new.found (ring_end c.args.self.now.ring c.loop-place.place c.loop-place.found _ (omega arith) c.loop-place.invariant.rest) c.in_ok-scan.ensures.notes)

pub returns-clause-next : goal.returns-clause-next
returns-clause-next c =
    gathered_next c.args.self.now c.args.store.now c.behind.result c.scan.new.found c.use_invariant.ensures.kept c.requires.whole c.requires.agrees
    c.behind.ensures
    (gathers_on c.args.self.now.ring (notes_at (cells c.args.store.now) c.args.self.now.watch c.behind.result) c.loop-place.found c.scan.new.found (ring_end c.args.self.now.ring c.loop-place.place c.loop-place.found _ (omega arith) c.loop-place.invariant.rest) c.in_ok-scan.ensures.notes)

pub returns-clause-later : goal.returns-clause-later
returns-clause-later c =
    gathered_later c.args.self.now c.args.store.now c.behind.result c.scan.new.found c.use_invariant.ensures.kept c.requires.whole c.requires.agrees
    c.behind.ensures
    (gathers_on c.args.self.now.ring (notes_at (cells c.args.store.now) c.args.self.now.watch c.behind.result) c.loop-place.found c.scan.new.found (ring_end c.args.self.now.ring c.loop-place.place c.loop-place.found _ (omega arith) c.loop-place.invariant.rest) c.in_ok-scan.ensures.notes)

pub returns-clause-last : goal.returns-clause-last
returns-clause-last c =
    gathered_last c.args.self.now c.args.store.now c.behind.result c.scan.new.found c.use_invariant.ensures.kept c.requires.whole c.requires.agrees
    c.behind.ensures
    (gathers_on c.args.self.now.ring (notes_at (cells c.args.store.now) c.args.self.now.watch c.behind.result) c.loop-place.found c.scan.new.found (ring_end c.args.self.now.ring c.loop-place.place c.loop-place.found _ (omega arith) c.loop-place.invariant.rest) c.in_ok-scan.ensures.notes)

pub scan-requires : goal.scan-requires
scan-requires c =
    let s = c.args.store.now in
    all_there (cells s) c.behind.result (since c.args.self.now.position s.kept.changes) (under (cells s) c.behind.result (since c.args.self.now.position s.kept.changes) c.behind.ensures)

pub returns-in_err-offer-clause-sure : goal.returns-in_err-offer-clause-sure
returns-in_err-offer-clause-sure c = λ none. absurd (omega (arith, ap length (ring_empty c.args.self.now c.args.store.now c.requires.whole c.requires.agrees none)))

pub returns-in_err-scan-clause-sure : goal.returns-in_err-scan-clause-sure
returns-in_err-scan-clause-sure c = λ none.
    let no : false ≡ true = c.in_err-scan.ensures.sure (none_behind c.args.self.now c.args.store.now c.behind.result c.behind.ensures none) in
    absurd (cc)
