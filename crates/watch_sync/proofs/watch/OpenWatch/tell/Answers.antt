use Rattle.std.proofs.Common.{◌≡◌, ◌<◌, ◌∙◌, length, ap, subst, sym, arith}
use Rattle.std.specs.List.{AllByRecursion}
use Rattle.std.proofs.lemmas.Bool.Decides.{nat_tests}
use Rattle.etcd_model.specs.Watches.{is_due}
use Rattle.revision_store.specs.Stored.{cells}
use Rattle.watch_sync.specs.declared.noted.Noted.{Noted}
use Rattle.watch_sync.specs.Ahead.{AreNotes, ahead}
use Rattle.watch_sync.specs.Gathering.{first_changes}
use Rattle.watch_sync.specs.Telling.{IsKept}
use Rattle.watch_sync.proofs.Told.{events_reply, no_events, told_kept}
use Rattle.watch_sync.proofs.Nothing.{no_first}
use Rattle.watch_sync.proofs.watch.OpenWatch.tell.Goals as goal

pub events-requires : goal.events-requires
events-requires c =
    subst (AllByRecursion (λ (n : Noted). IsKept c.args.store.now n.cell)) (sym c.notes-notes.ensures)
    (told_kept c.args.store.now c.args.self.now.watch _ c.requires.whole c.in_ok-found.ensures.notes)

pub returns-then-is_empty-clause-reply : goal.returns-then-is_empty-clause-reply
returns-then-is_empty-clause-reply c =
    let none : length c.notes-notes.result.now ≡ 0 = grind (arith, nat_tests) in
    c.no_event.ensures
    ∙ no_events (cells c.args.store.now) c.args.store.now.kept c.args.self.now.watch c.args.header c.args.self.now.watch.id (is_due c.args.store.now.kept.current c.args.moment c.args.self.now.watch) _ (first_changes (ahead c.args.self.now.watch c.args.store.now.kept.changes)) none
    (subst (λ ns. AreNotes (cells c.args.store.now) ns (first_changes (ahead c.args.self.now.watch c.args.store.now.kept.changes))) (sym c.notes-notes.ensures) c.in_ok-found.ensures.notes)

pub returns-clause-reply : goal.returns-clause-reply
returns-clause-reply c =
    let some : 0 < length c.notes-notes.result.now = grind (arith, nat_tests) in
    c.reply-reply.ensures ∙ events_reply (cells c.args.store.now) c.args.store.now.kept c.args.self.now.watch c.args.header c.args.self.now.watch.id (is_due c.args.store.now.kept.current c.args.moment c.args.self.now.watch) c.notes-notes.result.now (first_changes (ahead c.args.self.now.watch c.args.store.now.kept.changes)) _ some
    (subst (λ ns. AreNotes (cells c.args.store.now) ns (first_changes (ahead c.args.self.now.watch c.args.store.now.kept.changes))) (sym c.notes-notes.ensures) c.in_ok-found.ensures.notes)
    c.in_ok-events.ensures

pub returns-in_err-events-clause-sure : goal.returns-in_err-events-clause-sure
returns-in_err-events-clause-sure c = λ none.
    let empty = no_first c.args.store.now c.args.self.now.watch _ c.in_ok-found.ensures.notes none in
    let some : 0 < length c.notes-notes.result.now = grind (arith, nat_tests) in
    absurd (omega (arith, some, ap length c.notes-notes.ensures, ap length empty))
