use Rattle.std.proofs.Common.{◌++◌, ◌∷◌, ◌∙◌, [], ℕ, List, ap, append_assoc, arith, length, length-append, map, refl, subst, sym, take}
use Rattle.etcd_model.specs.Interval.{every_key}
use Rattle.key_index.specs.Links.{change_at}
use Rattle.model_laws.specs.Pending.{rows_next}
use Rattle.model_laws.proofs.PendingLaws.{rows_at_next}
use Rattle.revision_store.specs.Stored.{cells}
use Rattle.lease_book.specs.Book.{Book}
use Rattle.tenant_machine.specs.Keyed.{AreKeysOf}
use Rattle.tenant_machine.proofs.RevisionFollow.{behind_done, change_there, here, keys_at_end, keys_fit, keys_follow, still_next}
use Rattle.tenant_machine.proofs.attaching.follow.Goals as goal

pub loop-cell-init : goal.loop-cell-init
loop-cell-init c = record {
  shown = ap (map (change_at (cells c.args.store.now))) c.into_iter-cell-iterator.ensures.into_iter_gives ∙ c.since-cell-items.ensures;
  keys = λ next. subst (AreKeysOf (cells c.args.store.now) c.args.leases.now.attachments) (sym (rows_at_next next.old [] every_key next.sound)) next.keys;
  others = refl;
}

pub follow_change-requires-clause-attached : goal.follow_change-requires-clause-attached
follow_change-requires-clause-attached c = (c.loop-cell.invariant.keys c.requires.next).attached

pub follow_change-requires-clause-there : goal.follow_change-requires-clause-there
follow_change-requires-clause-there c =
    let next = c.requires.next in
    let ns = c.loop-cell.yielded ++ c.loop-cell.cell-iterator in
    let at = behind_done c.loop-cell.yielded c.loop-cell.cell-iterator c.next.new.self c.in-Some.cell c.in-Some.ensures.steps in
    change_there (cells c.args.store.now) c.in-Some.cell _
    (here next.old next.sound next.changes next.once (change_at (cells c.args.store.now)) ns (still_next c.args.store.now c.args.leases.now c.args.revision next ns c.loop-cell.invariant.shown)
    (length c.loop-cell.yielded) c.in-Some.cell at.0 at.1).shows

pub follow_change-requires-clause-room : goal.follow_change-requires-clause-room
follow_change-requires-clause-room c =
    let next = c.requires.next in
    let ns = c.loop-cell.yielded ++ c.loop-cell.cell-iterator in
    let at = behind_done c.loop-cell.yielded c.loop-cell.cell-iterator c.next.new.self c.in-Some.cell c.in-Some.ensures.steps in
    omega (
      arith,
      keys_fit c.args.store.now c.args.leases.now c.args.revision next ns c.loop-cell.invariant.shown (length c.loop-cell.yielded) c.in-Some.cell at.0 at.1 c.loop-cell.leases.attachments (c.loop-cell.invariant.keys next),
      ap (λ (b : Book). b.room) c.loop-cell.invariant.others,
    )

pub loop-cell-preserved : goal.loop-cell-preserved
loop-cell-preserved c =
    let done = c.loop-cell.yielded in
    let ns = done ++ c.loop-cell.cell-iterator in
    let at = behind_done done c.loop-cell.cell-iterator c.next.new.self c.in-Some.cell c.in-Some.ensures.steps in
    record {
      shown =
          ap (map (change_at (cells c.args.store.now))) (append_assoc done (c.in-Some.cell ∷ []) c.next.new.self ∙ ap (λ (cs : List ℕ). done ++ cs) (sym c.in-Some.ensures.steps))
          ∙ c.loop-cell.invariant.shown;
      keys = λ next.
          subst (λ (n : ℕ). AreKeysOf (cells c.args.store.now) c.follow_change.new.leases.attachments (rows_next next.old (take n next.changes))) (sym (length-append done (c.in-Some.cell ∷ [])))
          (keys_follow c.args.store.now c.args.leases.now c.args.revision next ns c.loop-cell.invariant.shown (length done) c.in-Some.cell at.0 at.1
          c.loop-cell.leases.attachments c.follow_change.new.leases.attachments (c.loop-cell.invariant.keys next) c.follow_change.ensures.follows);
      others = c.follow_change.ensures.others ∙ ap (λ (b : Book). record b { attachments = c.follow_change.new.leases.attachments }) c.loop-cell.invariant.others;
    }

pub returns-clause-keys : goal.returns-clause-keys
returns-clause-keys c =
    let done = c.loop-cell.yielded in
    let ns = done ++ c.loop-cell.cell-iterator in
    keys_at_end c.args.store.now c.args.leases.now c.args.revision c.requires.next ns c.loop-cell.invariant.shown (length done) c.loop-cell.leases.attachments
    (omega (arith, length-append done c.loop-cell.cell-iterator, ap length c.in-None.ensures.steps.0)) (c.loop-cell.invariant.keys c.requires.next)

pub returns-clause-others : goal.returns-clause-others
returns-clause-others c = c.loop-cell.invariant.others
