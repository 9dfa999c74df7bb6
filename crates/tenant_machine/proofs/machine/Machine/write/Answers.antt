use Rattle.std.proofs.Common.{ap, arith, subst, sym}
use Rattle.etcd_model.specs.Store.{counted_cells}
use Rattle.tenant_machine.specs.Plans.{FitsWrite}
use Rattle.tenant_machine.proofs.Counting.{machine_after_write}
use Rattle.tenant_machine.proofs.KeepingLeases.{keeps_after_write, next_revision}
use Rattle.tenant_machine.proofs.machine.Machine.write.Goals as goal

pub follow-requires : goal.follow-requires
follow-requires g c = record {
  next =
      let fits = subst (λ m. FitsWrite m c.args.plan c.args.used) (sym c.self.view_is) c.requires.fits in
      let store = c.self.inside.store in
      let new = c.commit.new.self in
      next_revision store new c.self.inside.leases c.self.inside.moment c.args.plan _ c.current-revision.ensures.sound.kept c.self.invariant.0.keeps fits.can.plan.once c.commit.ensures.commits.kept c.commit.ensures.commits.stay (omega (arith, c.current-revision.ensures.current))
      (omega (arith, fits.counted, fits.within, c.self.invariant.0.room, c.self.invariant.0.reserved, ap counted_cells c.commit.ensures.commits.kept));
}

pub invariant_of-self : goal.invariant_of-self
invariant_of-self g c =
    let fits = subst (λ m. FitsWrite m c.args.plan c.args.used) (sym c.self.view_is) c.requires.fits in
    let store = c.self.inside.store in
    let new = c.commit.new.self in
    let book = c.self.inside.leases in
    let commits = c.commit.ensures.commits in
    let settles = c.commit.ensures.settles in (
      machine_after_write store new book c.follow.new.leases c.self.inside.moment c.self.inside.quota c.args.plan c.args.used c.self.invariant.0 fits.counted fits.within commits.kept commits.lease_cells settles.reserved settles.rooms c.follow.ensures.others
          (keeps_after_write store new book c.follow.new.leases c.self.inside.moment c.args.plan c.self.invariant.0.keeps commits.kept commits.leases fits.revisions
          (omega (arith, fits.counted, fits.within, c.self.invariant.0.reserved, c.self.invariant.0.few, ap counted_cells commits.kept)) c.follow.ensures.keys c.follow.ensures.others),
      c.note.ensures.agree store c.args.plan commits c.self.invariant.1,
    )
