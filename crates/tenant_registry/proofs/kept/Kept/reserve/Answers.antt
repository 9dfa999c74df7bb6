use Rattle.std.proofs.Common.{◌≡◌, ◌∙◌, ◌+◌, ◌≤◌, sym, ap, arith, rules}
use Rattle.etcd_model.specs.Pool.{StockState}
use Rattle.tenant_machine.specs.Reserving.{reservation}
use Rattle.tenant_machine.specs.Tenants.{MachineState}
use Rattle.tenant_registry.specs.Keeping.{Content}
use Rattle.tenant_registry.proofs.KeptLemmas.{kept_reserved, kept_rooms, resized_segments}
use Rattle.tenant_registry.proofs.kept.Kept.reserve.Goals as goal

pub invariant_of-self-in_err-keep_quota : goal.invariant_of-self-in_err-keep_quota
invariant_of-self-in_err-keep_quota c = record {
  kept = kept_rooms c.self.inside.machine c.grow_rooms.new.self c.self.inside.audit c.keep_quota.new.self c.self.inside.left c.make_room.new.self _ _ c.self.invariant.kept
      c.in_ok-grow_rooms.ensures.ok c.in_err-keep_quota.ensures.err c.in_ok-make_room.ensures.ok;
  reserved = c.self.invariant.reserved ∙ sym (ap (λ (x : MachineState). x.store.share.reserved) c.in_ok-grow_rooms.ensures.ok);
}

pub invariant_of-self-2 : goal.invariant_of-self-2
invariant_of-self-2 c =
    let m = c.self.inside.machine in
    let left = c.self.inside.left in
    let segments : c.args.segments ≡ reservation m c.args.quota = c.requires.segments ∙ ap (λ (x : Content). reservation x.machine c.args.quota) (sym c.self.view_is) in
    let lent = c.self.invariant.kept.lent.left in
    let counted = c.self.invariant.reserved in
    let more = c.saturating_sub-more.ensures in
    let fewer = c.saturating_sub-fewer.ensures in
    let made = c.in_ok-make_room.ensures.ok in
    let held : c.move_to-2.new.self.held + m.store.share.drawn ≡ c.args.segments =
    omega (arith, lent, counted, more, fewer, ap (λ (x : StockState). x.held) made, c.move_to.ensures.to_held, c.move_to-2.ensures.from_held) in
    let room : m.store.share.drawn ≤ c.move_to-2.new.self.room =
    omega (arith, lent, counted, more, fewer, c.held.ensures, ap (λ (x : StockState). x.room) made, c.move_to.ensures.to_room, c.move_to-2.ensures.from_room) in
    let both = kept_reserved m c.set_quota.new.self c.grow_rooms.new.self c.self.inside.audit c.keep_quota.new.self left c.move_to-2.new.self c.args.quota c.args.segments c.self.invariant.kept
    c.in_ok-grow_rooms.ensures.ok c.set_quota.ensures c.in_ok-keep_quota.ensures.ok segments held room in
    record { kept = both.0; reserved = both.1 }

pub returns-clause-ok : goal.returns-clause-ok
returns-clause-ok c = record {
  machine = search rules;
  audit = search rules;
  reserved = search rules;
  moved = search rules;
  segments =
      resized_segments c.args.self.now c.self.inside.machine c.set_quota.new.self c.grow_rooms.new.self c.self.inside.audit c.self.inside.left c.args.quota _ _ c.move_to.new.self.numbers c.move_to-2.new.to.numbers _ c.move_to.new.to.numbers
      c.move_to-2.new.self.numbers c.args.free.now.numbers c.self.view_is c.in_ok-grow_rooms.ensures.ok c.set_quota.ensures (ap (λ (s : StockState). s.numbers) c.in_ok-make_room-2.ensures.ok)
      (ap (λ (s : StockState). s.numbers) c.in_ok-make_room.ensures.ok) c.move_to.ensures.numbers c.move_to-2.ensures.numbers;
}
