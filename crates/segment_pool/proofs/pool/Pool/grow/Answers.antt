use Rattle.std.proofs.Common.{◌≡◌, ◌+◌, Some, slice_get, subst, sym, ap, arith}
use Rattle.etcd_model.specs.Pool.{PoolState, TicketState, IsHeld, AddsUp}
use Rattle.segment_pool.proofs.Numbers.{reserved-le-sum, slice_get-written, sum-written}
use Rattle.segment_pool.proofs.pool.Pool.grow.Goals as goal

pub returns-clause-exact : goal.returns-clause-exact
returns-clause-exact c adds held =
    let ours = subst (λ (p : PoolState). IsHeld p c.args.ticket.now) (sym c.self.view_is) held in
    let added = subst AddsUp (sym c.self.view_is) adds in
    let most = reserved-le-sum c.self.inside.reservations.items c.args.ticket.now.number c.args.ticket.now.reserved c.self.inside.promised c.self.inside.out ours added in
    omega (arith, most, c.saturating_add-ticket-inside.ensures, c.self.invariant.whole, c.self.invariant.few, c.if-unreserved-segments.false, c.unreserved.ensures, ap (λ (p : PoolState). p.promised) c.self.view_is, ap (λ (p : PoolState). p.free) c.self.view_is, ap (λ (t : TicketState). t.reserved) c.ticket.view_is)

pub returns-clause-held : goal.returns-clause-held
returns-clause-held c held =
    let ours = subst (λ (p : PoolState). IsHeld p c.args.ticket.now) (sym c.self.view_is) held in
    let here = subst (λ (t : TicketState). slice_get c.self.inside.reservations.items t.number ≡ Some t.reserved) (sym c.ticket.view_is) ours in
    slice_get-written c.self.inside.reservations c.as_mut_slice.result.now c.set_at.new.items c.ticket.inside.number c.ticket.inside.reserved c.saturating_add-ticket-inside.result c.as_mut_slice.ensures.value c.as_mut_slice.ensures.len c.set_at.ensures here

pub returns-clause-adds_up : goal.returns-clause-adds_up
returns-clause-adds_up c adds held =
    let added = subst AddsUp (sym c.self.view_is) adds in
    let ours = subst (λ (p : PoolState). IsHeld p c.args.ticket.now) (sym c.self.view_is) held in
    let here = subst (λ (t : TicketState). slice_get c.self.inside.reservations.items t.number ≡ Some t.reserved) (sym c.ticket.view_is) ours in
    let exact = returns-clause-exact c adds held in
    sum-written c.self.inside.reservations c.as_mut_slice.result.now c.set_at.new.items c.ticket.inside.number c.ticket.inside.reserved
    c.saturating_add-ticket-inside.result (c.self.inside.promised + c.args.segments)
    c.self.inside.out c.self.inside.promised c.as_mut_slice.ensures.value c.as_mut_slice.ensures.len c.set_at.ensures here added
    (omega (arith, exact, ap (λ (t : TicketState). t.reserved) c.ticket.view_is))
