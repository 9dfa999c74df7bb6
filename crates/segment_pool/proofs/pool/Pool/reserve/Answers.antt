use Rattle.std.proofs.Common.{◌+◌, ℕ, List, length, vec_len, subst, sym, ap, arith}
use Rattle.etcd_model.specs.Pool.{PoolState, AddsUp}
use Rattle.segment_pool.proofs.Numbers.{slice_get-number, slice_get-written, sum-written}
use Rattle.segment_pool.proofs.pool.Pool.reserve.Goals as goal

pub returns-clause-held : goal.returns-clause-held
returns-clause-held c adds =
    let added = subst AddsUp (sym c.self.view_is) adds in
    let lens = ap (λ (ys : List ℕ). length ys) c.as_slice.ensures.value in
    let unheld = slice_get-number c.self.inside.reservations.items c.as_slice.result.now c.least_unheld-number.result c.self.inside.promised c.self.inside.out (vec_len c.self.inside.free) c.args.segments c.as_slice.ensures.value c.least_unheld-number.ensures added c.requires
    (omega (arith, c.if-unreserved-segments.false, c.unreserved.ensures, ap (λ (p : PoolState). p.promised) c.self.view_is, ap (λ (p : PoolState). p.free) c.self.view_is))
    (omega (arith, c.self.invariant.whole, c.as_slice.ensures.len, lens)) in
    slice_get-written c.self.inside.reservations c.as_mut_slice.result.now c.set_at.new.items c.least_unheld-number.result 0 c.args.segments c.as_mut_slice.ensures.value c.as_mut_slice.ensures.len c.set_at.ensures unheld

pub returns-clause-adds_up : goal.returns-clause-adds_up
returns-clause-adds_up c adds =
    let added = subst AddsUp (sym c.self.view_is) adds in
    let lens = ap (λ (ys : List ℕ). length ys) c.as_slice.ensures.value in
    let unheld = slice_get-number c.self.inside.reservations.items c.as_slice.result.now c.least_unheld-number.result c.self.inside.promised c.self.inside.out (vec_len c.self.inside.free) c.args.segments c.as_slice.ensures.value c.least_unheld-number.ensures added c.requires
    (omega (arith, c.if-unreserved-segments.false, c.unreserved.ensures, ap (λ (p : PoolState). p.promised) c.self.view_is, ap (λ (p : PoolState). p.free) c.self.view_is))
    (omega (arith, c.self.invariant.whole, c.as_slice.ensures.len, lens)) in
    sum-written c.self.inside.reservations c.as_mut_slice.result.now c.set_at.new.items c.least_unheld-number.result 0 c.args.segments
    (c.self.inside.promised + c.args.segments) c.self.inside.out c.self.inside.promised c.as_mut_slice.ensures.value c.as_mut_slice.ensures.len c.set_at.ensures unheld added (omega arith)
