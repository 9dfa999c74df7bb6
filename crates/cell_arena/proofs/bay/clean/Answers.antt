use Rattle.std.proofs.Common.{◌≡◌, ℕ, arith, subst}
use Rattle.cell_arena.proofs.FreeList.{IsListing, listing_more, listed_from}
use Rattle.cell_arena.proofs.bay.clean.Goals as goal

pub listing-preserved : goal.listing-preserved
listing-preserved c = record {
  listed = rw c.link_to-first.ensures (rw c.push_reserved.ensures.items (listing_more _ _ _ c.listing.invariant.listed));
  room = rw c.push_reserved.ensures.capacity c.listing.invariant.room;
  same = rw c.push_reserved.ensures.capacity c.listing.invariant.same;
}

pub returns-clause-listed : goal.returns-clause-listed
returns-clause-listed c =
    let e : c.listing.place ≡ 64 = omega arith in
    listed_from _ c.listing.cells c.listing.first (subst (λ (n : ℕ). IsListing c.listing.cells.items n c.listing.first) e c.listing.invariant.listed)

pub returns-clause-all : goal.returns-clause-all
returns-clause-all c =
    let e : c.listing.place ≡ 64 = omega arith in
    (subst (λ (n : ℕ). IsListing c.listing.cells.items n c.listing.first) e c.listing.invariant.listed).all
