-- What dropping records and setting links leaves alone.
use Rattle.std.specs.Prelude.{◌≡◌, ℕ, ◌≤◌, refl}
use Rattle.std.proofs.Common.{◌∙◌}
use Rattle.std.proofs.Math.Nat.{le_refl, le_trans}
use Rattle.cell_arena.specs.Region.{RegionState, filled_cells}
use Rattle.cell_arena.specs.Loan.{Loan, DrawsNone, IsBusy, Settles}
use Rattle.cell_arena.proofs.Loans.{settles_none, settles_both}
use Rattle.revision_store.specs.Recorded.{leases_of}

-- The leases stay, and no segment is drawn. If no cell was freed, none is given back either.
pub record KeepsRest (old : RegionState) (from : Loan) (new : RegionState) (to : Loan) : Type 0 where
  pub leases : (c : ℕ) → leases_of new.records c ≡ leases_of old.records c
  pub freed : old.free ≤ new.free
  pub drawn : new.free ≤ old.free → new.share.drawn ≡ old.share.drawn
  pub none_drawn : DrawsNone old.share new.share
  pub busy : IsBusy (filled_cells old) old.share → IsBusy (filled_cells new) new.share
  pub settles : Settles old.share from new.share to

abbrev pub rest_stays : (a : RegionState) (k : Loan) → KeepsRest a k a k
rest_stays a k = record {
  leases = λ c. refl;
  freed = le_refl _;
  drawn = λ h. refl;
  none_drawn = le_refl _;
  busy = λ h. h;
  settles = settles_none _ _;
}

abbrev pub rest_joins : (a b c : RegionState) (k l m : Loan) → KeepsRest a k b l → KeepsRest b l c m
    → KeepsRest a k c m
rest_joins a b c k l m p q = record {
  leases = λ n. q.leases n ∙ p.leases n;
  freed = le_trans p.freed q.freed;
  drawn = λ h. q.drawn (le_trans h p.freed) ∙ p.drawn (le_trans q.freed h);
  none_drawn = le_trans q.none_drawn p.none_drawn;
  busy = λ h. q.busy (p.busy h);
  settles = settles_both _ _ _ _ _ _ p.settles q.settles;
}
