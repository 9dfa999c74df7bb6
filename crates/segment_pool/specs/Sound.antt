-- What holds of every pool.
use Rattle.std.specs.Prelude.{◌≡◌, ◌+◌, ◌≤◌, vec_len, vec_capacity}
use Rattle.etcd_types.specs.declared.limits.TheConstants.{MAX_SEGMENTS}
use Rattle.segment_pool.specs.declared.pool.Pool.TheInside.{Inside}

-- what always holds of a pool: each segment is free or out, and no more are promised than are free
pub record IsPool (p : Inside) : Type 0 where
  pub promised : p.promised ≤ vec_len p.free
  pub whole : vec_len p.free + p.out ≡ vec_len p.reservations
  pub segments : vec_len p.owners ≡ vec_len p.reservations
  pub room : vec_len p.reservations ≤ vec_capacity p.free
  pub few : vec_len p.reservations ≤ MAX_SEGMENTS
