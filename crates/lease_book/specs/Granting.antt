-- A lease that is to be granted.
use Rattle.std.specs.Prelude.{◌≡◌, ℕ, ◌+◌, ℤ, pos, true, false, ◌&&◌, nat_le, int_lt, int_le}
use Rattle.std.specs.Prelude.{Option, Some, None, if◌then◌else◌}
use Rattle.std.specs.Ordering.{int_eq}
use Rattle.etcd_types.specs.Limits.{max_ttl, last_lease_id}
use Rattle.etcd_types.specs.declared.lease.GrantReq.{GrantReq}
use Rattle.etcd_types.specs.declared.refusal.Refusal.{Refusal}
use Rattle.etcd_types.specs.declared.refusal.Refusal.TheVariants.{TtlTooLarge, UsedUp, LeaseExists}
use Rattle.etcd_model.specs.Leases.{granted_ttl}
use Rattle.etcd_model.specs.Operations.{has_lease}
use Rattle.etcd_model.specs.Stepping.{is_taken_id, grant_id, counter_after}
use Rattle.lease_book.specs.Book.{Book}
use Rattle.lease_book.specs.declared.granting.NewLease.{NewLease}

-- why a grant gets no ID: the IDs to choose from are used up, or the wanted one is in use
abbrev pub id_refusal : Book → ℤ → Option Refusal
id_refusal book wanted =
    if nat_le last_lease_id book.counter && int_eq wanted (pos 0) then Some UsedUp
    else if is_taken_id book.leases wanted then Some LeaseExists
    else None

-- the ID that a grant gets and the counter afterwards
pub record IsIdOf (book : Book) (wanted : ℤ) (got : ℤ × ℕ) : Type 0 where
  pub refusal : id_refusal book wanted ≡ None
  pub id : got.0 ≡ grant_id book.counter book.leases wanted
  pub counter : got.1 ≡ counter_after book.counter book.leases wanted
  pub unused : has_lease book.leases got.0 ≡ false

-- why a grant is refused: its time to live is too long, or it gets no ID
abbrev pub grant_refusal : Book → GrantReq → Option Refusal
grant_refusal book request =
    if int_lt max_ttl request.ttl then Some TtlTooLarge else id_refusal book request.id

-- a lease that no other of the book ties with, and that lives no longer than a lease may
pub record Fits (book : Book) (new : NewLease) : Type 0 where
  pub id : has_lease book.leases new.lease.id ≡ false
  pub ttl : int_le (pos new.lease.ttl) max_ttl ≡ true

-- the lease that a grant adds to the book at a moment, and the counter afterwards
pub record IsGrant (book : Book) (moment : ℕ) (request : GrantReq) (new : NewLease) : Type 0 where
  pub granted : grant_refusal book request ≡ None
  pub lease : new.lease ≡ record {
    id = grant_id book.counter book.leases request.id;
    ttl = granted_ttl request.ttl;
    end = moment + granted_ttl request.ttl;
  }
  pub counter : new.counter ≡ counter_after book.counter book.leases request.id
  pub fits : Fits book new
