-- How the attachments of a book stand to the rows of a store.
use Rattle.std.specs.Prelude.{◌≡◌, ℕ, ◌+◌, ◌-◌, ◌≤◌, ℤ, pos, true, false, List, map, Option, Some, None}
use Rattle.std.specs.List.{AllByRecursion}
use Rattle.std.specs.List.Sorted.{IsStrictlySortedBy}
use Rattle.std.specs.Ordering.{int_eq, is_eq}
use Rattle.etcd_types.specs.Limits.{max_quota}
use Rattle.etcd_types.specs.declared.key_value.KeyValue.{KeyValue}
use Rattle.etcd_model.specs.declared.state.Change.{Change}
use Rattle.etcd_model.specs.declared.state.Lease.{Lease}
use Rattle.etcd_model.specs.Changes.{Recorded, live, rows}
use Rattle.etcd_model.specs.Interval.{every_key}
use Rattle.etcd_model.specs.Order.{by_key, key_cmp, put_in}
use Rattle.etcd_model.specs.Store.{Store, IsStore, after, record_cells}
use Rattle.key_index.specs.Links.{Cells}
use Rattle.lease_book.specs.Attached.{AreAttached, HasLease, HoldRows, rows_without}
use Rattle.lease_book.specs.Book.{Book}
use Rattle.lease_book.specs.declared.attachments.Attachment.{Attachment}
use Rattle.model_laws.specs.Bounds.{HasRevisions}
use Rattle.model_laws.specs.Once.{IsOnce}
use Rattle.revision_store.specs.Recorded.{LeaseCells, LeaseRecord, leases_of}
use Rattle.revision_store.specs.Stored.{StoreState, cells, row_at}

-- each row that has a lease is attached to it by its cell, and nothing else is
pub record AreKeysOf (cells : Cells) (attachments : List Attachment) (rows : List KeyValue) : Type 0 where
  pub attached : AreAttached cells attachments
  pub named : AllByRecursion (λ a. int_eq a.id (pos 0) ≡ false) attachments
  pub held : HoldRows (row_at cells) attachments rows

-- the rows that all keys of a store show
abbrev pub all_rows : Store → List KeyValue
all_rows s = rows every_key s.current s.changes

-- ---- one change

-- a row of the key is the one that it showed
abbrev pub AreShown : List ℕ → Option KeyValue → List KeyValue → Type 0
AreShown key shown rows = AllByRecursion (λ row. is_eq (key_cmp row.key key) ≡ true → Some row ≡ shown) rows

-- the rows after a change
abbrev pub with_change : List KeyValue → List ℕ → Option KeyValue → List KeyValue
with_change rows key None = rows_without rows key
with_change rows key (Some row) = put_in by_key rows row

-- Attachments of ascending rows are followed by ones of the rows after a change.
abbrev pub Follows : StoreState → Recorded → List Attachment → List Attachment → Type 0
Follows store x old new = (rows : List KeyValue) → IsStore store.kept → IsStrictlySortedBy by_key rows
    → AreShown x.key (live x.key (x.revision - 1) store.kept.changes) rows
    → AreKeysOf (cells store) old rows → AreKeysOf (cells store) new (with_change rows x.key x.row)

-- some rows of which that of a key is gone, unless it has this lease
pub record IsOff (cells : Cells) (attachments : List Attachment) (rows : List KeyValue) (key : List ℕ)
    (lease : ℤ) : Type 0 where
  pub left : List KeyValue
  pub keys : AreKeysOf cells attachments left
  pub ascend : IsStrictlySortedBy by_key left
  pub has : HasLease key lease left
  pub others : rows_without left key ≡ rows_without rows key

-- The key of a change is taken off the lease that its row had, unless it is this one.
abbrev pub TakesOff : StoreState → Recorded → ℤ → List Attachment → List Attachment → Type 0
TakesOff store x lease old new = (rows : List KeyValue) → IsStore store.kept → IsStrictlySortedBy by_key rows
    → AreShown x.key (live x.key (x.revision - 1) store.kept.changes) rows
    → AreKeysOf (cells store) old rows → IsOff (cells store) new rows x.key lease

-- ---- a revision

-- The store is one revision on from another, to whose rows the attachments belong. For what it puts there is
-- room.
pub record IsNext (store : StoreState) (book : Book) (revision : ℕ) : Type 0 where
  pub old : Store
  pub changes : List Change
  pub sound : IsStore old
  pub once : IsOnce changes
  pub kept : store.kept ≡ after old changes
  pub next : revision ≡ old.current + 1
  pub keys : AreKeysOf (cells store) book.attachments (all_rows old)
  pub room : record_cells store.kept.changes ≤ book.room

-- ---- a book beside a store

-- what the record of a lease says
abbrev pub lease_record : Lease → LeaseRecord
lease_record l = record { id = l.id; ttl = l.ttl }

-- The cells of the book have the records of its leases, in their order.
abbrev pub AreRecorded : LeaseCells → Book → Type 0
AreRecorded cells book = map cells book.cells ≡ map (λ l. Some (lease_record l)) book.leases

-- a lease whose ID is not 0, and that ends no later than if it was granted at this moment
pub record IsTimely (moment : ℕ) (l : Lease) : Type 0 where
  pub chosen : int_eq l.id (pos 0) ≡ false
  pub end : l.end ≤ moment + l.ttl

-- The attachments are of the store's rows, and its cells have the leases, which are timely. There are
-- revisions left for the end of each lease that has keys.
pub record KeepsLeases (store : StoreState) (book : Book) (moment : ℕ) : Type 0 where
  pub keys : AreKeysOf (cells store) book.attachments (all_rows store.kept)
  pub recorded : AreRecorded (leases_of store.records) book
  pub timely : AllByRecursion (IsTimely moment) book.leases
  pub counter : 1 ≤ book.counter
  pub revisions : HasRevisions max_quota store.kept
