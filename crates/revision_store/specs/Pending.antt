-- Changes that are pending over a store, as reads find them: the last that touches a key says what it is.
use Rattle.std.specs.Prelude.{◌≡◌, ℕ, ◌+◌, ◌*◌, ◌<◌, ◌^◌, ◌&&◌, ◌||◌, ◌⊎◌, ℤ, Bool, not, List, length}
use Rattle.std.specs.Prelude.{[], filter, filter_map, option_and_then, option_map, Option, Some, None, IsSome}
use Rattle.std.specs.Prelude.{slice_get, if◌then◌else◌, refl}
use mathlib.Core.Logic.{inl, inr}
use Rattle.std.specs.List.{AllByRecursion, list_any}
use Rattle.std.specs.Option.{option_or}
use Rattle.std.specs.Str.{bytes_eq}
use Rattle.std.specs.Coded.{Coded, code_by, coded×, coded⊎, coded_ℤ, coded_list}
use Rattle.etcd_types.specs.declared.key_value.KeyValue.{KeyValue}
use Rattle.etcd_types.specs.declared.kv.PutReq.{PutReq}
use Rattle.etcd_types.specs.declared.kv.DeleteReq.{DeleteReq}
use Rattle.etcd_types.specs.declared.txn.Op.{Op}
use Rattle.etcd_model.specs.declared.state.Change.{Change}
use Rattle.etcd_model.specs.declared.state.Change.TheVariants.{Put as Set, Delete as Del}
use Rattle.etcd_model.specs.History.{key_of, is_put}
use Rattle.etcd_model.specs.Interval.{is_in}
use Rattle.etcd_model.specs.Changes.{last_by, live}
use Rattle.etcd_model.specs.Operations.{changes}
use Rattle.etcd_model.specs.Reads.{Reads}
use Rattle.etcd_model.specs.Store.{IsStore, record_cells}
use Rattle.model_laws.specs.Apart.{AreApart}
use Rattle.model_laws.specs.Numbers.{HasNumbers}
use Rattle.revision_store.specs.Codes.{bytes_code}
use Rattle.revision_store.specs.Stored.{StoreState, store_code, IsPlanFor, changes_of, look, reads, row_at}
use Rattle.revision_store.specs.Plans.{key_at}
use Rattle.key_index.specs.Links.{Cells}
use Rattle.revision_store.specs.declared.plan.Write.{Write}
use Rattle.revision_store.specs.declared.plan.Write.TheVariants.{Put, Delete}

-- ---- a store, and the changes that are to be its next revision

pub record PendingState : Type 0 where
  pub store : StoreState
  pub changes : List Change

abbrev parted : Change → (List ℕ × (List ℕ × ℤ)) ⊎ List ℕ
parted (Set key value lease) = inl (key, (value, lease))
parted (Del key) = inr key

abbrev joined : (List ℕ × (List ℕ × ℤ)) ⊎ List ℕ → Change
joined (inl p) = Set p.0 p.1.0 p.1.1
joined (inr key) = Del key

pub joined-parted : (c : Change) → joined (parted c) ≡ c
joined-parted (Set key value lease) = refl
joined-parted (Del key) = refl

abbrev pub change_code : Coded Change
change_code = code_by ((List ℕ × (List ℕ × ℤ)) ⊎ List ℕ)
    (coded⊎ (coded× bytes_code (coded× bytes_code coded_ℤ)) bytes_code) parted joined joined-parted

abbrev pub pending_code : Coded PendingState
pending_code =
    code_by (StoreState × List Change) (coded× store_code (coded_list change_code))
    (λ p. (p.store, p.changes))
    (λ p. record { store = p.0; changes = p.1 })
    (λ _. refl)

-- what is read with them as one more revision
abbrev pub pending_reads : PendingState → Reads
pending_reads p = look p.store p.changes

-- some change is of the key
abbrev pub changes_key : List ℕ → List Change → Bool
changes_key key cs = list_any (λ c. bytes_eq (key_of c) key) cs

-- some change is a put of a key of the interval
abbrev pub puts_within : List ℕ → List ℕ → List Change → Bool
puts_within key end cs = list_any (λ c. is_put c && is_in key end (key_of c)) cs

abbrev pub puts_inside : DeleteReq → List Change → Bool
puts_inside d cs = puts_within d.key d.range_end cs

-- ---- what reads look at

-- the row of a put that is pending at a place
abbrev pub put_row : Write → Option KeyValue
put_row (Put row) = Some row
put_row (Delete cell) = None

abbrev pub put_at : List Write → ℕ → Option KeyValue
put_at writes place = option_and_then put_row (slice_get writes place)

-- the rows of the puts at some places
abbrev pub rows_at : List Write → List ℕ → List KeyValue
rows_at writes places = filter_map (put_at writes) places

-- the row is of a key of the interval
abbrev pub is_row_in : List ℕ → List ℕ → KeyValue → Bool
is_row_in key end row = is_in key end row.key

-- the row that the last put of a key leaves to it
abbrev pub row_put_to : List ℕ → List KeyValue → Option KeyValue
row_put_to key rows = last_by (λ row. bytes_eq row.key key) rows

-- the key lies in the interval of a delete
abbrev pub is_erased : List DeleteReq → List ℕ → Bool
is_erased deletes key = list_any (λ d. is_in d.key d.range_end key) deletes

-- what of the store a key shows, where its interval wasn't deleted
abbrev pub left_by : List DeleteReq → StoreState → List ℕ → Option KeyValue
left_by deletes store key = if is_erased deletes key then None
    else live key store.kept.current store.kept.changes

-- what a key shows: the row of the last put of it that is pending, else what the deletes leave of the store's
abbrev pub row_seen : StoreState → List KeyValue → List DeleteReq → List ℕ → Option KeyValue
row_seen store puts deletes key = option_or (row_put_to key puts) (left_by deletes store key)

-- each of some cells has a row
abbrev pub AreRows : Cells → List ℕ → Type 0
AreRows cells cs = AllByRecursion (λ c. IsSome (row_at cells c)) cs

-- those of some cells whose keys lie in no interval of the deletes
abbrev pub left_cells : Cells → List DeleteReq → List ℕ → List ℕ
left_cells cells deletes cs = filter (λ c. not (is_erased deletes (key_at cells c))) cs

-- ---- invariants

-- a store as appends and compactions make it, with numbers that are within its revisions, of which
-- each changes a key once, and each cell of which is free or of a change or a lease
pub record IsSound (store : StoreState) : Type 0 where
  pub kept : IsStore store.kept
  pub numbers : AllByRecursion HasNumbers store.kept.changes
  pub apart : AreApart store.kept.changes
  pub short : store.kept.current < 2 ^ 63
  pub space : store.free + record_cells store.kept.changes + store.lease_cells ≡ 64 * store.share.reserved

-- writes that can be the next revision of a store, within the revisions, and all that touches a key
-- among them
pub record IsPending (store : StoreState) (writes : List Write) (places : List ℕ)
    (deletes : List DeleteReq) : Type 0 where
  pub sound : IsSound store
  pub plan : IsPlanFor store writes
  pub short : (look store (changes_of store writes)).current < 2 ^ 63
  pub within : AllByRecursion (λ place. place < length writes) places
  pub puts : rows_at writes places ≡ filter_map put_row writes
  pub seen : (key : List ℕ) → row_seen store (rows_at writes places) deletes key
      ≡ (look store (changes_of store writes)).row key

-- ---- a put

-- a row without its key and its value
abbrev pub numbers_alone : KeyValue → KeyValue
numbers_alone row = record row { key = []; value = [] }

-- the present row: its numbers alone, unless the put asks for more
abbrev pub present : PutReq → Option KeyValue → Option KeyValue
present p now = if p.prev_kv || p.ignore_value then now else option_map numbers_alone now

-- ---- an operation that is decided

-- a plan of what the operation changes
pub record IsPlanOf (store : StoreState) (op : Op) (writes : List Write) : Type 0 where
  pub plan : IsPlanFor store writes
  pub changes : changes_of store writes ≡ changes (reads store) op
