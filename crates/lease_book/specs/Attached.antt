-- Which keys have which lease: attachments, each of a lease and the newest record of a key that has it.
use Rattle.std.specs.Prelude.{◌≡◌, ℕ, ℤ, pos, true, false, not, int_lt, int_le, List, [], ◌∷◌, map, filter}
use Rattle.std.specs.Prelude.{slice_set, Option, Some, IsSome}
use Rattle.std.specs.List.{AllByRecursion, prefix_len, insert, remove}
use Rattle.std.specs.List.Sorted.{IsStrictlySortedBy}
use Rattle.std.specs.Ordering.{int_cmp, int_eq, is_eq, is_lt, ordering_then}
use Rattle.std.specs.declared.cmp.Ordering.{Ordering}
use Rattle.chunk_list.specs.Chunked.{Chunked, HasItem, IsPlace, position_of}
use Rattle.chunk_list.specs.declared.place.Place.{Place}
use Rattle.etcd_types.specs.declared.key_value.KeyValue.{KeyValue}
use Rattle.etcd_model.specs.Order.{put_in, key_cmp}
use Rattle.key_index.specs.Links.{Cells}
use Rattle.key_index.specs.Sought.{entry_key}
use Rattle.lease_book.specs.declared.attachments.Attachment.{Attachment}

-- by the IDs of the leases, and of one lease by the keys of the records
abbrev pub attachment_cmp : Cells → Attachment → Attachment → Ordering
attachment_cmp cells a b =
    ordering_then (int_cmp a.id b.id) (key_cmp (entry_key (cells a.head)) (entry_key (cells b.head)))

-- each is of a record that is there, and they strictly ascend: a lease has a key once
pub record AreAttached (cells : Cells) (list : List Attachment) : Type 0 where
  pub some : AllByRecursion (λ a. IsSome (cells a.head)) list
  pub ascend : IsStrictlySortedBy (attachment_cmp cells) list

-- the attachments with one more; one of the same lease and key gives way to it
abbrev pub with_attachment : Cells → List Attachment → Attachment → List Attachment
with_attachment cells list a = put_in (attachment_cmp cells) list a

-- the attachments but for the one of that lease and key
abbrev pub without_attachment : Cells → List Attachment → Attachment → List Attachment
without_attachment cells list a = filter (λ b. not (is_eq (attachment_cmp cells b a))) list

-- the newest records of a lease's keys, by ascending key
abbrev pub heads_of : List Attachment → ℤ → List ℕ
heads_of list id = map (λ a. a.head) (filter (λ a. int_eq a.id id) list)

-- the attachments but for those of one lease
abbrev pub without_keys : List Attachment → ℤ → List Attachment
without_keys list id = filter (λ a. not (int_eq a.id id)) list

-- ---- the rows under them

-- the rows that have a lease
abbrev pub rows_of : ℤ → List KeyValue → List KeyValue
rows_of id rows = filter (λ x. int_eq x.lease id) rows

-- the rows but for that of a key
abbrev pub rows_without : List KeyValue → List ℕ → List KeyValue
rows_without rows key = filter (λ x. not (is_eq (key_cmp x.key key))) rows

-- under the keys of each lease are the rows that have it
abbrev pub HoldRows : (ℕ → Option KeyValue) → List Attachment → List KeyValue → Type 0
HoldRows row_at list rows = (id : ℤ) → int_eq id (pos 0) ≡ false
    → map row_at (heads_of list id) ≡ map Some (rows_of id rows)

-- a row of the key has the lease
abbrev pub HasLease : List ℕ → ℤ → List KeyValue → Type 0
HasLease key id rows = AllByRecursion (λ x. is_eq (key_cmp x.key key) ≡ true → x.lease ≡ id) rows

-- ---- where attachments stand

-- IDs don't fall
abbrev pub RiseById : List Attachment → Type 0
RiseById [] = Unit {0}
RiseById (a ∷ list) = AllByRecursion (λ b. int_le a.id b.id ≡ true) list × RiseById list

-- how many are of lesser IDs
abbrev pub keys_below : List Attachment → ℤ → ℕ
keys_below list id = prefix_len (λ a. int_lt a.id id) list

-- how many are of that ID or a lesser one
abbrev pub keys_up_to : List Attachment → ℤ → ℕ
keys_up_to list id = prefix_len (λ a. int_le a.id id) list

-- how many come before one
abbrev pub keys_before : Cells → List Attachment → Attachment → ℕ
keys_before cells list a = prefix_len (λ b. is_lt (attachment_cmp cells b a)) list

-- at a place stands one of that lease and key: there another of them is written, or it is taken away
pub record IsKeyAt (cells : Cells) (list : Chunked Attachment) (a : Attachment) (place : Place) : Type 0 where
  pub item : HasItem list.sizes place
  pub put : with_attachment cells list.items a ≡ slice_set list.items (position_of list.sizes place) a
  pub gone : without_attachment cells list.items a ≡ remove list.items (position_of list.sizes place)

-- none is of that lease and key, and one would go to a place
pub record IsKeyGap (cells : Cells) (list : Chunked Attachment) (a : Attachment) (place : Place) :
    Type 0 where
  pub place_is : IsPlace list.sizes place
  pub put : with_attachment cells list.items a ≡ insert list.items (position_of list.sizes place) a
  pub gone : without_attachment cells list.items a ≡ list.items
