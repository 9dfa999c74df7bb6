-- What a contract sees of a book of leases.
use Rattle.std.specs.Prelude.{◌≡◌, ℕ, ◌≤◌, ℤ, pos, true, int_lt, int_le, List, [], length, map, max}
use Rattle.std.specs.Prelude.{slice_index_or, Some, refl}
use Rattle.std.specs.Coded.{Coded, code_by, coded×, coded_ℕ, coded_ℤ, coded_list}
use Rattle.std.specs.List.{AllByRecursion, prefix_len}
use Rattle.std.specs.List.Sorted.{IsStrictlySortedBy}
use Rattle.etcd_types.specs.Limits.{max_ttl}
use Rattle.chunk_list.specs.Chunked.{Chunked, HasItem, position_of}
use Rattle.chunk_list.specs.declared.place.Place.{Place}
use Rattle.etcd_model.specs.declared.state.Lease.{Lease}
use Rattle.etcd_model.specs.Held.{by_id}
use Rattle.etcd_model.specs.Leases.{lease_at}
use Rattle.lease_book.specs.Attached.{RiseById}
use Rattle.lease_book.specs.declared.attachments.Attachment.{Attachment}
use Rattle.lease_book.specs.declared.book.Booked.{Booked}

-- the leases by ascending ID, the cells of their records in the same order, the number from which IDs are
-- chosen, for how many leases and for how many attachments there is room, for how many of either memory was
-- taken at the most, which is more only where a growth found none, the attachments, and the leases that were
-- collected as run out and are still to be taken
pub record Book : Type 0 where
  pub leases : List Lease
  pub cells : List ℕ
  pub counter : ℕ
  pub room : ℕ
  pub taken : ℕ
  pub attachments : List Attachment
  pub due : List Lease

-- no lease, and room and memory for so many
abbrev pub empty_book : ℕ → Book
empty_book room = record {
  leases = [];
  cells = [];
  counter = 1;
  room = room;
  taken = room;
  attachments = [];
  due = [];
}

-- with room for so many at least, and with memory for no more than that asks for
abbrev pub wider : ℕ → Book → Book
wider room book = record book { room = max book.room room; taken = max book.taken room }

abbrev lease_code : Coded Lease
lease_code =
    code_by (ℤ × (ℕ × ℕ)) (coded× coded_ℤ (coded× coded_ℕ coded_ℕ))
    (λ l. (l.id, (l.ttl, l.end)))
    (λ p. record { id = p.0; ttl = p.1.0; end = p.1.1 })
    (λ _. refl)

abbrev attachment_code : Coded Attachment
attachment_code =
    code_by (ℤ × ℕ) (coded× coded_ℤ coded_ℕ) (λ a. (a.id, a.head))
    (λ p. record { id = p.0; head = p.1 })
    (λ _. refl)

abbrev pub book_code : Coded Book
book_code =
    code_by ((List Lease × List ℕ) × ((ℕ × (ℕ × ℕ)) × (List Attachment × List Lease)))
    (coded× (coded× (coded_list lease_code) (coded_list coded_ℕ))
    (coded× (coded× coded_ℕ (coded× coded_ℕ coded_ℕ))
    (coded× (coded_list attachment_code) (coded_list lease_code))))
    (λ b. ((b.leases, b.cells), ((b.counter, (b.room, b.taken)), (b.attachments, b.due))))
    (λ p. record {
      leases = p.0.0;
      cells = p.0.1;
      counter = p.1.0.0;
      room = p.1.0.1.0;
      taken = p.1.0.1.1;
      attachments = p.1.1.0;
      due = p.1.1.1;
    })
    (λ _. refl)

abbrev pub leases_of : List Booked → List Lease
leases_of list = map (λ b. b.lease) list

abbrev pub cells_of : List Booked → List ℕ
cells_of list = map (λ b. b.cell) list

-- how many of the leases have a lesser ID
abbrev pub ids_below : List Lease → ℤ → ℕ
ids_below leases id = prefix_len (λ l. int_lt l.id id) leases

-- a lease with an end not before a moment, and with a time to live that can be granted
pub record IsWithin (soonest : ℕ) (l : Lease) : Type 0 where
  pub end : soonest ≤ l.end
  pub ttl : int_le (pos l.ttl) max_ttl ≡ true

-- what always holds of a book: the leases strictly ascend, none ends before its soonest moment, and there is
-- room for them all
pub record IsBook (leases : List Lease) (soonest most : ℕ) : Type 0 where
  pub ascend : IsStrictlySortedBy by_id leases
  pub within : AllByRecursion (IsWithin soonest) leases
  pub count : length leases ≤ most
  pub room : most ≤ 4294967295

-- the same with no more attachments, whose IDs don't fall, and with room for as many attachments and to collect
-- all leases; what there is room to collect is the most that memory was taken for
pub record IsKeyedBook
    (leases : List Lease) (soonest most : ℕ) (attachments : List Attachment) (room due_room : ℕ) :
    Type 0 where
  pub book : IsBook leases soonest most
  pub rise : RiseById attachments
  pub keys : length attachments ≤ most
  pub keys_fit : most ≤ room
  pub due_fits : room ≤ due_room

-- the lease with an ID stands at a place, which is its own
pub record IsFoundAt (list : Chunked Booked) (id : ℤ) (place : Place) : Type 0 where
  pub item : HasItem list.sizes place
  pub position : position_of list.sizes place ≡ ids_below (leases_of list.items) id
  pub is : (d : Booked)
      → lease_at (leases_of list.items) id
      ≡ Some (slice_index_or list.items (position_of list.sizes place) d).lease
