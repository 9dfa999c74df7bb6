-- What a contract sees of a list in chunks, and of its places.
use Rattle.std.specs.Prelude.{◌≡◌, ℕ, ◌+◌, ◌*◌, ◌/◌, ◌<◌, ◌≤◌, List, length, slice_index, slice_index_or, take, sum}
use Rattle.std.specs.Prelude.{Bool, true, false, refl}
use Rattle.std.specs.Coded.{Coded, code_by, coded×, coded_ℕ, coded_list}
use Rattle.chunk_list.specs.declared.place.Place.{Place}
use Rattle.chunk_list.specs.declared.span.TheConstants.{LEAST, MOST}

-- the items in order, how many each chunk has, and for how many there is room
pub record Chunked (T : Type 0) : Type 0 where
  pub items : List T
  pub sizes : List ℕ
  pub room : ℕ

-- For how many places a list takes memory that has room for so many items: it may have room / 240 + 2 chunks,
-- and the bay of each has 512 places.
abbrev pub places_for : ℕ → ℕ
places_for room = (room / LEAST + 2) * MOST

abbrev pub chunked_code : {T : Type 0} → Coded T → Coded (Chunked T)
chunked_code {T} code =
    code_by (List T × (List ℕ × ℕ)) (coded× (coded_list code) (coded× (coded_list coded_ℕ) coded_ℕ))
    (λ c. (c.items, (c.sizes, c.room)))
    (λ p. record { items = p.0; sizes = p.1.0; room = p.1.1 })
    (λ _. refl)

-- the position of the first item of a chunk
abbrev pub start_of : List ℕ → ℕ → ℕ
start_of sizes chunk = sum (take chunk sizes)

-- how many items stand before a place
abbrev pub position_of : List ℕ → Place → ℕ
position_of sizes place = start_of sizes place.chunk + place.offset

-- a place before an item, or at the end of a chunk
pub record IsPlace (sizes : List ℕ) (place : Place) : Type 0 where
  pub chunk : place.chunk < length sizes
  pub offset : place.offset ≤ slice_index sizes place.chunk

-- an item stands at a place
pub record HasItem (sizes : List ℕ) (place : Place) : Type 0 where
  pub chunk : place.chunk < length sizes
  pub offset : place.offset < slice_index sizes place.chunk

-- a place at a position, and the item's own where an item stands there
pub record IsPlaceAt {T : Type 0} (list : Chunked T) (place : Place) (position : ℕ) : Type 0 where
  pub place_is : IsPlace list.sizes place
  pub position_is : position_of list.sizes place ≡ position
  pub item_is : position < length list.items → HasItem list.sizes place

-- so many items stand from a place on, and the place is the first one's own
pub record HasItems {T : Type 0} (list : Chunked T) (place : Place) (count : ℕ) : Type 0 where
  pub place_is : IsPlace list.sizes place
  pub item_is : 0 < count → HasItem list.sizes place
  pub within : position_of list.sizes place + count ≤ length list.items

-- a test holds of the items before a position, and of none from there on
pub record TurnsAt {T : Type 0} (test : T → Bool) (items : List T) (at : ℕ) : Type 0 where
  pub in_range : at ≤ length items
  pub before : (i : ℕ) (d : T) → i < at → test (slice_index_or items i d) ≡ true
  pub after : (i : ℕ) (d : T) → at ≤ i → i < length items → test (slice_index_or items i d) ≡ false
