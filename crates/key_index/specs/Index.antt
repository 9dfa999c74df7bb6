-- The newest record of each key, by ascending key.
use Rattle.std.specs.Prelude.{◌≡◌, ℕ, ◌+◌, ◌-◌, ◌<◌, ◌≤◌, List, length, max, slice_index, take, drop, [], ◌∷◌}
use Rattle.std.specs.Prelude.{Option, Some, None, is_some, Bool, true, false, not, ◌||◌, ◌↔◌, filter, if◌then◌else◌}
use Rattle.std.specs.declared.cmp.Ordering.TheVariants.{Less, Greater}
use Rattle.std.specs.Str.{bytes_eq}
use Rattle.chunk_list.specs.declared.place.Place.{Place}
use Rattle.chunk_list.specs.Chunked.{Chunked, HasItem, HasItems, IsPlaceAt, position_of}
use Rattle.etcd_model.specs.Order.{key_cmp, key_lt}
use Rattle.etcd_model.specs.Interval.{is_in}
use Rattle.key_index.specs.Links.{Cells, Linked, IsOfKey, IsNewest}

-- the index's cells: those of keys that are live, and those of keys that are deleted; how many of either it can
-- have; and for how many of either it has taken memory at the most, which is more only where a growth found none
pub record Heads : Type 0 where
  pub live : List ℕ
  pub dead : List ℕ
  pub capacity : ℕ
  pub taken : ℕ

-- no key, and memory for so many
abbrev pub no_heads : ℕ → Heads
no_heads keys = record { live = []; dead = []; capacity = keys; taken = keys }

-- with room for so many keys at least, and with memory for no more than that asks for
abbrev pub wider : ℕ → Heads → Heads
wider keys heads = record heads { capacity = max heads.capacity keys; taken = max heads.taken keys }

-- each place has a record, and their keys rise
pub record IsSpread (cells : Cells) (heads : List ℕ) : Type 0 where
  pub some : (i : ℕ) → i < length heads → (e : Linked) × (cells (slice_index heads i) ≡ Some e)
  pub sorted : (i j : ℕ) (e f : Linked) → i < j → j < length heads → cells (slice_index heads i) ≡ Some e
      → cells (slice_index heads j) ≡ Some f → key_cmp e.change.key f.change.key ≡ Less

-- each place has the newest record of its key, and the keys rise
pub record AreNewest (cells : Cells) (heads : List ℕ) : Type 0 where
  pub newest : (i : ℕ) → i < length heads → IsNewest cells (slice_index heads i)
  pub sorted : (i j : ℕ) (e f : Linked) → i < j → j < length heads → cells (slice_index heads i) ≡ Some e
      → cells (slice_index heads j) ≡ Some f → key_cmp e.change.key f.change.key ≡ Less

-- each place has the newest record of its key, the keys rise, and each key of a record has a place
pub record AreHeads (cells : Cells) (heads : List ℕ) : Type 0 where
  pub newest : (i : ℕ) → i < length heads → IsNewest cells (slice_index heads i)
  pub sorted : (i j : ℕ) (e f : Linked) → i < j → j < length heads → cells (slice_index heads i) ≡ Some e
      → cells (slice_index heads j) ≡ Some f → key_cmp e.change.key f.change.key ≡ Less
  pub whole : (c : ℕ) (e : Linked) → cells c ≡ Some e
      → (i : ℕ) × (i < length heads) × IsOfKey cells e.change.key (slice_index heads i)

-- a record is a put
abbrev pub is_put_of : Option Linked → Bool
is_put_of None = false
is_put_of (Some e) = is_some e.change.row

-- the record under a cell is of a kind: a put, or none
abbrev pub is_kind : Cells → Bool → ℕ → Bool
is_kind cells put c = if put then is_put_of (cells c) else not (is_put_of (cells c))

-- the newest record of each key, by ascending key, in two lists: those of a kind, and the others
pub record AreParted (cells : Cells) (put : Bool) (these others : List ℕ) : Type 0 where
  pub heads : List ℕ
  pub are : AreHeads cells heads
  pub these_are : these ≡ filter (is_kind cells put) heads
  pub others_are : others ≡ filter (is_kind cells (not put)) heads

-- the newest records of the keys that are live, and those of the keys that are deleted
abbrev pub IsIndexOf : Cells → List ℕ → List ℕ → Type 0
IsIndexOf cells live dead = AreParted cells true live dead

-- whichever heads of all keys some were parted from, those that are left of them are parted from
abbrev pub StayParted : Cells → List ℕ → Cells → List ℕ → Type 0
StayParted old these new left =
    (put : Bool) (others : List ℕ) → AreParted old put these others → AreParted new put left others

-- no record has the key
abbrev pub NoneOfKey : Cells → List ℕ → Type 0
NoneOfKey cells key = (c : ℕ) (e : Linked) → cells c ≡ Some e → e.change.key ≡ key → ⊥

-- the cell has the newest record of the key
pub record IsHeadOf (cells : Cells) (key : List ℕ) (c : ℕ) : Type 0 where
  pub newest : IsNewest cells c
  pub of_key : IsOfKey cells key c

-- how many keys the index has
abbrev pub key_count : Heads → ℕ
key_count index = length index.live + length index.dead

-- the record at a place has the key
pub record IsAt (cells : Cells) (heads : List ℕ) (key : List ℕ) (i : ℕ) : Type 0 where
  pub in_range : i < length heads
  pub of_key : IsOfKey cells key (slice_index heads i)

-- the key would go at a place: smaller keys before it, and greater keys from it on
pub record IsGapFor (cells : Cells) (heads : List ℕ) (key : List ℕ) (i : ℕ) : Type 0 where
  pub in_range : i ≤ length heads
  pub smaller_before : (j : ℕ) (e : Linked) → j < i → cells (slice_index heads j) ≡ Some e
      → key_cmp e.change.key key ≡ Less
  pub greater_after : (j : ℕ) (e : Linked) → i ≤ j → j < length heads → cells (slice_index heads j) ≡ Some e
      → key_cmp e.change.key key ≡ Greater

-- smaller keys stand before a place, and none from it on
pub record IsFrom (cells : Cells) (heads : List ℕ) (key : List ℕ) (i : ℕ) : Type 0 where
  pub in_range : i ≤ length heads
  pub below : (j : ℕ) (e : Linked) → j < i → cells (slice_index heads j) ≡ Some e
      → key_lt e.change.key key ≡ true
  pub from : (j : ℕ) (e : Linked) → i ≤ j → j < length heads → cells (slice_index heads j) ≡ Some e
      → key_lt e.change.key key ≡ false

-- keys below the end of an interval stand before a place, and none from it on
pub record IsEnd (cells : Cells) (heads : List ℕ) (end : List ℕ) (i : ℕ) : Type 0 where
  pub in_range : i ≤ length heads
  pub below : (j : ℕ) (e : Linked) → j < i → cells (slice_index heads j) ≡ Some e
      → (bytes_eq end (0 ∷ []) || key_lt e.change.key end) ≡ true
  pub from : (j : ℕ) (e : Linked) → i ≤ j → j < length heads → cells (slice_index heads j) ≡ Some e
      → (bytes_eq end (0 ∷ []) || key_lt e.change.key end) ≡ false

-- a range of places has exactly the keys of an interval
pub record IsSpan (cells : Cells) (heads : List ℕ) (key end : List ℕ) (from to : ℕ) : Type 0 where
  pub ordered : from ≤ to
  pub in_range : to ≤ length heads
  pub exact : (i : ℕ) (e : Linked) → i < length heads → cells (slice_index heads i) ≡ Some e
      → ((from ≤ i) × (i < to)) ↔ (is_in key end e.change.key ≡ true)

-- some cells are those of the keys of an interval
pub record AreHeadsIn (cells : Cells) (heads : List ℕ) (key end : List ℕ) (some : List ℕ) : Type 0 where
  pub from : ℕ
  pub to : ℕ
  pub span : IsSpan cells heads key end from to
  pub are : some ≡ take (to - from) (drop from heads)

-- ---- places of a list of newest records

-- the record at a place has the key
pub record IsFoundAt (cells : Cells) (heads : Chunked ℕ) (key : List ℕ) (place : Place) : Type 0 where
  pub item : HasItem heads.sizes place
  pub at : IsAt cells heads.items key (position_of heads.sizes place)

-- no record has the key, which would go to a place
pub record IsMissingAt (cells : Cells) (heads : Chunked ℕ) (key : List ℕ) (place : Place) : Type 0 where
  pub place_is : IsPlaceAt heads place (position_of heads.sizes place)
  pub gap : IsGapFor cells heads.items key (position_of heads.sizes place)

-- smaller keys stand before a place, and none from it on
pub record IsFromPlace (cells : Cells) (heads : Chunked ℕ) (key : List ℕ) (place : Place) : Type 0 where
  pub place_is : IsPlaceAt heads place (position_of heads.sizes place)
  pub from : IsFrom cells heads.items key (position_of heads.sizes place)

-- keys below the end of an interval stand before a place, and none from it on
pub record IsEndPlace (cells : Cells) (heads : Chunked ℕ) (end : List ℕ) (place : Place) : Type 0 where
  pub place_is : IsPlaceAt heads place (position_of heads.sizes place)
  pub ends : IsEnd cells heads.items end (position_of heads.sizes place)

-- so many items from a place on are those of the keys of an interval
pub record IsSpanFrom (cells : Cells) (heads : Chunked ℕ) (key end : List ℕ) (place : Place) (count : ℕ) :
    Type 0 where
  pub items : HasItems heads place count
  pub span : IsSpan cells heads.items key end (position_of heads.sizes place)
      (position_of heads.sizes place + count)
