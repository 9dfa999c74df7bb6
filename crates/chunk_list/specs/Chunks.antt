-- Chunks in order, each as the list of its items.
use Rattle.std.specs.Prelude.{◌≡◌, ℕ, ◌+◌, ◌-◌, ◌/◌, ◌<◌, ◌≤◌, List, [], ◌∷◌, ◌++◌, length, slice_index_or, take}
use Rattle.std.specs.Prelude.{drop, slice_set, Bool}
use Rattle.std.specs.List.{AllByRecursion, flat_map}
use Rattle.chunk_list.specs.Chunked.{TurnsAt}
use Rattle.chunk_list.specs.declared.span.TheConstants.{LEAST, MOST}
use Rattle.chunk_list.specs.declared.place.Place.{Place}

-- the items of the chunks, one chunk after another
abbrev pub chunk_items : {T : Type 0} → List (List T) → List T
chunk_items chunks = flat_map (λ c. c) chunks

-- a chunk, or an empty one where there is none
abbrev pub chunk_at : {T : Type 0} → List (List T) → ℕ → List T
chunk_at chunks i = slice_index_or chunks i []

-- the chunks with others in place of so many from one on
abbrev pub replaced : {T : Type 0} → List (List T) → ℕ → ℕ → List (List T) → List (List T)
replaced chunks i count others = take i chunks ++ (others ++ drop (i + count) chunks)

-- the chunks with one cut in two, of which the first has so many items
abbrev pub cut_in_two : {T : Type 0} → List (List T) → ℕ → ℕ → List (List T)
cut_in_two chunks i keep = replaced chunks i 1 (take keep (chunk_at chunks i)
    ∷ drop keep (chunk_at chunks i) ∷ [])

-- the chunks with one and the next as a single one
abbrev pub joined : {T : Type 0} → List (List T) → ℕ → List (List T)
joined chunks i = replaced chunks i 2 ((chunk_at chunks i ++ chunk_at chunks (i + 1)) ∷ [])

-- how many items a chunk and the next one have
abbrev pub size_of_two : {T : Type 0} → List (List T) → ℕ → ℕ
size_of_two chunks i = length (chunk_at chunks i) + length (chunk_at chunks (i + 1))

-- the chunks where one has the first item of the next too
abbrev pub shifted : {T : Type 0} → List (List T) → ℕ → List (List T)
shifted chunks i =
    let next = chunk_at chunks (i + 1) in
    replaced chunks i 2 ((chunk_at chunks i ++ take 1 next) ∷ drop 1 next ∷ [])

-- one chunk gives way to what is made of it
abbrev pub IsChanged : {T : Type 0} → List (List T) → List (List T) → ℕ → (List T → List T) → Type 0
IsChanged old new i change = new ≡ slice_set old i (change (chunk_at old i))

-- an item is the last of a chunk
abbrev pub IsLast : {T : Type 0} → List T → T → Type 0
IsLast chunk item = item ≡ slice_index_or chunk (length chunk - 1) item

-- every chunk but the last has its least number of items
abbrev pub IsDense : {T : Type 0} → List (List T) → Type 0
IsDense [] = Unit {0}
IsDense (chunk ∷ chunks) = (0 < length chunks → LEAST ≤ length chunk) × IsDense chunks

-- the chunks are dense, but that one may lack an item
pub record LacksOne {T : Type 0} (chunks : List (List T)) (at : ℕ) : Type 0 where
  pub before : AllByRecursion (λ c. LEAST ≤ length c) (take at chunks)
  pub here : at + 1 < length chunks → LEAST ≤ length (chunk_at chunks at) + 1
  pub after : IsDense (drop (at + 1) chunks)

-- the same items, and at the same position a chunk has room
pub record IsOpenedAt {T : Type 0} (old new : List (List T)) (at offset at' offset' : ℕ) : Type 0 where
  pub chunk_in : at' < length new
  pub offset_in : offset' ≤ length (chunk_at new at')
  pub short : length (chunk_at new at') < MOST
  pub items : chunk_items new ≡ chunk_items old
  pub position : length (chunk_items (take at' new)) + offset' ≡ length (chunk_items (take at old)) + offset
  pub dense : IsDense new

-- the same, of two places
abbrev pub IsOpened : {T : Type 0} → List (List T) → List (List T) → Place → Place → Type 0
IsOpened old new place place' = IsOpenedAt old new place.chunk place.offset place'.chunk place'.offset

-- the chunk in which a test turns, if it turns
pub record IsTurnIn {T : Type 0} (test : T → Bool) (chunks : List (List T)) (at : ℕ) : Type 0 where
  pub in_range : at < length chunks
  pub from : (k : ℕ) → TurnsAt test (chunk_items chunks) k → length (chunk_items (take at chunks)) ≤ k
  pub to : (k : ℕ) → TurnsAt test (chunk_items chunks) k → at + 1 < length chunks
      → k < length (chunk_items (take (at + 1) chunks))

-- what always holds of a list: its chunks, how many there may be, which the room decides, the count and the room
pub record AreChunks {T : Type 0} (chunks : List (List T)) (most count room : ℕ) : Type 0 where
  pub some : 0 < length chunks
  pub dense : IsDense chunks
  pub total : most ≡ room / LEAST + 2
  pub len : count ≡ length (chunk_items chunks)
  pub within : length (chunk_items chunks) ≤ room
