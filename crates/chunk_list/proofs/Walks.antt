-- Positions and places.
use Rattle.std.proofs.Common.{◌≡◌, ℕ, zero, suc, ◌+◌, ◌-◌, ◌<◌, ◌≤◌, List, [], ◌∷◌, ◌++◌, length, get_or, set, take, drop, sym, ap, subst, ◌∙◌, arith, inl, inr}
use Rattle.std.specs.Prelude.{Bool, true}
use Rattle.std.proofs.lemmas.Bool.{cases_lt}
use Rattle.std.proofs.lemmas.List.{length-append, length-set, length-take-le, length-drop, append-nil, take_more, take_all, take-append-le, take-append-drop, get_or-take, get_or_default, set_at, get_or-drop}
use Rattle.std.proofs.lemmas.List.Filters.{FiltersInPlace, FiltersInPlace-more_set}
use Rattle.std.proofs.Math.Seq.{take-append-add, drop-append-add}
use Rattle.chunk_list.specs.Chunked.{Chunked, position_of, IsPlace, HasItem, IsPlaceAt}
use Rattle.chunk_list.specs.Chunks.{chunk_items, chunk_at, IsDense, AreChunks}
use Rattle.chunk_list.specs.declared.place.Place.{Place}
use Rattle.chunk_list.proofs.Chunks.{place_in, items_append, items_split, sizes_length, sizes_at, sizes_start, dense_front, dense_join}
use Rattle.chunk_list.proofs.Lists.{IsSeen}

-- a slice from a place on is the rest of the list
pub rest_whole : {X : Type 0} (n : ℕ) (xs : List X) → take (length xs - n) (drop n xs) ≡ drop n xs
rest_whole n xs = take_all (length xs - n) (drop n xs) (omega (arith, length-drop n xs))

module _ {T : Type 0} where
  -- the next chunk begins where one ends
  pub start_next : (chunks : List (List T)) (i : ℕ) → i < length chunks → length (chunk_items (take (i + 1) chunks)) ≡ length (chunk_items (take i chunks)) + length (chunk_at chunks i)
  start_next chunks i lt =
      let p : List T = chunk_at chunks i in
      let n = ap (λ xs. length (chunk_items xs)) (take_more chunks i [] lt) in
      omega (arith, n, ap length (items_append (take i chunks) (p ∷ [])), length-append (chunk_items (take i chunks)) (p ++ []), length-append p [])

  pub start_below : (chunks : List (List T)) (i : ℕ) → i < length chunks → length (chunk_items (take i chunks)) + length (chunk_at chunks i) ≤ length (chunk_items chunks)
  start_below chunks i lt =
      let n = ap length (items_split chunks i lt) in
      let p : List T = chunk_at chunks i in
      let after : List T = chunk_items (drop (i + 1) chunks) in
      omega (arith, n, length-append (chunk_items (take i chunks)) (p ++ after), length-append p after)

  -- the last chunk ends where all do
  pub start_last : (chunks : List (List T)) (i : ℕ) → i + 1 ≡ length chunks → length (chunk_items (take i chunks)) + length (chunk_at chunks i) ≡ length (chunk_items chunks)
  start_last chunks i last =
      let all : take (i + 1) chunks ≡ chunks = take_all (i + 1) chunks (omega arith) in
      omega (arith, start_next chunks i (omega arith), ap (λ xs. length (chunk_items xs)) all)

  pub place_from : (chunks : List (List T)) (v : Chunked T) (chunk offset : ℕ) → IsSeen chunks v → chunk < length chunks → offset ≤ length (chunk_at chunks chunk) → IsPlace v.sizes (record { chunk = chunk; offset = offset })
  place_from chunks v chunk offset saw lt le = record {
    chunk = omega (arith, sizes_length chunks v.sizes saw.sizes);
    offset = omega (arith, sizes_at chunks v.sizes chunk saw.sizes lt);
  }

  pub item_from : (chunks : List (List T)) (v : Chunked T) (chunk offset : ℕ) → IsSeen chunks v → chunk < length chunks → (chunk + 1 < length chunks → offset < length (chunk_at chunks chunk)) → position_of v.sizes (record { chunk = chunk; offset = offset }) < length v.items → HasItem v.sizes (record { chunk = chunk; offset = offset })
  item_from chunks v chunk offset saw lt inner less =
      let i = ap length saw.items in
      let s = sizes_start chunks v.sizes chunk saw.sizes in
      let size = sizes_at chunks v.sizes chunk saw.sizes lt in
      let within : offset < length (chunk_at chunks chunk) = elim (cases_lt (chunk + 1) (length chunks)) [
        | inl more ↦ inner more
        | inr last ↦ omega (arith, i, s, less, start_last chunks chunk (omega arith))
      ] in
      record { chunk = omega (arith, sizes_length chunks v.sizes saw.sizes); offset = omega (arith, size, within) }

  pub position_is : (chunks : List (List T)) (v : Chunked T) (chunk offset n : ℕ) → IsSeen chunks v → length (chunk_items (take chunk chunks)) + offset ≡ n → position_of v.sizes (record { chunk = chunk; offset = offset }) ≡ n
  position_is chunks v chunk offset n saw is = omega (arith, sizes_start chunks v.sizes chunk saw.sizes, is)

  -- a place by its chunk, which is an item's unless it stands at the end of the last chunk
  pub place_from_chunk : (chunks : List (List T)) (v : Chunked T) (chunk offset position : ℕ) → IsSeen chunks v → chunk < length chunks → offset ≤ length (chunk_at chunks chunk) → length (chunk_items (take chunk chunks)) + offset ≡ position → (chunk + 1 < length chunks → offset < length (chunk_at chunks chunk)) → IsPlaceAt v (record { chunk = chunk; offset = offset }) position
  place_from_chunk chunks v chunk offset position saw lt le is inner =
      let at = position_is chunks v chunk offset position saw is in
      record {
        place_is = place_from chunks v chunk offset saw lt le;
        position_is = at;
        item_is = λ less. item_from chunks v chunk offset saw lt inner (omega (arith, at, less));
      }

  -- chunks begin in their order
  pub start_up : (chunks : List (List T)) (i j : ℕ) → i ≤ j → length (chunk_items (take i chunks)) ≤ length (chunk_items (take j chunks))
  start_up chunks zero j le = omega arith
  start_up chunks (suc i) zero le = absurd (omega (arith, le))
  start_up [] (suc i) (suc j) le = omega arith
  start_up (p ∷ ps) (suc i) (suc j) le = omega (arith, start_up ps i j (omega (arith, le)), length-append p (chunk_items (take i ps)), length-append p (chunk_items (take j ps)))

  -- a chunk ends before a later one begins
  pub start_later : (chunks : List (List T)) (i j : ℕ) → i < j → i < length chunks → length (chunk_items (take i chunks)) + length (chunk_at chunks i) ≤ length (chunk_items (take j chunks))
  start_later chunks i j lt within = omega (arith, start_next chunks i within, start_up chunks (i + 1) j (omega (arith, lt)))

  -- ---- what is left where all from a place on is taken away

  pub cut_chunks : (chunks : List (List T)) (i : ℕ) (p : List T) → i < length chunks → set (take (i + 1) chunks) i p ≡ take i chunks ++ p ∷ []
  cut_chunks chunks i p lt =
      ap (λ xs. set xs i p) (take_more chunks i [] lt) ∙ set_at (take i chunks) (chunk_at chunks i) [] p i (length-take-le i chunks (omega arith))

  pub cut_items_of : (chunks : List (List T)) (i offset : ℕ) → i < length chunks → offset ≤ length (chunk_at chunks i) → chunk_items (take i chunks ++ take offset (chunk_at chunks i) ∷ []) ≡ take (length (chunk_items (take i chunks)) + offset) (chunk_items chunks)
  cut_items_of chunks i offset lt le =
      let a : List T = chunk_items (take i chunks) in
      let p : List T = chunk_at chunks i in
      let b : List T = chunk_items (drop (i + 1) chunks) in
      items_append (take i chunks) (take offset p ∷ [])
      ∙ ap (λ xs. a ++ xs) (append-nil (take offset p) ∙ sym (take-append-le offset p b le))
      ∙ sym (take-append-add a (p ++ b) offset)
      ∙ ap (take (length a + offset)) (sym (items_split chunks i lt))

  pub cut_items : (chunks new : List (List T)) (v : Chunked T) (place : Place) (chunk chunk' : List T) → IsSeen chunks v → IsPlace v.sizes place → new ≡ take (place.chunk + 1) chunks → chunk ≡ get_or new place.chunk chunk → chunk' ≡ take place.offset chunk → chunk_items (set new place.chunk chunk') ≡ take (position_of v.sizes place) v.items
  cut_items chunks new v place chunk chunk' saw at cut read is =
      let q = place_in chunks v.sizes place saw.sizes at in
      let same : chunk ≡ chunk_at chunks place.chunk = read ∙ ap (λ xs. get_or xs place.chunk chunk) cut ∙ get_or-take (place.chunk + 1) chunks place.chunk chunk (omega arith) ∙ get_or_default chunks place.chunk chunk [] q.chunk_in in
      ap (λ xs. chunk_items (set xs place.chunk chunk')) cut
      ∙ ap chunk_items (cut_chunks chunks place.chunk chunk' q.chunk_in)
      ∙ ap (λ xs. chunk_items (take place.chunk chunks ++ xs ∷ [])) (is ∙ ap (take place.offset) same)
      ∙ cut_items_of chunks place.chunk place.offset q.chunk_in q.offset_in
      ∙ ap (λ xs. take (length (chunk_items (take place.chunk chunks)) + place.offset) xs) saw.items
      ∙ ap (λ n. take n v.items) (sym q.position_is)

  pub cut_sound : (chunks new : List (List T)) (v : Chunked T) (place : Place) (chunk chunk' : List T) (most count room most' left : ℕ) → AreChunks chunks most count room → IsSeen chunks v → IsPlace v.sizes place → new ≡ take (place.chunk + 1) chunks → chunk ≡ get_or new place.chunk chunk → chunk' ≡ take place.offset chunk → left ≡ position_of v.sizes place → most' ≡ most → AreChunks (set new place.chunk chunk') most' left room
  cut_sound chunks new v place chunk chunk' most count room most' left sound saw at cut read is left_is same =
      let q = place_in chunks v.sizes place saw.sizes at in
      let n = ap length (cut_items chunks new v place chunk chunk' saw at cut read is) in
      let i = ap length saw.items in
      let below = start_below chunks place.chunk q.chunk_in in
      let short : position_of v.sizes place ≤ length v.items = omega (arith, i, below, q.offset_in, q.position_is) in
      let m = length-take-le (position_of v.sizes place) v.items short in
      let k = length-set new place.chunk chunk' in
      let l = ap length cut ∙ length-take-le (place.chunk + 1) chunks (omega (arith, q.chunk_in)) in
      let chunks_are : set new place.chunk chunk' ≡ take place.chunk chunks ++ chunk' ∷ [] = ap (λ xs. set xs place.chunk chunk') cut ∙ cut_chunks chunks place.chunk chunk' q.chunk_in in
      record {
        some = omega (arith, k, l);
        dense = subst IsDense (sym chunks_are) (dense_join (take place.chunk chunks) chunk' [] (dense_front chunks place.chunk q.chunk_in sound.dense) ((λ h. absurd (omega (arith, h))), tt));
        total = omega (arith, same, sound.total);
        len = omega (arith, n, m, left_is);
        within = omega (arith, n, m, i, short, sound.within);
      }

  -- ---- one item after another

  -- the items of the first chunks, and then those of the others
  pub rest_items : (chunks : List (List T)) (i : ℕ) → chunk_items chunks ≡ chunk_items (take i chunks) ++ chunk_items (drop i chunks)
  rest_items chunks i = ap chunk_items (sym (take-append-drop i chunks)) ∙ items_append (take i chunks) (drop i chunks)

  -- a walk begins at a place
  pub rest_from : (chunks : List (List T)) (v : Chunked T) (place : Place) → IsSeen chunks v → IsPlace v.sizes place → drop place.offset (chunk_items (drop place.chunk chunks)) ≡ drop (position_of v.sizes place) v.items
  rest_from chunks v place saw is =
      let i = place.chunk in
      let at = place_in chunks v.sizes place saw.sizes is in
      let a : List T = chunk_items (take i chunks) in
      let b : List T = chunk_items (drop i chunks) in
      sym (drop-append-add a b place.offset)
      ∙ ap (drop (length a + place.offset)) (sym (rest_items chunks i) ∙ saw.items)
      ∙ ap (λ n. drop n v.items) (sym at.position_is)

  pub rest_length : (chunks : List (List T)) (v : Chunked T) (place : Place) → IsSeen chunks v → IsPlace v.sizes place → length (chunk_items (drop place.chunk chunks)) + position_of v.sizes place ≡ length v.items + place.offset
  rest_length chunks v place saw is =
      let at = place_in chunks v.sizes place saw.sizes is in
      let a : List T = chunk_items (take place.chunk chunks) in
      let b : List T = chunk_items (drop place.chunk chunks) in
      omega (arith, ap length (rest_items chunks place.chunk), length-append a b, ap length saw.items, at.position_is)

  -- an item is left in dense chunks, so the first one has an item
  pub first_some : (chunks : List (List T)) (left : ℕ) → IsDense chunks → 0 < left → left ≤ length (chunk_items chunks) → (0 < length chunks) × (0 < length (chunk_at chunks 0))
  first_some [] left dense some within = absurd (omega (arith, some, within))
  first_some (p ∷ []) left dense some within = (omega arith, omega (arith, some, within, length-append p []))
  first_some (p ∷ q ∷ ps) left dense some within = (omega arith, omega (arith, dense.0 (omega arith)))

  pub kept_read : (test : T → Bool) (xs ys : List T) (k i : ℕ) (d : T) → FiltersInPlace test xs ys k i → get_or ys i d ≡ get_or xs i d
  kept_read test xs ys k i d kept =
      let none : i + 0 ≡ i = omega arith in
      ap (λ n. get_or ys n d) (sym none) ∙ sym (get_or-drop i ys 0 d) ∙ ap (λ zs. get_or zs 0 d) kept.rest ∙ get_or-drop i xs 0 d ∙ ap (λ n. get_or xs n d) none

  pub kept_more : (test : T → Bool) (xs ys zs : List T) (k k' i : ℕ) (x : T) → FiltersInPlace test xs ys k i → i < length ys → test x ≡ true → x ≡ get_or ys i x → zs ≡ set ys k x → k' ≡ k + 1 → FiltersInPlace test xs zs k' (i + 1)
  kept_more test xs ys zs k k' i x kept lt holds read is next =
      subst (λ n. FiltersInPlace test xs zs n (i + 1)) (sym next) (subst (λ ws. FiltersInPlace test xs ws (k + 1) (i + 1)) (sym is) (FiltersInPlace-more_set kept lt holds read))
