-- A list and its chunks.
use Rattle.std.proofs.Common.{◌≡◌, ℕ, ◌+◌, ◌-◌, ◌<◌, ◌≤◌, List, ◌++◌, length, get_or, set, take, drop, map, refl, sym, ap, subst, ◌∙◌, arith}
use Rattle.std.specs.List.{insert, remove}
use Rattle.std.proofs.lemmas.List.{length-append, length-set, map-set, set-get_or}
use Rattle.std.proofs.lemmas.List.Edits.{length-remove}
use Rattle.chunk_list.specs.Chunked.{Chunked, position_of, IsPlace, HasItem}
use Rattle.chunk_list.specs.Chunks.{chunk_items, chunk_at, IsDense, LacksOne, IsOpenedAt, AreChunks}
use Rattle.chunk_list.specs.declared.span.TheConstants.{LEAST}
use Rattle.chunk_list.specs.declared.place.Place.{Place}
use Rattle.chunk_list.proofs.Chunks.{IsIn, place_in, item_in, chunk_read, self_read, item_at, written, removed, opened_inserted, sound_inserted, dense_set, dense_here, short_after, items_split, sizes_at}

module _ {T : Type 0} where
  -- what a contract sees of these chunks
  pub record IsSeen (chunks : List (List T)) (v : Chunked T) : Type 0 where
    pub items : chunk_items chunks ≡ v.items
    pub sizes : map (λ p. length p) chunks ≡ v.sizes

  pub seen : (chunks : List (List T)) (room : ℕ) (v w : Chunked T) → v ≡ w → v.items ≡ chunk_items chunks → v.sizes ≡ map (λ p. length p) chunks → IsSeen chunks w
  seen chunks room v w is items sizes = record { items = sym items ∙ ap (λ (x : Chunked T). x.items) is; sizes = sym sizes ∙ ap (λ (x : Chunked T). x.sizes) is }

  -- the chunk of a place that has an item
  pub record IsHere (chunks : List (List T)) (v : Chunked T) (place : Place) (chunk : List T) : Type 0 where
    pub place_is : IsIn chunks place.chunk place.offset (position_of v.sizes place)
    pub less : place.offset < length chunk
    pub is : chunk ≡ chunk_at chunks place.chunk
    pub items : chunk_items chunks ≡ v.items

  pub here : (chunks : List (List T)) (v : Chunked T) (place : Place) (chunk : List T) → IsSeen chunks v → HasItem v.sizes place → chunk ≡ get_or chunks place.chunk chunk → IsHere chunks v place chunk
  here chunks v place chunk saw item read =
      let q = item_in chunks v.sizes place saw.sizes item in
      let is : chunk ≡ chunk_at chunks place.chunk = chunk_read chunks place.chunk chunk read q.0.chunk_in in
      record { place_is = q.0; less = subst (λ xs. place.offset < length xs) (sym is) q.1; is = is; items = saw.items }

  pub here_at : (chunks : List (List T)) (v : Chunked T) (place : Place) → IsSeen chunks v → HasItem v.sizes place → IsHere chunks v place (chunk_at chunks place.chunk)
  here_at chunks v place saw item =
      let q = item_in chunks v.sizes place saw.sizes item in
      here chunks v place (chunk_at chunks place.chunk) saw item (self_read chunks place.chunk q.0.chunk_in)

  in_chunk : (chunks : List (List T)) (v : Chunked T) (place : Place) (chunk : List T) → IsHere chunks v place chunk → place.offset < length (chunk_at chunks place.chunk)
  in_chunk chunks v place chunk h = subst (λ xs. place.offset < length xs) h.is h.less

  -- positions by chunks are those by sizes
  pub at_position : (chunks : List (List T)) (v : Chunked T) (place : Place) (chunk : List T) → IsHere chunks v place chunk → (X : Type 0) (f : List T → ℕ → X) → f (chunk_items chunks) (length (chunk_items (take place.chunk chunks)) + place.offset) ≡ f v.items (position_of v.sizes place)
  at_position chunks v place chunk h X f = ap (λ xs. f xs (length (chunk_items (take place.chunk chunks)) + place.offset)) h.items ∙ ap (f v.items) (sym h.place_is.position_is)

  pub read_item : (chunks : List (List T)) (v : Chunked T) (place : Place) (chunk : List T) (x : T) → IsHere chunks v place chunk → x ≡ get_or chunk place.offset x → x ≡ get_or v.items (position_of v.sizes place) x
  read_item chunks v place chunk x h read =
      read ∙ ap (λ xs. get_or xs place.offset x) h.is ∙ sym (item_at chunks place.chunk place.offset x h.place_is.chunk_in (in_chunk chunks v place chunk h)) ∙ at_position chunks v place chunk h T (λ xs n. get_or xs n x)

  pub set_items : (chunks : List (List T)) (v : Chunked T) (place : Place) (chunk chunk' : List T) (x : T) → IsHere chunks v place chunk → chunk' ≡ set chunk place.offset x → chunk_items (set chunks place.chunk chunk') ≡ set v.items (position_of v.sizes place) x
  set_items chunks v place chunk chunk' x h is =
      ap (λ p. chunk_items (set chunks place.chunk p)) (is ∙ ap (λ p. set p place.offset x) h.is) ∙ written chunks place.chunk place.offset x h.place_is.chunk_in (in_chunk chunks v place chunk h) ∙ at_position chunks v place chunk h (List T) (λ xs n. set xs n x)

  same_length : (chunks : List (List T)) (v : Chunked T) (place : Place) (chunk chunk' : List T) (x : T) → IsHere chunks v place chunk → chunk' ≡ set chunk place.offset x → length chunk' ≡ length (chunk_at chunks place.chunk)
  same_length chunks v place chunk chunk' x h is = ap length is ∙ length-set chunk place.offset x ∙ ap length h.is

  pub set_sizes : (chunks : List (List T)) (v : Chunked T) (place : Place) (chunk chunk' : List T) (x : T) → IsSeen chunks v → IsHere chunks v place chunk → chunk' ≡ set chunk place.offset x → map (λ p. length p) (set chunks place.chunk chunk') ≡ v.sizes
  set_sizes chunks v place chunk chunk' x saw h is =
      map-set (λ p. length p) chunks place.chunk chunk'
      ∙ ap (set (map (λ p. length p) chunks) place.chunk) (same_length chunks v place chunk chunk' x h is ∙ sym (sizes_at chunks (map (λ p. length p) chunks) place.chunk refl h.place_is.chunk_in))
      ∙ set-get_or (map (λ p. length p) chunks) place.chunk 0
      ∙ saw.sizes

  pub set_sound : (chunks : List (List T)) (v : Chunked T) (place : Place) (chunk chunk' : List T) (x : T) (most count room : ℕ) → AreChunks chunks most count room → IsHere chunks v place chunk → chunk' ≡ set chunk place.offset x → AreChunks (set chunks place.chunk chunk') most count room
  set_sound chunks v place chunk chunk' x most count room sound h is =
      let m = length-set chunks place.chunk chunk' in
      let n = ap length (set_items chunks v place chunk chunk' x h is) in
      let o = length-set v.items (position_of v.sizes place) x in
      let i = ap length h.items in
      let same = same_length chunks v place chunk chunk' x h is in
      record {
        some = omega (arith, m, sound.some);
        dense = dense_set chunks place.chunk chunk' (λ q. omega (arith, same, dense_here chunks place.chunk q sound.dense)) sound.dense;
        total = sound.total;
        len = omega (arith, n, o, i, sound.len);
        within = omega (arith, n, o, i, sound.within);
      }

  -- ---- a removal

  pub remove_items : (chunks : List (List T)) (v : Chunked T) (place : Place) (chunk chunk' : List T) → IsHere chunks v place chunk → chunk' ≡ remove chunk place.offset → chunk_items (set chunks place.chunk chunk') ≡ remove v.items (position_of v.sizes place)
  remove_items chunks v place chunk chunk' h is =
      ap (λ p. chunk_items (set chunks place.chunk p)) (is ∙ ap (λ p. remove p place.offset) h.is) ∙ removed chunks place.chunk place.offset h.place_is.chunk_in (in_chunk chunks v place chunk h) ∙ at_position chunks v place chunk h (List T) (λ xs n. remove xs n)

  pub position_less : (chunks : List (List T)) (v : Chunked T) (place : Place) (chunk : List T) → IsHere chunks v place chunk → position_of v.sizes place < length (chunk_items chunks)
  position_less chunks v place chunk h =
      let n = ap length (items_split chunks place.chunk h.place_is.chunk_in) in
      let less : place.offset < length (chunk_at chunks place.chunk) = in_chunk chunks v place chunk h in
      let p : List T = chunk_at chunks place.chunk in
      let after : List T = chunk_items (drop (place.chunk + 1) chunks) in
      omega (arith, n, less, h.place_is.position_is, length-append (chunk_items (take place.chunk chunks)) (p ++ after), length-append p after)

  pub count_less : (chunks : List (List T)) (v : Chunked T) (place : Place) (chunk chunk' : List T) → IsHere chunks v place chunk → chunk' ≡ remove chunk place.offset → length (chunk_items (set chunks place.chunk chunk')) + 1 ≡ length (chunk_items chunks)
  count_less chunks v place chunk chunk' h is =
      let n = ap length (remove_items chunks v place chunk chunk' h is) in
      let i = ap length h.items in
      omega (arith, n, i, length-remove v.items (position_of v.sizes place) (omega (arith, i, position_less chunks v place chunk h)))

  pub chunk_less : (chunks : List (List T)) (v : Chunked T) (place : Place) (chunk chunk' : List T) → IsHere chunks v place chunk → chunk' ≡ remove chunk place.offset → length chunk' + 1 ≡ length (chunk_at chunks place.chunk)
  chunk_less chunks v place chunk chunk' h is =
      omega (arith, ap length is, length-remove chunk place.offset h.less, ap length h.is)

  pub short_here : (chunks : List (List T)) (v : Chunked T) (place : Place) (chunk chunk' : List T) → IsDense chunks → IsHere chunks v place chunk → chunk' ≡ remove chunk place.offset → LacksOne (set chunks place.chunk chunk') place.chunk
  short_here chunks v place chunk chunk' dense h is = short_after chunks place.chunk chunk' h.place_is.chunk_in (chunk_less chunks v place chunk chunk' h is) dense

  pub sound_less : (chunks new : List (List T)) (most count room most' : ℕ) → AreChunks chunks most count room → 0 < length new → IsDense new → most' ≡ most → length (chunk_items new) + 1 ≡ length (chunk_items chunks) → AreChunks new most' (count - 1) room
  sound_less chunks new most count room most' sound some dense same less = record {
    some = some;
    dense = dense;
    total = omega (arith, same, sound.total);
    len = omega (arith, less, sound.len);
    within = omega (arith, less, sound.within);
  }

  pub left_dense : (chunks : List (List T)) (v : Chunked T) (place : Place) (chunk chunk' : List T) → IsDense chunks → LEAST ≤ length chunk' → IsDense (set chunks place.chunk chunk')
  left_dense chunks v place chunk chunk' dense many = dense_set chunks place.chunk chunk' (λ _. many) dense

  -- ---- an insert

  pub insert_items : (chunks new : List (List T)) (v : Chunked T) (place opened : Place) (chunk chunk' : List T) (x : T) → IsSeen chunks v → IsPlace v.sizes place → IsOpenedAt chunks new place.chunk place.offset opened.chunk opened.offset → chunk ≡ get_or new opened.chunk chunk → chunk' ≡ insert chunk opened.offset x → chunk_items (set new opened.chunk chunk') ≡ insert v.items (position_of v.sizes place) x
  insert_items chunks new v place opened chunk chunk' x saw at h read is =
      let q = place_in chunks v.sizes place saw.sizes at in
      let e : chunk' ≡ insert (chunk_at new opened.chunk) opened.offset x = is ∙ ap (λ p. insert p opened.offset x) (chunk_read new opened.chunk chunk read h.chunk_in) in
      ap (λ p. chunk_items (set new opened.chunk p)) e
      ∙ opened_inserted chunks new place.chunk place.offset opened.chunk opened.offset x h
      ∙ ap (λ xs. insert xs (length (chunk_items (take place.chunk chunks)) + place.offset) x) saw.items
      ∙ ap (λ n. insert v.items n x) (sym q.position_is)

  pub insert_sound : (chunks new : List (List T)) (v : Chunked T) (place opened : Place) (chunk chunk' : List T) (x : T) (most count room most' : ℕ) → AreChunks chunks most count room → IsSeen chunks v → IsPlace v.sizes place → length v.items < room → IsOpenedAt chunks new place.chunk place.offset opened.chunk opened.offset → chunk ≡ get_or new opened.chunk chunk → chunk' ≡ insert chunk opened.offset x → most' ≡ most → AreChunks (set new opened.chunk chunk') most' (count + 1) room
  insert_sound chunks new v place opened chunk chunk' x most count room most' sound saw at less h read is same =
      let q = place_in chunks v.sizes place saw.sizes at in
      let e : chunk' ≡ insert (chunk_at new opened.chunk) opened.offset x = is ∙ ap (λ p. insert p opened.offset x) (chunk_read new opened.chunk chunk read h.chunk_in) in
      let i = ap length saw.items in
      let n = ap length (items_split chunks place.chunk q.chunk_in) in
      let p : List T = chunk_at chunks place.chunk in
      let after : List T = chunk_items (drop (place.chunk + 1) chunks) in
      let within : length (chunk_items (take place.chunk chunks)) + place.offset ≤ length (chunk_items chunks) = omega (arith, n, q.offset_in, length-append (chunk_items (take place.chunk chunks)) (p ++ after), length-append p after) in
      let few : length (chunk_items chunks) < room = omega (arith, i, less) in
      subst (λ p. AreChunks (set new opened.chunk p) most' (count + 1) room) (sym e)
      (sound_inserted chunks new most count room most' place.chunk place.offset opened.chunk opened.offset x sound few h same within)
