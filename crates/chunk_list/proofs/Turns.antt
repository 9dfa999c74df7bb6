-- Where a test stops holding.
use Rattle.std.proofs.Common.{◌≡◌, ℕ, zero, suc, ◌+◌, ◌-◌, ◌<◌, ◌≤◌, List, [], ◌∷◌, length, get_or, take, Bool, true, false, refl, sym, ap, subst, ◌∙◌, arith, inl, inr}
use Rattle.std.specs.List.{All}
use Rattle.std.proofs.lemmas.Bool.{cases_lt}
use Rattle.chunk_list.specs.Chunked.{Chunked, position_of, IsPlace, HasItem, IsPlaceAt, TurnsAt}
use Rattle.chunk_list.specs.Chunks.{chunk_items, chunk_at, IsDense, IsTurnIn}
use Rattle.chunk_list.proofs.Chunks.{item_at, dense_here}
use Rattle.chunk_list.proofs.Lists.{IsSeen}
use Rattle.chunk_list.proofs.Walks.{start_next, start_last, start_below, item_from, place_from, position_is}

module _ {T : Type 0} where
  -- an item at which the test holds stands before the turn
  pub turn_after : (test : T → Bool) (xs : List T) (k i : ℕ) (x : T) → TurnsAt test xs k → i < length xs → x ≡ get_or xs i x → test x ≡ true → i < k
  turn_after test xs k i x turn lt is holds = elim (cases_lt i k) [
    | inl below ↦ below
    | inr above ↦
        let fails : test x ≡ false = subst (λ y. test y ≡ false) (sym is) (turn.after i x above lt) in
        let no : ⊥ = cc in absurd no
  ]

  -- an item at which it doesn't hold stands from the turn on
  pub turn_before : (test : T → Bool) (xs : List T) (k i : ℕ) (x : T) → TurnsAt test xs k → i < length xs → x ≡ get_or xs i x → test x ≡ false → k ≤ i
  turn_before test xs k i x turn lt is fails = elim (cases_lt i k) [
    | inl below ↦
        let holds : test x ≡ true = subst (λ y. test y ≡ true) (sym is) (turn.before i x below) in
        let no : ⊥ = cc in absurd no
    | inr above ↦ above
  ]

  -- ---- the turn of a list and of its chunks

  -- where the last item of a chunk stands
  last_item : (chunks : List (List T)) (i : ℕ) (x : T) → i + 1 < length chunks → IsDense chunks → x ≡ get_or (chunk_at chunks i) (length (chunk_at chunks i) - 1) x → x ≡ get_or (chunk_items chunks) (length (chunk_items (take i chunks)) + (length (chunk_at chunks i) - 1)) x
  last_item chunks i x lt dense is =
      is ∙ sym (item_at chunks i (length (chunk_at chunks i) - 1) x (omega arith) (omega (arith, dense_here chunks i lt dense)))

  pub chunk_holds : (test : T → Bool) (chunks : List (List T)) (i : ℕ) (x : T) → i + 1 < length chunks → IsDense chunks → x ≡ get_or (chunk_at chunks i) (length (chunk_at chunks i) - 1) x → test x ≡ true → (k : ℕ) → TurnsAt test (chunk_items chunks) k → length (chunk_items (take (i + 1) chunks)) ≤ k
  chunk_holds test chunks i x lt dense is holds k turn =
      let full = dense_here chunks i lt dense in
      let below = start_below chunks i (omega arith) in
      let after = turn_after test (chunk_items chunks) k (length (chunk_items (take i chunks)) + (length (chunk_at chunks i) - 1)) x turn (omega (arith, full, below)) (last_item chunks i x lt dense is) holds in
      omega (arith, after, full, start_next chunks i (omega arith))

  pub chunk_fails : (test : T → Bool) (chunks : List (List T)) (i : ℕ) (x : T) → i + 1 < length chunks → IsDense chunks → x ≡ get_or (chunk_at chunks i) (length (chunk_at chunks i) - 1) x → test x ≡ false → (k : ℕ) → TurnsAt test (chunk_items chunks) k → k < length (chunk_items (take (i + 1) chunks))
  chunk_fails test chunks i x lt dense is fails k turn =
      let full = dense_here chunks i lt dense in
      let below = start_below chunks i (omega arith) in
      let before = turn_before test (chunk_items chunks) k (length (chunk_items (take i chunks)) + (length (chunk_at chunks i) - 1)) x turn (omega (arith, full, below)) (last_item chunks i x lt dense is) fails in
      omega (arith, before, full, start_next chunks i (omega arith))

  -- the turn of the items is one of the chunk that it stands in
  pub turn_within : (chunks : List (List T)) (i k : ℕ) → i < length chunks → k ≤ length (chunk_items chunks) → (i + 1 < length chunks → k < length (chunk_items (take (i + 1) chunks))) → k ≤ length (chunk_items (take i chunks)) + length (chunk_at chunks i)
  turn_within chunks i k lt le to = elim (cases_lt (i + 1) (length chunks)) [
    | inl more ↦ omega (arith, to more, start_next chunks i lt)
    | inr last ↦ omega (arith, start_last chunks i (omega arith))
  ]

  pub turn_of_chunk : (test : T → Bool) (chunks : List (List T)) (i k : ℕ) → i < length chunks → length (chunk_items (take i chunks)) ≤ k → (i + 1 < length chunks → k < length (chunk_items (take (i + 1) chunks))) → TurnsAt test (chunk_items chunks) k → TurnsAt test (chunk_at chunks i) (k - length (chunk_items (take i chunks)))
  turn_of_chunk test chunks i k lt from to turn =
      let start : ℕ = length (chunk_items (take i chunks)) in
      let within = turn_within chunks i k lt turn.in_range to in
      let below = start_below chunks i lt in
      record {
        in_range = omega (arith, within);
        before = λ j d less. subst (λ y. test y ≡ true) (item_at chunks i j d lt (omega (arith, within, less))) (turn.before (start + j) d (omega (arith, less)));
        after = λ j d above less. subst (λ y. test y ≡ false) (item_at chunks i j d lt less) (turn.after (start + j) d (omega (arith, above)) (omega (arith, below, less)));
      }

  -- ---- what a search finds

  pub found_place : (chunks : List (List T)) (v : Chunked T) (chunk offset : ℕ) (p : List T) → IsSeen chunks v → chunk < length chunks → p ≡ chunk_at chunks chunk → offset ≤ length p → IsPlace v.sizes (record { chunk = chunk; offset = offset })
  found_place chunks v chunk offset p saw lt is le = place_from chunks v chunk offset saw lt (omega (arith, le, ap length is))

  found_position : (test : T → Bool) (chunks : List (List T)) (chunk offset k : ℕ) (p : List T) → chunk < length chunks → p ≡ chunk_at chunks chunk → length (chunk_items (take chunk chunks)) ≤ k → (chunk + 1 < length chunks → k < length (chunk_items (take (chunk + 1) chunks))) → ((m : ℕ) → TurnsAt test p m → m ≡ offset) → TurnsAt test (chunk_items chunks) k → length (chunk_items (take chunk chunks)) + offset ≡ k
  found_position test chunks chunk offset k p lt is from to exact turn =
      let c = turn_of_chunk test chunks chunk k lt from to turn in
      let e = exact (k - length (chunk_items (take chunk chunks))) (subst (λ xs. TurnsAt test xs (k - length (chunk_items (take chunk chunks)))) (sym is) c) in
      omega (arith, e, from)

  found_turn : (test : T → Bool) (chunks : List (List T)) (v : Chunked T) (chunk offset : ℕ) (p : List T) → IsSeen chunks v → chunk < length chunks → p ≡ chunk_at chunks chunk → ((k : ℕ) → TurnsAt test (chunk_items chunks) k → length (chunk_items (take chunk chunks)) ≤ k) → ((k : ℕ) → TurnsAt test (chunk_items chunks) k → chunk + 1 < length chunks → k < length (chunk_items (take (chunk + 1) chunks))) → ((m : ℕ) → TurnsAt test p m → m ≡ offset) → (k : ℕ) → TurnsAt test v.items k → position_of v.sizes (record { chunk = chunk; offset = offset }) ≡ k
  found_turn test chunks v chunk offset p saw lt is from to exact k seen_turn =
      let turn : TurnsAt test (chunk_items chunks) k = subst (λ xs. TurnsAt test xs k) (sym saw.items) seen_turn in
      position_is chunks v chunk offset k saw (found_position test chunks chunk offset k p lt is (from k turn) (to k turn) exact turn)

  found_item : (test : T → Bool) (chunks : List (List T)) (v : Chunked T) (chunk offset : ℕ) (p : List T) → IsSeen chunks v → chunk < length chunks → p ≡ chunk_at chunks chunk → ((k : ℕ) → TurnsAt test (chunk_items chunks) k → length (chunk_items (take chunk chunks)) ≤ k) → ((k : ℕ) → TurnsAt test (chunk_items chunks) k → chunk + 1 < length chunks → k < length (chunk_items (take (chunk + 1) chunks))) → ((m : ℕ) → TurnsAt test p m → m ≡ offset) → (k : ℕ) → TurnsAt test v.items k → k < length v.items → HasItem v.sizes (record { chunk = chunk; offset = offset })
  found_item test chunks v chunk offset p saw lt is from to exact k seen_turn less =
      let turn : TurnsAt test (chunk_items chunks) k = subst (λ xs. TurnsAt test xs k) (sym saw.items) seen_turn in
      let e = found_position test chunks chunk offset k p lt is (from k turn) (to k turn) exact turn in
      let at = position_is chunks v chunk offset k saw e in
      item_from chunks v chunk offset saw lt (λ more. omega (arith, e, to k turn more, start_next chunks chunk lt)) (omega (arith, at, less))

  -- the place that a search gives
  pub found_at : (test : T → Bool) (chunks : List (List T)) (v : Chunked T) (chunk offset : ℕ) (p : List T) → IsSeen chunks v → IsTurnIn test chunks chunk → p ≡ chunk_at chunks chunk → offset ≤ length p → ((m : ℕ) → TurnsAt test p m → m ≡ offset) → (k : ℕ) → TurnsAt test v.items k → IsPlaceAt v (record { chunk = chunk; offset = offset }) k
  found_at test chunks v chunk offset p saw found is le exact k turn = record {
    place_is = found_place chunks v chunk offset p saw found.in_range is le;
    position_is = found_turn test chunks v chunk offset p saw found.in_range is found.from found.to exact k turn;
    item_is = λ less. found_item test chunks v chunk offset p saw found.in_range is found.from found.to exact k turn less;
  }

  -- what may be asked at each item may be asked at those of a chunk
  pub can_chunk : (P : T → Type 0) (chunks : List (List T)) (i : ℕ) → i < length chunks → All P (chunk_items chunks) → All P (chunk_at chunks i)
  can_chunk P chunks i lt all = λ j d less. subst P (item_at chunks i j d lt less) (all (length (chunk_items (take i chunks)) + j) d (omega (arith, less, start_below chunks i lt)))

  -- where the test holds at each item before one at which it holds, there is a turn
  pub turn_of : (test : T → Bool) (xs : List T) → ((i j : ℕ) (d : T) → i ≤ j → j < length xs → test (get_or xs j d) ≡ true → test (get_or xs i d) ≡ true) → (k : ℕ) × TurnsAt test xs k
  turn_of test [] down = (0, record { in_range = omega arith; before = λ i d lt. absurd (omega (arith, lt)); after = λ i d le lt. absurd (omega (arith, lt)) })
  turn_of test (x ∷ xs) down = go (test x) refl (λ h. turn_of test xs h)
    where
      go : (b : Bool) → test x ≡ b → (((i j : ℕ) (d : T) → i ≤ j → j < length xs → test (get_or xs j d) ≡ true → test (get_or xs i d) ≡ true) → (k : ℕ) × TurnsAt test xs k) → (k : ℕ) × TurnsAt test (x ∷ xs) k
      go true holds more =
          let r = more (λ i j d le lt h. down (suc i) (suc j) d (omega (arith, le)) (omega (arith, lt)) h) in
          (suc r.0, record { in_range = omega (arith, r.1.in_range); before = before r.0 r.1; after = after r.0 r.1 })
        where
          before : (k : ℕ) → TurnsAt test xs k → (i : ℕ) (d : T) → i < suc k → test (get_or (x ∷ xs) i d) ≡ true
          before k turn zero d lt = holds
          before k turn (suc i) d lt = turn.before i d (omega (arith, lt))

          after : (k : ℕ) → TurnsAt test xs k → (i : ℕ) (d : T) → suc k ≤ i → i < suc (length xs) → test (get_or (x ∷ xs) i d) ≡ false
          after k turn zero d le lt = absurd (omega (arith, le))
          after k turn (suc i) d le lt = turn.after i d (omega (arith, le)) (omega (arith, lt))
      go false fails more = (0, record { in_range = omega arith; before = λ i d lt. absurd (omega (arith, lt)); after = λ i d le lt. false_from i d lt (test (get_or (x ∷ xs) i d)) refl })
        where
          false_from : (i : ℕ) (d : T) → i < suc (length xs) → (b : Bool) → test (get_or (x ∷ xs) i d) ≡ b → test (get_or (x ∷ xs) i d) ≡ false
          false_from i d lt true e = let first : test x ≡ true = down 0 i d (omega arith) lt e in let no : ⊥ = cc in absurd no
          false_from i d lt false e = e
