-- Lists of chunks: what stands before, at and after one of them, and what a change of it leaves.
use Rattle.std.proofs.Common.{◌≡◌, ◌≢◌, ℕ, zero, suc, ◌+◌, ◌-◌, ◌*◌, ◌<◌, ◌≤◌, List, [], ◌∷◌, ◌++◌, length, get_or, set, take, drop, map, refl, sym, ap, subst, ◌∙◌, arith}
use Rattle.std.specs.List.{insert, remove, AllByRecursion}
use Rattle.std.proofs.lemmas.List.{append_assoc, length-append, get_or_default, set-append_left, set-append_right, set_split, take-append-drop, drop_more, take_more, set_at, get_or_at, get_or-append-add, length-drop, get_or-set_other, get_or-set_same, length-set, length-map, get_or-map, take-map, drop-set-lt, take-set-le, drop-set, take_at, length-take-le, drop_all}
use Rattle.std.proofs.lemmas.List.Edits.{insert_end, length-insert, insert-append_left, insert-append_right, remove-append_left, remove-append_right}
use Rattle.std.proofs.lemmas.List.Concat.{flat_map-append, get_or-flat_map, length-flat_map}
use Rattle.std.proofs.lemmas.List.Sums.{sum-map}
use Rattle.std.specs.Prelude.{sum}
use Rattle.chunk_list.specs.Chunked.{start_of, position_of, IsPlace, HasItem}
use Rattle.chunk_list.specs.Chunks.{chunk_items, chunk_at, replaced, IsDense, LacksOne, IsOpenedAt, AreChunks}
use Rattle.chunk_list.specs.declared.span.TheConstants.{LEAST, MOST}
use Rattle.chunk_list.specs.declared.place.Place.{Place}

module _ {T : Type 0} where
  -- a chunk stands between those before it and those after it
  pub chunks_split : (chunks : List (List T)) (i : ℕ) → i < length chunks → chunks ≡ take i chunks ++ (chunk_at chunks i ∷ drop (i + 1) chunks)
  chunks_split chunks i lt = sym (take-append-drop i chunks) ∙ ap (λ xs. take i chunks ++ xs) (drop_more chunks i [] lt)

  -- a chunk that is read is that of the list
  pub chunk_read : (chunks : List (List T)) (i : ℕ) (p : List T) → p ≡ get_or chunks i p → i < length chunks → p ≡ chunk_at chunks i
  chunk_read chunks i p is lt = is ∙ get_or_default chunks i p [] lt

  -- the same of one that stands for itself
  pub self_read : (chunks : List (List T)) (i : ℕ) → i < length chunks → chunk_at chunks i ≡ get_or chunks i (chunk_at chunks i)
  self_read chunks i lt = sym (get_or_default chunks i (chunk_at chunks i) [] lt)

  -- ---- what the moves make of the chunks

  pub chunks_cut : (chunks opened moved new : List (List T)) (i keep : ℕ) → i < length chunks → opened ≡ insert chunks (i + 1) [] → moved ≡ set opened (i + 1) (drop keep (chunk_at opened i)) → new ≡ set moved i (take keep (chunk_at moved i)) → new ≡ replaced chunks i 1 (take keep (chunk_at chunks i) ∷ drop keep (chunk_at chunks i) ∷ [])
  chunks_cut chunks opened moved new i keep lt open_is move_is new_is =
      let p : List T = chunk_at chunks i in
      let before : List (List T) = take i chunks in
      let after : List (List T) = drop (i + 1) chunks in
      let n : length before ≡ i = length-take-le i chunks (omega (arith, lt)) in
      let one : suc i ≡ i + 1 = omega arith in
      let opened' : opened ≡ before ++ (p ∷ ([] ∷ after)) =
      open_is ∙ ap (λ xs. xs ++ [] ∷ after) (take_more chunks i [] lt) ∙ append_assoc before (p ∷ []) ([] ∷ after) in
      let here : chunk_at opened i ≡ p = ap (λ xs. chunk_at xs i) opened' ∙ get_or_at before p ([] ∷ after) [] i n in
      let m : length (before ++ p ∷ []) ≡ i + 1 = omega (arith, n, length-append before (p ∷ [])) in
      let moved' : moved ≡ before ++ (p ∷ (drop keep p ∷ after)) =
      move_is
      ∙ ap (λ q. set opened (i + 1) (drop keep q)) here
      ∙ ap (λ xs. set xs (i + 1) (drop keep p)) (opened' ∙ sym (append_assoc before (p ∷ []) ([] ∷ after)))
      ∙ set_at (before ++ p ∷ []) [] after (drop keep p) (i + 1) m
      ∙ append_assoc before (p ∷ []) (drop keep p ∷ after) in
      let there : chunk_at moved i ≡ p = ap (λ xs. chunk_at xs i) moved' ∙ get_or_at before p (drop keep p ∷ after) [] i n in
      new_is
      ∙ ap (λ q. set moved i (take keep q)) there
      ∙ ap (λ xs. set xs i (take keep p)) moved'
      ∙ set_at before p (drop keep p ∷ after) (take keep p) i n

  pub chunks_joined : (chunks both new : List (List T)) (i : ℕ) → i + 1 < length chunks → both ≡ set chunks i (chunk_at chunks i ++ chunk_at chunks (i + 1)) → new ≡ remove both (i + 1) → new ≡ replaced chunks i 2 ((chunk_at chunks i ++ chunk_at chunks (i + 1)) ∷ [])
  chunks_joined chunks both new i lt both_is new_is =
      let pq : List T = chunk_at chunks i ++ chunk_at chunks (i + 1) in
      let one : suc i ≡ i + 1 = omega arith in
      let two : suc (i + 1) ≡ i + 2 = omega arith in
      let n : length (take i chunks) ≡ i = length-take-le i chunks (omega (arith, lt)) in
      let m : length (take i chunks ++ pq ∷ []) ≡ i + 1 = omega (arith, n, length-append (take i chunks) (pq ∷ [])) in
      let split : both ≡ (take i chunks ++ pq ∷ []) ++ drop (i + 1) chunks =
      both_is ∙ set_split chunks i pq (omega (arith, lt)) ∙ ap (λ k. take i chunks ++ pq ∷ drop k chunks) one ∙ sym (append_assoc (take i chunks) (pq ∷ []) (drop (i + 1) chunks)) in
      let front : take (i + 1) both ≡ take i chunks ++ pq ∷ [] = ap (take (i + 1)) split ∙ take_at (take i chunks ++ pq ∷ []) (drop (i + 1) chunks) (i + 1) m in
      let rest : drop (suc (i + 1)) both ≡ drop (i + 2) chunks =
      ap (λ k. drop k both) two ∙ ap (drop (i + 2)) both_is ∙ drop-set-lt (i + 2) chunks i pq (omega arith) in
      new_is
      ∙ ap (λ xs. xs ++ drop (suc (i + 1)) both) front
      ∙ ap (λ xs. (take i chunks ++ pq ∷ []) ++ xs) rest
      ∙ append_assoc (take i chunks) (pq ∷ []) (drop (i + 2) chunks)

  pub chunks_shifted : (chunks less new : List (List T)) (i end : ℕ) (item : T) → i + 1 < length chunks → 0 < length (chunk_at chunks (i + 1)) → end ≡ length (chunk_at chunks i) → item ≡ get_or (chunk_at chunks (i + 1)) 0 item → less ≡ set chunks (i + 1) (remove (chunk_at chunks (i + 1)) 0) → new ≡ set less i (insert (chunk_at less i) end item) → new ≡ replaced chunks i 2 ((chunk_at chunks i ++ take 1 (chunk_at chunks (i + 1))) ∷ drop 1 (chunk_at chunks (i + 1)) ∷ [])
  chunks_shifted chunks less new i end item lt some end_is item_is less_is new_is =
      let p : List T = chunk_at chunks i in
      let q : List T = chunk_at chunks (i + 1) in
      let ne : i ≢ i + 1 = omega arith in
      let one : suc i ≡ i + 1 = omega arith in
      let two : i + 1 + 1 ≡ i + 2 = omega arith in
      let within : i < length less = omega (arith, lt, ap length less_is, length-set chunks (i + 1) (remove q 0)) in
      let here : chunk_at less i ≡ p = ap (λ xs. chunk_at xs i) less_is ∙ get_or-set_other chunks (i + 1) i (remove q 0) [] ne in
      let now : insert (chunk_at less i) end item ≡ p ++ take 1 q =
      ap (λ xs. insert xs end item) here ∙ ap (λ k. insert p k item) end_is ∙ insert_end p item ∙ ap (λ xs. p ++ xs) (sym (first_of q item some item_is)) in
      let front : take i less ≡ take i chunks = ap (take i) less_is ∙ take-set-le i chunks (i + 1) (remove q 0) (omega arith) in
      let rest : drop (suc i) less ≡ drop 1 q ∷ drop (i + 2) chunks =
      ap (λ k. drop k less) one ∙ ap (drop (i + 1)) less_is ∙ drop-set chunks (i + 1) (remove q 0) lt ∙ ap (λ k. remove q 0 ∷ drop k chunks) two in
      new_is
      ∙ set_split less i (insert (chunk_at less i) end item) within
      ∙ ap (λ xs. xs ++ insert (chunk_at less i) end item ∷ drop (suc i) less) front
      ∙ ap (λ x. take i chunks ++ x ∷ drop (suc i) less) now
      ∙ ap (λ xs. take i chunks ++ (p ++ take 1 q) ∷ xs) rest
    where
      first_of : (xs : List T) (x : T) → 0 < length xs → x ≡ get_or xs 0 x → take 1 xs ≡ x ∷ []
      first_of [] x h is = absurd (omega (arith, h))
      first_of (y ∷ ys) x h is = ap (λ z. z ∷ []) (sym is)

  -- ---- dense chunks

  abbrev AllLeast : List (List T) → Type 0
  AllLeast chunks = AllByRecursion (λ p. LEAST ≤ length p) chunks

  pub dense_front : (chunks : List (List T)) (i : ℕ) → i < length chunks → IsDense chunks → AllLeast (take i chunks)
  dense_front [] i lt dense = absurd (omega (arith, lt))
  dense_front (p ∷ ps) zero lt dense = tt
  dense_front (p ∷ ps) (suc i) lt dense = (dense.0 (omega (arith, lt)), dense_front ps i (omega (arith, lt)) dense.1)

  pub dense_here : (chunks : List (List T)) (i : ℕ) → i + 1 < length chunks → IsDense chunks → LEAST ≤ length (chunk_at chunks i)
  dense_here [] i lt dense = absurd (omega (arith, lt))
  dense_here (p ∷ ps) zero lt dense = dense.0 (omega (arith, lt))
  dense_here (p ∷ ps) (suc i) lt dense = dense_here ps i (omega (arith, lt)) dense.1

  pub dense_rest : (chunks : List (List T)) (i : ℕ) → IsDense chunks → IsDense (drop i chunks)
  dense_rest chunks zero dense = dense
  dense_rest [] (suc i) dense = tt
  dense_rest (p ∷ ps) (suc i) dense = dense_rest ps i dense.1

  pub dense_join : (before : List (List T)) (p : List T) (after : List (List T)) → AllLeast before → IsDense (p ∷ after) → IsDense (before ++ p ∷ after)
  dense_join [] p after full dense = dense
  dense_join (q ∷ qs) p after full dense = ((λ h. full.0), dense_join qs p after full.1 dense)

  pub dense_count : (chunks : List (List T)) → IsDense chunks → LEAST * length chunks ≤ length (chunk_items chunks) + LEAST
  dense_count [] dense = omega arith
  dense_count (p ∷ []) dense = omega arith
  dense_count (p ∷ q ∷ ps) dense =
      let more : LEAST * length (q ∷ ps) ≤ length (chunk_items (q ∷ ps)) + LEAST = dense_count (q ∷ ps) dense.1 in
      let here : LEAST ≤ length p = dense.0 (omega arith) in
      omega (arith, more, here, length-append p (chunk_items (q ∷ ps)))

  -- ---- the items of chunks

  pub items_append : (xs ys : List (List T)) → chunk_items (xs ++ ys) ≡ chunk_items xs ++ chunk_items ys
  items_append xs ys = flat_map-append (λ p. p) xs ys

  pub items_split : (chunks : List (List T)) (i : ℕ) → i < length chunks → chunk_items chunks ≡ chunk_items (take i chunks) ++ (chunk_at chunks i ++ chunk_items (drop (i + 1) chunks))
  items_split chunks i lt = ap chunk_items (chunks_split chunks i lt) ∙ items_append (take i chunks) (chunk_at chunks i ∷ drop (i + 1) chunks)

  -- a chunk cut in two has the same items
  pub items_two : (before after : List (List T)) (p a b : List T) → a ++ b ≡ p → chunk_items (before ++ (a ∷ b ∷ after)) ≡ chunk_items before ++ (p ++ chunk_items after)
  items_two before after p a b is =
      items_append before (a ∷ b ∷ after) ∙ ap (λ x. chunk_items before ++ x) (sym (append_assoc a b (chunk_items after)) ∙ ap (λ x. x ++ chunk_items after) is)

  -- ---- an opened place

  pub opened_same : (chunks : List (List T)) (chunk offset : ℕ) → chunk < length chunks → offset ≤ length (chunk_at chunks chunk) → length (chunk_at chunks chunk) < MOST → IsDense chunks → IsOpenedAt chunks chunks chunk offset chunk offset
  opened_same chunks chunk offset lt le short dense = record { chunk_in = lt; offset_in = le; short = short; items = refl; position = refl; dense = dense }

  pub left_two : (before after : List (List T)) (p a b : List T) (chunk offset : ℕ) → length before ≡ chunk → a ++ b ≡ p → offset ≤ length a → length a < MOST → AllLeast before → IsDense (a ∷ b ∷ after) → IsOpenedAt (before ++ p ∷ after) (before ++ a ∷ b ∷ after) chunk offset chunk offset
  left_two before after p a b chunk offset len is off short full dense =
      let here : chunk_at (before ++ a ∷ b ∷ after) chunk ≡ a = get_or_at before a (b ∷ after) [] chunk len in
      let n = ap length here in
      record {
        chunk_in = omega (arith, length-append before (a ∷ b ∷ after));
        offset_in = omega (arith, n);
        short = omega (arith, n);
        items = items_two before after p a b is ∙ sym (items_append before (p ∷ after));
        position = ap (λ xs. length (chunk_items xs) + offset) (take_at before (a ∷ b ∷ after) chunk len ∙ sym (take_at before (p ∷ after) chunk len));
        dense = dense_join before a (b ∷ after) full dense;
      }

  pub right_two : (before after : List (List T)) (p a b : List T) (chunk offset : ℕ) → length before ≡ chunk → a ++ b ≡ p → length a ≤ offset → offset ≤ length p → length b < MOST → AllLeast before → IsDense (a ∷ b ∷ after) → IsOpenedAt (before ++ p ∷ after) (before ++ a ∷ b ∷ after) chunk offset (chunk + 1) (offset - length a)
  right_two before after p a b chunk offset len is off within short full dense =
      let here : chunk_at (before ++ a ∷ b ∷ after) (chunk + 1) ≡ b = ap (λ n. chunk_at (before ++ a ∷ b ∷ after) (n + 1)) (sym len) ∙ get_or-append-add before (a ∷ b ∷ after) 1 [] in
      let n = ap length here in
      let both = ap length is in
      let more : length (before ++ a ∷ []) ≡ chunk + 1 = omega (arith, length-append before (a ∷ [])) in
      let front : take (chunk + 1) (before ++ a ∷ b ∷ after) ≡ before ++ a ∷ [] = ap (take (chunk + 1)) (sym (append_assoc before (a ∷ []) (b ∷ after))) ∙ take_at (before ++ a ∷ []) (b ∷ after) (chunk + 1) more in
      let size = ap (λ xs. length (chunk_items xs)) front in
      let size_old = ap (λ xs. length (chunk_items xs)) (take_at before (p ∷ after) chunk len) in
      record {
        chunk_in = omega (arith, length-append before (a ∷ b ∷ after));
        offset_in = omega (arith, n, both, length-append a b);
        short = omega (arith, n);
        items = items_two before after p a b is ∙ sym (items_append before (p ∷ after));
        position = omega (arith, size, size_old, ap length (items_append before (a ∷ [])), length-append (chunk_items before) (a ++ []), length-append a []);
        dense = dense_join before a (b ∷ after) full dense;
      }

  two_dense : (chunks : List (List T)) (chunk keep : ℕ) → chunk < length chunks → keep ≤ length (chunk_at chunks chunk) → LEAST ≤ keep → (chunk + 1 < length chunks → LEAST + keep ≤ length (chunk_at chunks chunk)) → IsDense chunks → IsDense (take keep (chunk_at chunks chunk) ∷ drop keep (chunk_at chunks chunk) ∷ drop (chunk + 1) chunks)
  two_dense chunks chunk keep lt le least rest dense = (
    (λ _. omega (arith, length-take-le keep (chunk_at chunks chunk) le)),
    (
      (λ h. (let more : chunk + 1 < length chunks = omega (arith, h, length-drop (chunk + 1) chunks) in omega (arith, rest more, length-drop keep (chunk_at chunks chunk)))),
      dense_rest chunks (chunk + 1) dense,
    ),
  )

  pub opened_left : (chunks : List (List T)) (chunk offset keep : ℕ) → chunk < length chunks → keep ≤ length (chunk_at chunks chunk) → offset ≤ keep → keep < MOST → LEAST ≤ keep → (chunk + 1 < length chunks → LEAST + keep ≤ length (chunk_at chunks chunk)) → IsDense chunks → IsOpenedAt chunks (replaced chunks chunk 1 (take keep (chunk_at chunks chunk) ∷ drop keep (chunk_at chunks chunk) ∷ [])) chunk offset chunk offset
  opened_left chunks chunk offset keep lt le off short least rest dense =
      let p : List T = chunk_at chunks chunk in
      let n = length-take-le keep p le in
      subst (λ xs. IsOpenedAt xs (replaced chunks chunk 1 (take keep p ∷ drop keep p ∷ [])) chunk offset chunk offset) (sym (chunks_split chunks chunk lt))
      (left_two (take chunk chunks) (drop (chunk + 1) chunks) p (take keep p) (drop keep p) chunk offset (length-take-le chunk chunks (omega arith)) (take-append-drop keep p) (omega (arith, n)) (omega (arith, n)) (dense_front chunks chunk lt dense) (two_dense chunks chunk keep lt le least rest dense))

  pub opened_right : (chunks : List (List T)) (chunk offset keep : ℕ) → chunk < length chunks → keep ≤ length (chunk_at chunks chunk) → keep ≤ offset → offset ≤ length (chunk_at chunks chunk) → length (chunk_at chunks chunk) < MOST + keep → LEAST ≤ keep → (chunk + 1 < length chunks → LEAST + keep ≤ length (chunk_at chunks chunk)) → IsDense chunks → IsOpenedAt chunks (replaced chunks chunk 1 (take keep (chunk_at chunks chunk) ∷ drop keep (chunk_at chunks chunk) ∷ [])) chunk offset (chunk + 1) (offset - keep)
  opened_right chunks chunk offset keep lt le off within short least rest dense =
      let p : List T = chunk_at chunks chunk in
      let n = length-take-le keep p le in
      let opened = right_two (take chunk chunks) (drop (chunk + 1) chunks) p (take keep p) (drop keep p) chunk offset (length-take-le chunk chunks (omega arith)) (take-append-drop keep p) (omega (arith, n)) within (omega (arith, length-drop keep p)) (dense_front chunks chunk lt dense) (two_dense chunks chunk keep lt le least rest dense) in
      subst (λ m. IsOpenedAt chunks (replaced chunks chunk 1 (take keep p ∷ drop keep p ∷ [])) chunk offset (chunk + 1) (offset - m)) n
      (subst (λ xs. IsOpenedAt xs (replaced chunks chunk 1 (take keep p ∷ drop keep p ∷ [])) chunk offset (chunk + 1) (offset - length (take keep p))) (sym (chunks_split chunks chunk lt)) opened)

  -- the place after a full last chunk is that of a new one
  pub opened_end : (chunks : List (List T)) (chunk offset : ℕ) → chunk < length chunks → offset ≡ MOST → length (chunk_at chunks chunk) ≡ MOST → chunk + 1 ≡ length chunks → IsDense chunks → IsOpenedAt chunks (replaced chunks chunk 1 (take MOST (chunk_at chunks chunk) ∷ drop MOST (chunk_at chunks chunk) ∷ [])) chunk offset (chunk + 1) 0
  opened_end chunks chunk offset lt off size last dense =
      let none : offset - MOST ≡ 0 = omega arith in
      subst (λ n. IsOpenedAt chunks (replaced chunks chunk 1 (take MOST (chunk_at chunks chunk) ∷ drop MOST (chunk_at chunks chunk) ∷ [])) chunk offset (chunk + 1) n) none
      (opened_right chunks chunk offset MOST lt (omega arith) (omega arith) (omega arith) (omega arith) (omega arith) (λ h. absurd (omega (arith, h))) dense)

  -- ---- a chunk that lacks an item

  pub next_split : (chunks : List (List T)) (i : ℕ) → i + 1 < length chunks → drop (i + 1) chunks ≡ chunk_at chunks (i + 1) ∷ drop (i + 2) chunks
  next_split chunks i lt = let two : i + 1 + 1 ≡ i + 2 = omega arith in drop_more chunks (i + 1) [] lt ∙ ap (λ n. chunk_at chunks (i + 1) ∷ drop n chunks) two

  -- two chunks give way to others with the same items
  pub items_pair : (chunks : List (List T)) (i : ℕ) (others : List (List T)) → i + 1 < length chunks → chunk_items others ≡ chunk_at chunks i ++ chunk_at chunks (i + 1) → chunk_items (replaced chunks i 2 others) ≡ chunk_items chunks
  items_pair chunks i others lt same =
      let rest : List (List T) = drop (i + 2) chunks in
      items_append (take i chunks) (others ++ rest)
      ∙ ap (λ xs. chunk_items (take i chunks) ++ xs) (items_append others rest ∙ ap (λ xs. xs ++ chunk_items rest) same ∙ append_assoc (chunk_at chunks i) (chunk_at chunks (i + 1)) (chunk_items rest) ∙ ap (λ xs. chunk_at chunks i ++ xs) (sym (ap chunk_items (next_split chunks i lt))))
      ∙ sym (items_split chunks i (omega arith))

  pub joined_dense : (chunks : List (List T)) (i : ℕ) → i + 1 < length chunks → LacksOne chunks i → IsDense (replaced chunks i 2 ((chunk_at chunks i ++ chunk_at chunks (i + 1)) ∷ []))
  joined_dense chunks i lt short =
      let after = subst IsDense (next_split chunks i lt) short.after in
      dense_join (take i chunks) (chunk_at chunks i ++ chunk_at chunks (i + 1)) (drop (i + 2) chunks) short.before
      ((λ h. omega (arith, after.0 h, length-append (chunk_at chunks i) (chunk_at chunks (i + 1)))), after.1)

  pub shifted_dense : (chunks : List (List T)) (i : ℕ) → i + 1 < length chunks → LacksOne chunks i → length (chunk_at chunks i) < LEAST → MOST < length (chunk_at chunks i) + length (chunk_at chunks (i + 1)) → IsDense (replaced chunks i 2 ((chunk_at chunks i ++ take 1 (chunk_at chunks (i + 1))) ∷ drop 1 (chunk_at chunks (i + 1)) ∷ []))
  shifted_dense chunks i lt short few many =
      let p : List T = chunk_at chunks i in
      let q : List T = chunk_at chunks (i + 1) in
      let after = subst IsDense (next_split chunks i lt) short.after in
      dense_join (take i chunks) (p ++ take 1 q) (drop 1 q ∷ drop (i + 2) chunks) short.before
      ((λ h. omega (arith, short.here lt, length-append p (take 1 q), length-take-le 1 q (omega arith))), ((λ h. omega (arith, length-drop 1 q)), after.1))

  pub last_dense : (chunks : List (List T)) (i : ℕ) → i < length chunks → length chunks ≤ i + 1 → LacksOne chunks i → IsDense chunks
  last_dense chunks i lt last short =
      let none : drop (i + 1) chunks ≡ [] = drop_all (i + 1) chunks last in
      let is : chunks ≡ take i chunks ++ chunk_at chunks i ∷ [] = chunks_split chunks i lt ∙ ap (λ xs. take i chunks ++ (chunk_at chunks i ∷ xs)) none in
      subst IsDense (sym is) (dense_join (take i chunks) (chunk_at chunks i) [] short.before ((λ h. absurd (omega (arith, h))), tt))

  -- ---- one chunk changed

  pub items_set : (chunks : List (List T)) (i : ℕ) (p : List T) → i < length chunks → chunk_items (set chunks i p) ≡ chunk_items (take i chunks) ++ (p ++ chunk_items (drop (i + 1) chunks))
  items_set chunks i p lt =
      let one : suc i ≡ i + 1 = omega arith in
      ap chunk_items (set_split chunks i p lt ∙ ap (λ n. take i chunks ++ (p ∷ drop n chunks)) one) ∙ items_append (take i chunks) (p ∷ drop (i + 1) chunks)

  pub inserted : (chunks : List (List T)) (i offset : ℕ) (x : T) → i < length chunks → offset ≤ length (chunk_at chunks i) → chunk_items (set chunks i (insert (chunk_at chunks i) offset x)) ≡ insert (chunk_items chunks) (length (chunk_items (take i chunks)) + offset) x
  inserted chunks i offset x lt le =
      let p : List T = chunk_at chunks i in
      let before : List T = chunk_items (take i chunks) in
      let after : List T = chunk_items (drop (i + 1) chunks) in
      let at : length before + offset - length before ≡ offset = omega arith in
      items_set chunks i (insert p offset x) lt
      ∙ sym (ap (λ xs. insert xs (length before + offset) x) (items_split chunks i lt) ∙ insert-append_right before (p ++ after) (length before) (length before + offset) x refl (omega arith) ∙ ap (λ n. before ++ insert (p ++ after) n x) at ∙ ap (λ xs. before ++ xs) (insert-append_left p after offset x le))

  pub removed : (chunks : List (List T)) (i offset : ℕ) → i < length chunks → offset < length (chunk_at chunks i) → chunk_items (set chunks i (remove (chunk_at chunks i) offset)) ≡ remove (chunk_items chunks) (length (chunk_items (take i chunks)) + offset)
  removed chunks i offset lt less =
      let p : List T = chunk_at chunks i in
      let before : List T = chunk_items (take i chunks) in
      let after : List T = chunk_items (drop (i + 1) chunks) in
      let at : length before + offset - length before ≡ offset = omega arith in
      items_set chunks i (remove p offset) lt
      ∙ sym (ap (λ xs. remove xs (length before + offset)) (items_split chunks i lt) ∙ remove-append_right before (p ++ after) (length before) (length before + offset) refl (omega arith) ∙ ap (λ n. before ++ remove (p ++ after) n) at ∙ ap (λ xs. before ++ xs) (remove-append_left p after offset less))

  pub written : (chunks : List (List T)) (i offset : ℕ) (x : T) → i < length chunks → offset < length (chunk_at chunks i) → chunk_items (set chunks i (set (chunk_at chunks i) offset x)) ≡ set (chunk_items chunks) (length (chunk_items (take i chunks)) + offset) x
  written chunks i offset x lt less =
      let p : List T = chunk_at chunks i in
      let before : List T = chunk_items (take i chunks) in
      let after : List T = chunk_items (drop (i + 1) chunks) in
      let at : length before + offset - length before ≡ offset = omega arith in
      items_set chunks i (set p offset x) lt
      ∙ sym (ap (λ xs. set xs (length before + offset) x) (items_split chunks i lt) ∙ set-append_right before (p ++ after) (length before) (length before + offset) x refl (omega arith) ∙ ap (λ n. before ++ set (p ++ after) n x) at ∙ ap (λ xs. before ++ xs) (set-append_left p after offset x less))

  pub item_at : (chunks : List (List T)) (i offset : ℕ) (d : T) → i < length chunks → offset < length (chunk_at chunks i) → get_or (chunk_items chunks) (length (chunk_items (take i chunks)) + offset) d ≡ get_or (chunk_at chunks i) offset d
  item_at chunks i offset d lt less = get_or-flat_map (λ p. p) chunks i offset [] d lt less

  -- ---- sizes

  pub sizes_length : (chunks : List (List T)) (sizes : List ℕ) → map (λ p. length p) chunks ≡ sizes → length sizes ≡ length chunks
  sizes_length chunks sizes is = ap length (sym is) ∙ length-map chunks (λ p. length p)

  pub sizes_at : (chunks : List (List T)) (sizes : List ℕ) (i : ℕ) → map (λ p. length p) chunks ≡ sizes → i < length chunks → get_or sizes i 0 ≡ length (chunk_at chunks i)
  sizes_at chunks sizes i is lt = ap (λ xs. get_or xs i 0) (sym is) ∙ get_or-map (λ p. length p) chunks i [] 0 lt

  pub sizes_start : (chunks : List (List T)) (sizes : List ℕ) (i : ℕ) → map (λ p. length p) chunks ≡ sizes → start_of sizes i ≡ length (chunk_items (take i chunks))
  sizes_start chunks sizes i is =
      ap (λ xs. start_of xs i) (sym is)
      ∙ ap sum (take-map (λ p. length p) i chunks)
      ∙ sum-map (λ p. length p) (take i chunks)
      ∙ sym (length-flat_map (λ p. p) (take i chunks))

  -- a place of a list in its chunks
  pub record IsIn (chunks : List (List T)) (at offset position : ℕ) : Type 0 where
    pub chunk_in : at < length chunks
    pub offset_in : offset ≤ length (chunk_at chunks at)
    pub position_is : position ≡ length (chunk_items (take at chunks)) + offset

  pub place_in : (chunks : List (List T)) (sizes : List ℕ) (place : Place) → map (λ p. length p) chunks ≡ sizes → IsPlace sizes place → IsIn chunks place.chunk place.offset (position_of sizes place)
  place_in chunks sizes place is h =
      let n = sizes_length chunks sizes is in
      let lt : place.chunk < length chunks = omega (arith, h.chunk) in
      let size = sizes_at chunks sizes place.chunk is lt in
      record { chunk_in = lt; offset_in = omega (arith, h.offset); position_is = ap (λ n. n + place.offset) (sizes_start chunks sizes place.chunk is) }

  pub item_in : (chunks : List (List T)) (sizes : List ℕ) (place : Place) → map (λ p. length p) chunks ≡ sizes → HasItem sizes place → IsIn chunks place.chunk place.offset (position_of sizes place) × (place.offset < length (chunk_at chunks place.chunk))
  item_in chunks sizes place is h =
      let n = sizes_length chunks sizes is in
      let lt : place.chunk < length chunks = omega (arith, h.chunk) in
      let size = sizes_at chunks sizes place.chunk is lt in
      (place_in chunks sizes place is (record { chunk = h.chunk; offset = omega (arith, h.offset) }), omega (arith, h.offset))

  -- ---- an insert

  pub dense_set : (chunks : List (List T)) (i : ℕ) (p : List T) → (i + 1 < length chunks → LEAST ≤ length p) → IsDense chunks → IsDense (set chunks i p)
  dense_set [] i p more dense = tt
  dense_set (q ∷ qs) zero p more dense = ((λ h. more (omega (arith, h))), dense.1)
  dense_set (q ∷ qs) (suc i) p more dense = ((λ h. dense.0 (omega (arith, h, length-set qs i p))), dense_set qs i p (λ h. more (omega (arith, h))) dense.1)

  pub opened_inserted : (old new : List (List T)) (at offset at' offset' : ℕ) (x : T) → IsOpenedAt old new at offset at' offset' → chunk_items (set new at' (insert (chunk_at new at') offset' x)) ≡ insert (chunk_items old) (length (chunk_items (take at old)) + offset) x
  opened_inserted old new at offset at' offset' x opened =
      inserted new at' offset' x opened.chunk_in opened.offset_in ∙ ap (λ n. insert (chunk_items new) n x) opened.position ∙ ap (λ xs. insert xs (length (chunk_items (take at old)) + offset) x) opened.items

  -- where there is room for one more item, there may be one more chunk
  pub spare_left : (chunks : List (List T)) (most count room : ℕ) → AreChunks chunks most count room → length (chunk_items chunks) < room → length chunks < most
  spare_left chunks most count room sound less = omega (arith, dense_count chunks sound.dense, sound.total, less)

  pub sound_inserted : (old new : List (List T)) (most count room most' at offset at' offset' : ℕ) (x : T) → AreChunks old most count room → length (chunk_items old) < room → IsOpenedAt old new at offset at' offset' → most' ≡ most → length (chunk_items (take at old)) + offset ≤ length (chunk_items old) → AreChunks (set new at' (insert (chunk_at new at') offset' x)) most' (count + 1) room
  sound_inserted old new most count room most' at offset at' offset' x sound less opened same within =
      let n = ap length (opened_inserted old new at offset at' offset' x opened) in
      let m = length-insert (chunk_items old) (length (chunk_items (take at old)) + offset) x within in
      let k = length-set new at' (insert (chunk_at new at') offset' x) in
      record {
        some = omega (arith, opened.chunk_in, k);
        dense = dense_set new at' (insert (chunk_at new at') offset' x) (λ h. omega (arith, dense_here new at' h opened.dense, length-insert (chunk_at new at') offset' x opened.offset_in)) opened.dense;
        total = omega (arith, same, sound.total);
        len = omega (arith, n, m, sound.len);
        within = omega (arith, n, m);
      }

  -- ---- a removal

  pub short_after : (chunks : List (List T)) (i : ℕ) (p : List T) → i < length chunks → length p + 1 ≡ length (chunk_at chunks i) → IsDense chunks → LacksOne (set chunks i p) i
  short_after chunks i p lt one dense =
      let same : take i (set chunks i p) ≡ take i chunks = take-set-le i chunks i p (omega arith) in
      let here : chunk_at (set chunks i p) i ≡ p = get_or-set_same chunks i p [] lt in
      let rest : drop (i + 1) (set chunks i p) ≡ drop (i + 1) chunks = drop-set-lt (i + 1) chunks i p (omega arith) in
      record {
        before = subst AllLeast (sym same) (dense_front chunks i lt dense);
        here = λ h. omega (arith, ap length here, dense_here chunks i (omega (arith, h, length-set chunks i p)) dense);
        after = subst IsDense (sym rest) (dense_rest chunks (i + 1) dense);
      }
