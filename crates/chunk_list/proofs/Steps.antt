-- A walk's steps over places.
use Rattle.std.proofs.Common.{◌≡◌, ℕ, suc, ◌+◌, ◌-◌, ◌<◌, ◌≤◌, List, [], ◌∷◌, ◌++◌, length, get_or, take, drop, refl, sym, ap, subst, ◌∙◌, arith}
use Rattle.std.specs.List.{AllByRecursion}
use Rattle.std.proofs.lemmas.List.{length-append, length-drop, drop_more, drop-map, drop-append-le}
use Rattle.chunk_list.specs.Chunks.{chunk_items, chunk_at, IsDense}
use Rattle.chunk_list.specs.Shelves.{span_items, chunks_in, IsSpan, HasLeft}
use Rattle.chunk_list.specs.declared.span.Span.{Span}
use Rattle.chunk_list.proofs.Chunks.{dense_rest}
use Rattle.chunk_list.proofs.Walks.{first_some}
use Rattle.chunk_list.proofs.Shelves.{all_at, all_drop, chunks_count}

module _ {T : Type 0} where
  -- some items are at hand, and they are the next of those that were left
  pub record IsAtHand (places at_hand : List T) (spans : List Span) (left : ℕ) (places' at_hand' : List T) (spans' : List Span) (left' : ℕ) : Type 0 where
    pub places_are : places' ≡ places
    pub left_is : left' ≡ left
    pub same : at_hand ++ chunk_items (chunks_in places spans) ≡ at_hand' ++ chunk_items (chunks_in places spans')
    pub has : HasLeft places at_hand' spans' left
    pub some : 0 < length at_hand'

  -- no item is at hand, so there is a chunk, and it has one
  pub some_span : (places at_hand : List T) (spans : List Span) (left : ℕ) → HasLeft places at_hand spans left → 0 < left → length at_hand ≡ 0 → (0 < length spans) × (0 < length (chunk_at (chunks_in places spans) 0))
  some_span places at_hand spans left has some none =
      let first = first_some (chunks_in places spans) left has.dense some (omega (arith, has.enough, none)) in
      (omega (arith, first.0, chunks_count places spans), first.1)

  -- the same of that chunk's span
  pub record HasNext (places : List T) (spans : List Span) (d : Span) : Type 0 where
    pub some : 0 < length spans
    pub span_is : IsSpan places (get_or spans 0 d)

  pub next_span : {places at_hand : List T} {spans : List Span} {left : ℕ} (d : Span) → HasLeft places at_hand spans left → 0 < left → length at_hand ≡ 0 → HasNext places spans d
  next_span {places} {at_hand} {spans} {left} d has some none =
      let first = some_span places at_hand spans left has some none in
      record { some = first.0; span_is = all_at (IsSpan places) spans 0 d first.0 has.spans_are }

  -- the items of the next chunk come to hand
  pub hand_next : (places at_hand : List T) (spans : List Span) (left : ℕ) (d : Span) (places' at_hand' : List T) (spans' : List Span) (left' : ℕ) → HasLeft places at_hand spans left → 0 < left → length at_hand ≡ 0 → places' ≡ places → at_hand' ≡ span_items places (get_or spans 0 d) → spans' ≡ drop 1 spans → left' ≡ left → IsAtHand places at_hand spans left places' at_hand' spans' left'
  hand_next places (x ∷ at_hand) spans left d places' at_hand' spans' left' has some none kept now rest count = absurd (omega (arith, none))
  hand_next places [] [] left d places' at_hand' spans' left' has some none kept now rest count = absurd (omega (arith, some, has.enough))
  hand_next places [] (o ∷ spans) left d places' at_hand' spans' left' has some none kept now rest count =
      let more = some_span places [] (o ∷ spans) left has some none in
      let size = ap length now in
      subst (λ os. IsAtHand places [] (o ∷ spans) left places' at_hand' os left') (sym rest) (record {
        places_are = kept;
        left_is = count;
        same = ap (λ p. p ++ chunk_items (chunks_in places spans)) (sym now);
        has = record {
          spans_are = has.spans_are.1;
          dense = has.dense.1;
          enough = omega (arith, size, has.enough, length-append (span_items places o) (chunk_items (chunks_in places spans)));
        };
        some = omega (arith, size, more.1);
      })

  pub hand_same : (places at_hand : List T) (spans : List Span) (left : ℕ) (places' at_hand' : List T) (spans' : List Span) (left' : ℕ) → HasLeft places at_hand spans left → 0 < length at_hand → places' ≡ places → at_hand' ≡ at_hand → spans' ≡ spans → left' ≡ left → IsAtHand places at_hand spans left places' at_hand' spans' left'
  hand_same places at_hand spans left places' at_hand' spans' left' has some kept is same count =
      subst (λ os. IsAtHand places at_hand spans left places' at_hand' os left') (sym same)
      (subst (λ xs. IsAtHand places at_hand spans left places' xs spans left') (sym is) (record { places_are = kept; left_is = count; same = refl; has = has; some = some }))

  -- a part of the places, as slices tell it
  pub part_whole : (from count : ℕ) (xs : List T) → take (from + count - from) (drop from xs) ≡ take count (drop from xs)
  part_whole from count xs = let n : from + count - from ≡ count = omega arith in ap (λ k. take k (drop from xs)) n

  take_one : (left : ℕ) (xs ys : List T) (x : T) → 0 < left → 0 < length xs → x ≡ get_or xs 0 x → take left (xs ++ ys) ≡ x ∷ take (left - 1) (drop 1 xs ++ ys)
  take_one left [] ys x some more is = absurd (omega (arith, more))
  take_one left (z ∷ xs) ys x some more is =
      let one : left ≡ suc (left - 1) = omega (arith, some) in
      ap (λ n. take n (z ∷ xs ++ ys)) one ∙ ap (λ y. y ∷ take (left - 1) (xs ++ ys)) (sym is)

  -- the walk goes one item on
  pub gone_on : (places at_hand : List T) (spans : List Span) (left : ℕ) (places' at_hand' : List T) (spans' : List Span) (left' : ℕ) (at_hand'' : List T) (x : T) → IsAtHand places at_hand spans left places' at_hand' spans' left' → 0 < left → x ≡ get_or at_hand' 0 x → at_hand'' ≡ drop 1 at_hand' → (take left (at_hand ++ chunk_items (chunks_in places spans)) ≡ x ∷ take (left' - 1) (at_hand'' ++ chunk_items (chunks_in places' spans'))) × HasLeft places' at_hand'' spans' (left' - 1)
  gone_on places at_hand spans left places' at_hand' spans' left' at_hand'' x hand some is rest =
      subst (λ q. (take left (at_hand ++ chunk_items (chunks_in places spans)) ≡ x ∷ take (left' - 1) (at_hand'' ++ chunk_items (chunks_in q spans'))) × HasLeft q at_hand'' spans' (left' - 1)) (sym hand.places_are)
      (subst (λ n. (take left (at_hand ++ chunk_items (chunks_in places spans)) ≡ x ∷ take (n - 1) (at_hand'' ++ chunk_items (chunks_in places spans'))) × HasLeft places at_hand'' spans' (n - 1)) (sym hand.left_is) (
        ap (take left) hand.same
            ∙ take_one left at_hand' (chunk_items (chunks_in places spans')) x some hand.some is
            ∙ ap (λ xs. x ∷ take (left - 1) (xs ++ chunk_items (chunks_in places spans'))) (sym rest),
        record {
          spans_are = hand.has.spans_are;
          dense = hand.has.dense;
          enough = omega (arith, hand.has.enough, hand.some, ap length rest, length-drop 1 at_hand');
        },
      ))

  -- ---- where a walk begins

  pub left_from : (places items at_hand : List T) (spans spans' : List Span) (v : List (List T)) (chunk offset left : ℕ) → chunks_in places spans ≡ v → AllByRecursion (IsSpan places) spans → IsDense v → chunk < length v → offset ≤ length (chunk_at v chunk) → items ≡ chunk_at v chunk → at_hand ≡ drop offset items → spans' ≡ drop (chunk + 1) spans → offset + left ≤ length (chunk_items (drop chunk v)) → HasLeft places at_hand spans' left × (at_hand ++ chunk_items (chunks_in places spans') ≡ drop offset (chunk_items (drop chunk v)))
  left_from places items at_hand spans spans' v chunk offset left same all dense lt le read hand rest enough =
      let after : chunks_in places spans' ≡ drop (chunk + 1) v = ap (chunks_in places) rest ∙ sym (drop-map (λ s. span_items places s) (chunk + 1) spans) ∙ ap (drop (chunk + 1)) same in
      let p : List T = chunk_at v chunk in
      let others : List T = chunk_items (drop (chunk + 1) v) in
      let split : chunk_items (drop chunk v) ≡ p ++ others = ap chunk_items (drop_more v chunk [] lt) in
      let now : at_hand ≡ drop offset p = hand ∙ ap (drop offset) read in (
        record {
          spans_are = subst (AllByRecursion (IsSpan places)) (sym rest) (all_drop (IsSpan places) spans (chunk + 1) all);
          dense = subst IsDense (sym after) (dense_rest v (chunk + 1) dense);
          enough = omega (arith, enough, ap length split, length-append p others, ap length now, length-drop offset p, ap (λ ps. length (chunk_items ps)) after);
        },
        ap (λ xs. xs ++ chunk_items (chunks_in places spans')) now ∙ ap (λ ps. drop offset p ++ chunk_items ps) after ∙ sym (ap (drop offset) split ∙ drop-append-le offset p others le),
      )
