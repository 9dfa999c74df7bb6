-- The changes of one chunk, as what is written in its bay.
use Rattle.std.proofs.Common.{◌≡◌, ℕ, ◌+◌, ◌-◌, ◌<◌, ◌≤◌, List, ◌∷◌, ◌++◌, length, set, take, drop, refl, sym, ap, ◌∙◌, arith, inl, inr}
use Rattle.std.specs.List.{insert, remove}
use Rattle.std.proofs.lemmas.Bool.{cases_lt}
use Rattle.std.proofs.lemmas.List.{length-append, length-set, length-drop, length-take-le, set-get_or}
use Rattle.std.proofs.lemmas.List.Edits.{length-insert, length-remove}
use Rattle.chunk_list.specs.Chunks.{chunk_at}
use Rattle.chunk_list.specs.Shelves.{stretch, written, IsSpan}
use Rattle.chunk_list.specs.declared.span.TheConstants.{MOST}
use Rattle.chunk_list.specs.declared.span.Span.{Span}
use Rattle.chunk_list.proofs.Stretches.{written_none, take_stretch, drop_stretch, insert_written, remove_written, set_in_stretch, append_written}
use Rattle.chunk_list.proofs.Shelves.{IsRead, IsChange}

module _ {T : Type 0} where
  pub truncated : (xs : List T) (spans : List Span) (i : ℕ) (s : Span) (v : List (List T)) (keep : ℕ) → IsRead xs spans i s v → keep ≤ length (chunk_at v i) → IsChange xs xs spans (set spans i (record { first = s.first; len = keep })) i s (record { first = s.first; len = keep }) (take keep (chunk_at v i))
  truncated xs spans i s v keep r le =
      let size = length-take-le keep (chunk_at v i) le in
      record {
        lt = r.lt;
        is = r.is;
        first = refl;
        len = sym size;
        short = omega (arith, size, le, r.len, r.span_is.short);
        within = omega (arith, size, le, r.len, r.span_is.within);
        places = sym (ap (written xs s.first) (ap (take keep) r.items ∙ take_stretch xs s.first s.len keep (omega (arith, le, r.len))) ∙ written_none xs s.first keep (omega (arith, le, r.len, r.span_is.within)));
        spans_are = refl;
      }

  pub set_at_offset : (xs ys : List T) (spans : List Span) (i : ℕ) (s : Span) (v : List (List T)) (offset : ℕ) (x : T) → IsRead xs spans i s v → offset < length (chunk_at v i) → ys ≡ set xs (s.first + offset) x → IsChange xs ys spans spans i s s (set (chunk_at v i) offset x)
  set_at_offset xs ys spans i s v offset x r lt is =
      let size = length-set (chunk_at v i) offset x in
      record {
        lt = r.lt;
        is = r.is;
        first = refl;
        len = sym (size ∙ r.len);
        short = omega (arith, size, r.len, r.span_is.short);
        within = omega (arith, size, r.len, r.span_is.within);
        places = is ∙ set_in_stretch xs s.first s.len offset x (omega (arith, lt, r.len)) r.span_is.within ∙ ap (λ p. written xs s.first (set p offset x)) (sym r.items);
        spans_are = sym (ap (set spans i) r.is ∙ set-get_or spans i s);
      }

  pub inserted : (xs ys : List T) (spans : List Span) (i : ℕ) (s : Span) (v : List (List T)) (offset : ℕ) (x : T) → IsRead xs spans i s v → offset ≤ length (chunk_at v i) → length (chunk_at v i) < MOST → s.first + MOST ≤ length xs → ys ≡ written xs (s.first + offset) (x ∷ stretch xs (s.first + offset) (s.len - offset)) → IsChange xs ys spans (set spans i (record { first = s.first; len = s.len + 1 })) i s (record { first = s.first; len = s.len + 1 }) (insert (chunk_at v i) offset x)
  inserted xs ys spans i s v offset x r le short whole is =
      let size = length-insert (chunk_at v i) offset x le in
      record {
        lt = r.lt;
        is = r.is;
        first = refl;
        len = omega (arith, size, r.len);
        short = omega (arith, size, short);
        within = omega (arith, size, short, whole);
        places = is ∙ insert_written xs s.first s.len offset x (omega (arith, le, r.len)) (omega (arith, short, whole, r.len)) ∙ ap (λ p. written xs s.first (insert p offset x)) (sym r.items);
        spans_are = refl;
      }

  pub removed : (xs ys : List T) (spans : List Span) (i : ℕ) (s : Span) (v : List (List T)) (offset : ℕ) → IsRead xs spans i s v → offset < length (chunk_at v i) → ys ≡ written xs (s.first + offset) (stretch xs (s.first + offset + 1) (s.len - 1 - offset)) → IsChange xs ys spans (set spans i (record { first = s.first; len = s.len - 1 })) i s (record { first = s.first; len = s.len - 1 }) (remove (chunk_at v i) offset)
  removed xs ys spans i s v offset r lt is =
      let size = length-remove (chunk_at v i) offset lt in
      record {
        lt = r.lt;
        is = r.is;
        first = refl;
        len = omega (arith, size, r.len);
        short = omega (arith, size, r.len, r.span_is.short);
        within = omega (arith, size, r.len, r.span_is.within);
        places = is ∙ remove_written xs s.first s.len offset (omega (arith, lt, r.len)) r.span_is.within ∙ ap (λ p. written xs s.first (remove p offset)) (sym r.items);
        spans_are = refl;
      }

  -- places for items that come from another bay
  room_for : (xs : List T) (s t : Span) (n : ℕ) → IsSpan xs s → IsSpan xs t → n ≤ s.len → t.first + n ≤ length xs
  room_for xs s t n is it le = elim (cases_lt 0 (length xs)) [
    | inl some ↦ omega (arith, it.whole some, is.short, le)
    | inr none ↦ omega (arith, none, is.within, it.within, le)
  ]

  pub copied_on : (xs ys : List T) (spans : List Span) (i j : ℕ) (s t : Span) (v : List (List T)) (keep : ℕ) → IsRead xs spans i s v → IsRead xs spans j t v → keep ≤ length (chunk_at v i) → ys ≡ written xs t.first (stretch xs (s.first + keep) (s.len - keep)) → IsChange xs ys spans (set spans j (record { first = t.first; len = s.len - keep })) j t (record { first = t.first; len = s.len - keep }) (drop keep (chunk_at v i))
  copied_on xs ys spans i j s t v keep r q le is =
      let size = length-drop keep (chunk_at v i) in
      record {
        lt = q.lt;
        is = q.is;
        first = refl;
        len = omega (arith, size, r.len);
        short = omega (arith, size, r.len, r.span_is.short);
        within = omega (arith, size, r.len, room_for xs s t (s.len - keep) r.span_is q.span_is (omega arith));
        places = is ∙ ap (written xs t.first) (sym (ap (drop keep) r.items ∙ drop_stretch xs s.first s.len keep (omega (arith, le, r.len))));
        spans_are = refl;
      }

  room_behind : (xs : List T) (s t : Span) → IsSpan xs s → IsSpan xs t → s.len + t.len ≤ MOST → s.first + (s.len + t.len) ≤ length xs
  room_behind xs s t is it few = elim (cases_lt 0 (length xs)) [
    | inl some ↦ omega (arith, is.whole some, few)
    | inr none ↦ omega (arith, none, is.within, it.within)
  ]

  pub appended : (xs ys : List T) (spans : List Span) (i j : ℕ) (s t : Span) (v : List (List T)) → IsRead xs spans i s v → IsRead xs spans j t v → length (chunk_at v i) + length (chunk_at v j) ≤ MOST → ys ≡ written xs (s.first + s.len) (stretch xs t.first t.len) → IsChange xs ys spans (set spans i (record { first = s.first; len = s.len + t.len })) i s (record { first = s.first; len = s.len + t.len }) (chunk_at v i ++ chunk_at v j)
  appended xs ys spans i j s t v r q few is =
      let size = length-append (chunk_at v i) (chunk_at v j) in
      record {
        lt = r.lt;
        is = r.is;
        first = refl;
        len = omega (arith, size, r.len, q.len);
        short = omega (arith, size, few);
        within = omega (arith, size, r.len, q.len, room_behind xs s t r.span_is q.span_is (omega (arith, few, r.len, q.len)));
        places = is ∙ append_written xs s.first s.len (stretch xs t.first t.len) r.span_is.within ∙ ap (λ p. written xs s.first (p ++ stretch xs t.first t.len)) (sym r.items) ∙ ap (λ p. written xs s.first (chunk_at v i ++ p)) (sym q.items);
        spans_are = refl;
      }
