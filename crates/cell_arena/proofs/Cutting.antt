-- Bytes cut into pieces of 48.
use Rattle.std.proofs.Common.{◌≡◌, ℕ, zero, suc, ◌+◌, ◌-◌, ◌<◌, ◌≤◌, min, List, [], ◌∷◌, ◌++◌, length, take, drop, refl, sym, ap, ◌∙◌, inl, inr, ◌⊎◌, arith}
use Rattle.std.proofs.lemmas.List.{append-nil, append_assoc, length-take, length-drop, length-append, take_min, take_all, take_at, take-append-drop, drop-drop, drop_all, nil_from_length}
use Rattle.std.proofs.lemmas.Bool.{cases_lt}

pub take_both : (n : ℕ) (xs ys : List ℕ) → take n (xs ++ ys) ≡ take n xs ++ take (n - length xs) ys
take_both zero xs ys = let none : 0 ≡ zero - length xs = omega arith in ap (λ k. take k ys) none
take_both (suc n) [] ys = let whole : suc n ≡ suc n - zero = omega arith in ap (λ k. take k ys) whole
take_both (suc n) (x ∷ xs) ys =
    let less : suc n - suc (length xs) ≡ n - length xs = omega arith in
    ap (λ zs. x ∷ zs) (take_both n xs ys) ∙ ap (λ k. x ∷ (take n xs ++ take k ys)) (sym less)

pub drop_both : (n : ℕ) (xs ys : List ℕ) → drop n (xs ++ ys) ≡ drop n xs ++ drop (n - length xs) ys
drop_both zero xs ys = let none : 0 ≡ zero - length xs = omega arith in ap (λ k. xs ++ drop k ys) none
drop_both (suc n) [] ys = let whole : suc n ≡ suc n - zero = omega arith in ap (λ k. drop k ys) whole
drop_both (suc n) (x ∷ xs) ys =
    let less : suc n - suc (length xs) ≡ n - length xs = omega arith in
    drop_both n xs ys ∙ ap (λ k. drop n xs ++ drop k ys) (sym less)

-- a piece before what follows it
pub piece_joined : (piece rest text : List ℕ) (from : ℕ) → length piece ≡ 48 → take (length text - from) piece ≡ take 48 (drop from text) → take (length text - (from + 48)) rest ≡ drop (from + 48) text → take (length text - from) (piece ++ rest) ≡ drop from text
piece_joined piece rest text from size here later =
    let gap : length text - from - length piece ≡ length text - (from + 48) = omega (arith, size) in
    take_both (length text - from) piece rest
    ∙ ap (λ xs. xs ++ take (length text - from - length piece) rest) here
    ∙ ap (λ k. take 48 (drop from text) ++ take k rest) gap
    ∙ ap (λ xs. take 48 (drop from text) ++ xs) (later ∙ sym (drop-drop 48 from text))
    ∙ take-append-drop 48 (drop from text)

-- the front of a key, the front of a value behind it, and what was there
pub whole_piece : (key value left : List ℕ) (n r : ℕ) → n ≡ min 48 (length key) → r ≡ min (48 - n) (length value) → n + r + length left ≡ 48 → take (length key + length value) (take n key ++ (take r value ++ left)) ≡ take 48 (key ++ value)
whole_piece key value left n r is_n is_r size =
    let front : take n key ≡ take 48 key = ap (λ k. take k key) is_n ∙ take_min 48 key in
    let gap : 48 - n ≡ 48 - length key = omega arith in
    let back : take r value ≡ take (48 - length key) value = ap (λ k. take k value) is_r ∙ take_min (48 - n) value ∙ ap (λ k. take k value) gap in
    let text = take n key ++ take r value in
    let long : length text ≡ n + r = length-append (take n key) (take r value) ∙ lengths in
    let total = length key + length value in
    let short : length text ≤ total = omega (arith, long) in
    ap (take total) (sym (append_assoc (take n key) (take r value) left))
    ∙ take_both total text left
    ∙ ap (λ xs. xs ++ take (total - length text) left) (take_all total text short)
    ∙ ap (λ xs. text ++ xs) (nothing (total - length text) (rest_is long))
    ∙ append-nil text
    ∙ ap (λ xs. xs ++ take r value) front
    ∙ ap (λ xs. take 48 key ++ xs) back
    ∙ sym (take_both 48 key value)
  where
    lengths : length (take n key) + length (take r value) ≡ n + r
    lengths = omega (arith, length-take n key, length-take r value)

    rest_is : length (take n key ++ take r value) ≡ n + r → (length key + length value - length (take n key ++ take r value) ≡ 0) ⊎ (length left ≡ 0)
    rest_is long =
        elim (cases_lt (n + r) 48) [
          | inl less ↦ inl (omega arith)
          | inr full ↦ inr (omega arith)
        ]

    take_nil : (k : ℕ) → take {A = ℕ} k [] ≡ []
    take_nil zero = refl
    take_nil (suc k) = refl

    nothing : (k : ℕ) → (k ≡ 0) ⊎ (length left ≡ 0) → take k left ≡ []
    nothing k (inl none) = ap (λ j. take j left) none
    nothing k (inr none) = ap (take k) (nil_from_length left none) ∙ take_nil k

-- the two texts of a filled piece
pub piece_filled : (front back zeros one two : List ℕ) (n r : ℕ) → length zeros ≡ 48 → n ≡ min (length zeros - 0) (length front) → one ≡ take 0 zeros ++ (take n front ++ drop (0 + n) zeros) → r ≡ min (length one - n) (length back) → two ≡ take n one ++ (take r back ++ drop (n + r) one) → take (length front + length back) two ≡ take 48 (front ++ back)
piece_filled front back zeros one two n r size is_n is_one is_r is_two =
    let len_front : length (take n front) ≡ n = omega (arith, length-take n front) in
    let len_one : length one ≡ 48 = ap length is_one ∙ length-append (take n front) (drop (0 + n) zeros) ∙ omega (arith, len_front, length-drop (0 + n) zeros) in
    let head : take n one ≡ take n front = ap (take n) is_one ∙ take_at (take n front) (drop (0 + n) zeros) n len_front in
    ap (take (length front + length back)) (is_two ∙ ap (λ xs. xs ++ (take r back ++ drop (n + r) one)) head)
    ∙ whole_piece front back (drop (n + r) one) n r (omega arith) (omega arith) (omega (arith, length-drop (n + r) one))

-- a piece that lies behind the key
pub piece_behind : (key value part piece : List ℕ) (from : ℕ) → length key ≤ from → part ≡ drop (from - length key) value → take (0 + length part) piece ≡ take 48 part → take (length (key ++ value) - from) piece ≡ take 48 (drop from (key ++ value))
piece_behind key value part piece from past is holds =
    let text : drop from (key ++ value) ≡ part = drop_both from key value ∙ ap (λ xs. xs ++ drop (from - length key) value) (drop_all from key past) ∙ sym is in
    let size : length (key ++ value) - from ≡ 0 + length part = omega (arith, length-append key value, ap length is, length-drop (from - length key) value) in
    ap (λ n. take n piece) size ∙ holds ∙ ap (take 48) (sym text)

-- a part that begins in the first piece
pub part_here : (piece rest : List ℕ) (skip left n : ℕ) → length piece ≡ 48 → skip < 48 → n ≡ min left (48 - skip) → take left (drop skip (piece ++ rest)) ≡ take n (drop skip piece) ++ take (left - n) rest
part_here piece rest skip left n size early is =
    let none : skip - length piece ≡ 0 = omega arith in
    let long : length (drop skip piece) ≡ 48 - skip = omega (arith, length-drop skip piece) in
    let less : min left (length (drop skip piece)) ≡ n = omega arith in
    let gap : left - length (drop skip piece) ≡ left - n = omega arith in
    ap (take left) (drop_both skip piece rest ∙ ap (λ k. drop skip piece ++ drop k rest) none)
    ∙ take_both left (drop skip piece) rest
    ∙ ap (λ xs. xs ++ take (left - length (drop skip piece)) rest) (sym (take_min left (drop skip piece)) ∙ ap (λ k. take k (drop skip piece)) less)
    ∙ ap (λ k. take n (drop skip piece) ++ take k rest) gap

-- a part that begins behind the first piece
pub part_later : (piece rest : List ℕ) (skip left : ℕ) → length piece ≡ 48 → 48 ≤ skip → take left (drop skip (piece ++ rest)) ≡ take left (drop (skip - 48) rest)
part_later piece rest skip left size late =
    ap (take left) (drop_both skip piece rest ∙ ap (λ xs. xs ++ drop (skip - length piece) rest) (drop_all skip piece (omega arith)) ∙ ap (λ k. drop (skip - k) rest) size)

-- a piece is read
pub read_here : (before after all chain piece rest : List ℕ) (skip left n k : ℕ) → before ++ take left (drop skip chain) ≡ all → chain ≡ piece ++ rest → length piece ≡ 48 → skip < 48 → n ≡ min left (48 - skip) → after ≡ before ++ take k (drop skip piece) → k ≡ n → after ++ take (left - n) rest ≡ all
read_here before after all chain piece rest skip left n k was is size early count more same =
    ap (λ xs. xs ++ take (left - n) rest) (more ∙ ap (λ j. before ++ take j (drop skip piece)) same)
    ∙ append_assoc before (take n (drop skip piece)) (take (left - n) rest)
    ∙ ap (λ xs. before ++ xs) (sym (part_here piece rest skip left n size early count))
    ∙ ap (λ xs. before ++ take left (drop skip xs)) (sym is)
    ∙ was

pub read_later : (before all chain piece rest : List ℕ) (skip left : ℕ) → before ++ take left (drop skip chain) ≡ all → chain ≡ piece ++ rest → length piece ≡ 48 → 48 ≤ skip → before ++ take left (drop (skip - 48) rest) ≡ all
read_later before all chain piece rest skip left was is size late =
    ap (λ xs. before ++ xs) (sym (part_later piece rest skip left size late))
    ∙ ap (λ xs. before ++ take left (drop skip xs)) (sym is)
    ∙ was

-- the first piece is the first 48 bytes of all
pub front_first : (piece rest all : List ℕ) (count left : ℕ) → all ≡ piece ++ rest → length piece ≡ min count 48 → left + length piece ≡ count → length rest ≤ left → piece ≡ take 48 all
front_first piece rest all count left both size sum few =
    let none : length (take (48 - length piece) rest) ≡ 0 = length-take (48 - length piece) rest ∙ omega (arith, size, sum, few) in
    sym (ap (take 48) both
    ∙ take_both 48 piece rest
    ∙ ap (λ bytes. bytes ++ take (48 - length piece) rest) (take_all 48 piece (omega (arith, size)))
    ∙ ap (λ bytes. piece ++ bytes) (nil_from_length (take (48 - length piece) rest) none)
    ∙ append-nil piece)
