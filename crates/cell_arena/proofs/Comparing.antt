-- Byte order of a text in pieces.
use Rattle.std.proofs.Common.{◌≡◌, ◌≢◌, ℕ, ◌+◌, ◌-◌, ◌*◌, ◌<◌, ◌≤◌, min, List, [], ◌∷◌, ◌++◌, length, take, drop, refl, sym, ap, ◌∙◌, inl, inr, ◌⊎◌, arith}
use Rattle.std.proofs.lemmas.List.{length-take, length-drop, take_min, drop_min, take_rest}
use Rattle.std.specs.Ordering.{nat_cmp, ordering_then}
use Rattle.std.specs.Cmp.{nat_cmp_is}
use Rattle.std.specs.Cmp.Lexicographic.{slice_cmp}
use Rattle.std.specs.declared.cmp.Ordering.{Ordering}
use Rattle.std.specs.declared.cmp.Ordering.TheVariants.{Less, Equal, Greater}
use Rattle.cell_arena.specs.declared.cell.Cell.{Cell}
use Rattle.cell_arena.specs.declared.part.Part.{Part}
use Rattle.cell_arena.specs.Chain.{chain_bytes}
use Rattle.cell_arena.specs.Part.{IsPart, part_bytes}
use Rattle.cell_arena.proofs.Cutting.{part_here, part_later}
use Rattle.cell_arena.proofs.Records.{length-chain_bytes}

then_assoc : (a b c : Ordering) → ordering_then (ordering_then a b) c ≡ ordering_then a (ordering_then b c)
then_assoc Less b c = refl
then_assoc Equal b c = refl
then_assoc Greater b c = refl

-- a text that is cut in two
pub cmp_append : (xs ys text : List ℕ) → slice_cmp nat_cmp (xs ++ ys) text ≡ ordering_then (slice_cmp nat_cmp xs (take (length xs) text)) (slice_cmp nat_cmp ys (drop (length xs) text))
cmp_append [] ys text = refl
cmp_append (x ∷ xs) ys [] = refl
cmp_append (x ∷ xs) ys (y ∷ text) =
    ap (ordering_then (nat_cmp x y)) (cmp_append xs ys text)
    ∙ sym (then_assoc (nat_cmp x y) (slice_cmp nat_cmp xs (take (length xs) text)) (slice_cmp nat_cmp ys (drop (length xs) text)))

-- the part that is left, by its first piece and the rest
part_cut : (chain piece rest text : List ℕ) (skip left n m : ℕ) → chain ≡ piece ++ rest → length piece ≡ 48 → skip < 48 → n ≡ min left (48 - skip) → m ≡ min n (length text) → slice_cmp nat_cmp (take left (drop skip chain)) text ≡ ordering_then (slice_cmp nat_cmp (take n (drop skip piece)) (take m text)) (slice_cmp nat_cmp (take (left - n) rest) (drop m text))
part_cut chain piece rest text skip left n m is size early is_n is_m =
    let front = take n (drop skip piece) in
    let long : length front ≡ n = omega (arith, length-take n (drop skip piece), length-drop skip piece) in
    let a : take (length front) text ≡ take m text = ap (λ k. take k text) long ∙ sym (ap (λ k. take k text) is_m ∙ take_min n text) in
    let b : drop (length front) text ≡ drop m text = ap (λ k. drop k text) long ∙ sym (ap (λ k. drop k text) is_m ∙ drop_min n text) in
    ap (λ xs. slice_cmp nat_cmp (take left (drop skip xs)) text) is
    ∙ ap (λ xs. slice_cmp nat_cmp xs text) (part_here piece rest skip left n size early is_n)
    ∙ cmp_append front (take (left - n) rest) text
    ∙ ap (λ xs. ordering_then (slice_cmp nat_cmp front xs) (slice_cmp nat_cmp (take (left - n) rest) (drop (length front) text))) a
    ∙ ap (λ xs. ordering_then (slice_cmp nat_cmp front (take m text)) (slice_cmp nat_cmp (take (left - n) rest) xs)) b

-- a piece that is equal
pub compared_here : (chain piece rest text : List ℕ) (skip left n m k : ℕ) (all o : Ordering) → slice_cmp nat_cmp (take left (drop skip chain)) text ≡ all → chain ≡ piece ++ rest → length piece ≡ 48 → skip < 48 → n ≡ min left (48 - skip) → m ≡ min n (length text) → o ≡ slice_cmp nat_cmp (take k (drop skip piece)) (take m text) → k ≡ n → o ≡ Equal → slice_cmp nat_cmp (take (left - n) rest) (take (length text - m) (drop m text)) ≡ all
compared_here chain piece rest text skip left n m k all o was is size early is_n is_m says same equal =
    let tie : slice_cmp nat_cmp (take n (drop skip piece)) (take m text) ≡ Equal = ap (λ j. slice_cmp nat_cmp (take j (drop skip piece)) (take m text)) (sym same) ∙ sym says ∙ equal in
    ap (slice_cmp nat_cmp (take (left - n) rest)) (take_rest text m)
    ∙ sym (ap (λ x. ordering_then x (slice_cmp nat_cmp (take (left - n) rest) (drop m text))) tie)
    ∙ sym (part_cut chain piece rest text skip left n m is size early is_n is_m)
    ∙ was

decided : (o other : Ordering) → o ≢ Equal → ordering_then o other ≡ o
decided Less other apart = refl
decided Equal other apart = absurd (apart refl)
decided Greater other apart = refl

-- a piece that decides
pub compared_all : (chain piece rest text : List ℕ) (skip left n m k : ℕ) (all o : Ordering) → slice_cmp nat_cmp (take left (drop skip chain)) text ≡ all → chain ≡ piece ++ rest → length piece ≡ 48 → skip < 48 → n ≡ min left (48 - skip) → m ≡ min n (length text) → o ≡ slice_cmp nat_cmp (take k (drop skip piece)) (take m text) → k ≡ n → o ≢ Equal → o ≡ all
compared_all chain piece rest text skip left n m k all o was is size early is_n is_m says same apart =
    let other = slice_cmp nat_cmp (take (left - n) rest) (drop m text) in
    sym (decided o other apart)
    ∙ ap (λ x. ordering_then x other) (says ∙ ap (λ j. slice_cmp nat_cmp (take j (drop skip piece)) (take m text)) same)
    ∙ sym (part_cut chain piece rest text skip left n m is size early is_n is_m)
    ∙ was

-- a part that begins behind the first piece
pub compared_later : (chain piece rest text : List ℕ) (skip left : ℕ) (all : Ordering) → slice_cmp nat_cmp (take left (drop skip chain)) text ≡ all → chain ≡ piece ++ rest → length piece ≡ 48 → 48 ≤ skip → slice_cmp nat_cmp (take left (drop (skip - 48) rest)) text ≡ all
compared_later chain piece rest text skip left all was is size late =
    ap (λ xs. slice_cmp nat_cmp xs text) (sym (part_later piece rest skip left size late) ∙ ap (λ xs. take left (drop skip xs)) (sym is)) ∙ was

-- two texts that are cut, where nothing follows the shorter of two first pieces
cmp_pieces : (xs ys us vs : List ℕ) → (length xs < length us → ys ≡ []) → (length us < length xs → vs ≡ []) → slice_cmp nat_cmp (xs ++ ys) (us ++ vs) ≡ ordering_then (slice_cmp nat_cmp xs us) (slice_cmp nat_cmp ys vs)
cmp_pieces [] ys [] vs one other = refl
cmp_pieces [] ys (u ∷ us) vs one other = ap (λ zs. slice_cmp nat_cmp zs (u ∷ (us ++ vs))) (one (omega arith))
cmp_pieces (x ∷ xs) ys [] vs one other = ap (slice_cmp nat_cmp (x ∷ (xs ++ ys))) (other (omega arith))
cmp_pieces (x ∷ xs) ys (u ∷ us) vs one other =
    ap (ordering_then (nat_cmp x u)) (cmp_pieces xs ys us vs (λ less. one (omega arith)) (λ less. other (omega arith)))
    ∙ sym (then_assoc (nat_cmp x u) (slice_cmp nat_cmp xs us) (slice_cmp nat_cmp ys vs))

none_left : (n : ℕ) (xs : List ℕ) → n ≡ 0 → take n xs ≡ []
none_left n xs none = ap (λ k. take k xs) none

-- two fronts, by their first pieces and what follows
fronts_cut : (xs ys us vs : List ℕ) (n m k j : ℕ) → length xs ≡ min n 48 → length us ≡ min m 48 → k + length xs ≡ n → j + length us ≡ m → slice_cmp nat_cmp (xs ++ take k ys) (us ++ take j vs) ≡ ordering_then (slice_cmp nat_cmp xs us) (slice_cmp nat_cmp (take k ys) (take j vs))
fronts_cut xs ys us vs n m k j size other_size left other_left =
    cmp_pieces xs (take k ys) us (take j vs) (λ less. none_left k ys (omega arith)) (λ less. none_left j vs (omega arith))

-- first pieces that are equal
pub fronts_here : (one other xs ys us vs : List ℕ) (n m k j : ℕ) (all o : Ordering) → slice_cmp nat_cmp one other ≡ all → one ≡ xs ++ take k ys → other ≡ us ++ take j vs → length xs ≡ min n 48 → length us ≡ min m 48 → k + length xs ≡ n → j + length us ≡ m → o ≡ slice_cmp nat_cmp xs us → o ≡ Equal → slice_cmp nat_cmp (take k ys) (take j vs) ≡ all
fronts_here one other xs ys us vs n m k j all o was is other_is size other_size left other_left says equal =
    sym (ap (λ x. ordering_then x (slice_cmp nat_cmp (take k ys) (take j vs))) (sym says ∙ equal))
    ∙ sym (fronts_cut xs ys us vs n m k j size other_size left other_left)
    ∙ sym (ap (λ zs. slice_cmp nat_cmp zs (us ++ take j vs)) is)
    ∙ sym (ap (slice_cmp nat_cmp one) other_is)
    ∙ was

-- first pieces that decide
pub fronts_all : (one other xs ys us vs : List ℕ) (n m k j : ℕ) (all o : Ordering) → slice_cmp nat_cmp one other ≡ all → one ≡ xs ++ take k ys → other ≡ us ++ take j vs → length xs ≡ min n 48 → length us ≡ min m 48 → k + length xs ≡ n → j + length us ≡ m → o ≡ slice_cmp nat_cmp xs us → o ≢ Equal → o ≡ all
fronts_all one other xs ys us vs n m k j all o was is other_is size other_size left other_left says apart =
    sym (decided o (slice_cmp nat_cmp (take k ys) (take j vs)) apart)
    ∙ ap (λ x. ordering_then x (slice_cmp nat_cmp (take k ys) (take j vs))) says
    ∙ sym (fronts_cut xs ys us vs n m k j size other_size left other_left)
    ∙ sym (ap (λ zs. slice_cmp nat_cmp zs (us ++ take j vs)) is)
    ∙ sym (ap (slice_cmp nat_cmp one) other_is)
    ∙ was

-- where one of two texts is at its end, the longer one is greater
pub fronts_ended : (xs us : List ℕ) (n m : ℕ) → length xs ≡ n → length us ≡ m → (n ≡ 0) ⊎ (m ≡ 0) → nat_cmp n m ≡ slice_cmp nat_cmp xs us
fronts_ended [] [] n m size other_size ended = sym (nat_cmp_is n m Equal (omega arith))
fronts_ended [] (u ∷ us) n m size other_size ended = sym (nat_cmp_is n m Less (omega arith))
fronts_ended (x ∷ xs) [] n m size other_size ended = sym (nat_cmp_is n m Greater (omega arith))
fronts_ended (x ∷ xs) (u ∷ us) n m size other_size (inl none) = absurd (omega arith)
fronts_ended (x ∷ xs) (u ∷ us) n m size other_size (inr none) = absurd (omega arith)

-- a part has as many bytes as it says
pub part_size : (at : ℕ → Cell) (part : Part) → IsPart at part → length (part_bytes at part) ≡ part.count
part_size at part is =
    let chain = chain_bytes at part.cells part.first in
    let size : length chain ≡ part.cells * 48 = length-chain_bytes at part.cells part.first is.chain in
    length-take part.count (drop part.from chain) ∙ omega (arith, is.fits, length-drop part.from chain)
