-- Items written over others in a list: what stands there then, and what stays.
use Rattle.std.proofs.Common.{◌≡◌, ℕ, suc, ◌+◌, ◌-◌, ◌<◌, ◌≤◌, List, [], ◌∷◌, ◌++◌, length, set, take, drop, refl, sym, ap, ◌∙◌, arith}
use Rattle.std.specs.List.{insert, remove, copy_within}
use Rattle.std.proofs.lemmas.List.{append_assoc, append-nil, length-append, length-drop, length-take-le, take-append-drop, take-append-le, take-take, drop-take, drop-drop, take_at, drop_at, set_split}
use Rattle.std.proofs.Math.Seq.{take-add, drop-append-add}
use Rattle.chunk_list.specs.Shelves.{stretch, written}

module _ {T : Type 0} where
  pub length_stretch : (xs : List T) (b n : ℕ) → b + n ≤ length xs → length (stretch xs b n) ≡ n
  length_stretch xs b n le = length-take-le n (drop b xs) (omega (arith, le, length-drop b xs))

  -- ---- what is written

  pub length_written : (xs : List T) (b : ℕ) (ys : List T) → b + length ys ≤ length xs → length (written xs b ys) ≡ length xs
  length_written xs b ys le =
      omega (arith, le, length-append (take b xs ++ ys) (drop (b + length ys) xs), length-append (take b xs) ys, length-take-le b xs (omega (arith, le)), length-drop (b + length ys) xs)

  head_length : (xs : List T) (b : ℕ) (ys : List T) → b ≤ length xs → length (take b xs ++ ys) ≡ b + length ys
  head_length xs b ys le = omega (arith, length-append (take b xs) ys, length-take-le b xs le)

  pub written_here : (xs : List T) (b : ℕ) (ys : List T) → b ≤ length xs → stretch (written xs b ys) b (length ys) ≡ ys
  written_here xs b ys le =
      let rest : List T = drop (b + length ys) xs in
      ap (λ zs. take (length ys) (drop b zs)) (append_assoc (take b xs) ys rest)
      ∙ ap (take (length ys)) (drop_at (take b xs) (ys ++ rest) b (length-take-le b xs le))
      ∙ take_at ys rest (length ys) refl

  -- what stands before is as it was
  pub written_below : (xs : List T) (b : ℕ) (ys : List T) (c n : ℕ) → b ≤ length xs → c + n ≤ b → stretch (written xs b ys) c n ≡ stretch xs c n
  written_below xs b ys c n le below =
      let rest : List T = drop (b + length ys) xs in
      sym (drop-take c n (written xs b ys))
      ∙ ap (drop c) (ap (take (c + n)) (append_assoc (take b xs) ys rest) ∙ take-append-le (c + n) (take b xs) (ys ++ rest) (omega (arith, below, length-take-le b xs le)) ∙ take-take (c + n) b xs below)
      ∙ drop-take c n xs

  -- what stands after is as it was
  pub written_above : (xs : List T) (b : ℕ) (ys : List T) (c n : ℕ) → b ≤ length xs → b + length ys ≤ c → stretch (written xs b ys) c n ≡ stretch xs c n
  written_above xs b ys c n le above =
      let m : ℕ = c - (b + length ys) in
      let size = head_length xs b ys le in
      let at : c ≡ length (take b xs ++ ys) + m = omega (arith, size, above) in
      let at' : b + length ys + m ≡ c = omega (arith, above) in
      ap (take n) (ap (λ k. drop k (written xs b ys)) at
      ∙ drop-append-add (take b xs ++ ys) (drop (b + length ys) xs) m
      ∙ drop-drop m (b + length ys) xs
      ∙ ap (λ k. drop k xs) at')

  -- ---- several writes as one

  -- items that are there already need not be written
  pub written_more : (xs : List T) (b m : ℕ) (ys : List T) → b + m ≤ length xs → written xs b (stretch xs b m ++ ys) ≡ written xs (b + m) ys
  written_more xs b m ys le =
      let p : List T = stretch xs b m in
      let size = length_stretch xs b m le in
      let end : b + length (p ++ ys) ≡ b + m + length ys = omega (arith, size, length-append p ys) in
      ap (λ k. (take b xs ++ (p ++ ys)) ++ drop k xs) end
      ∙ ap (λ zs. zs ++ drop (b + m + length ys) xs) (sym (append_assoc (take b xs) p ys) ∙ ap (λ zs. zs ++ ys) (sym (take-add b m xs)))

  pub written_stays : (xs : List T) (b : ℕ) (ys : List T) (m : ℕ) → b + length ys + m ≤ length xs → written xs b (ys ++ stretch xs (b + length ys) m) ≡ written xs b ys
  written_stays xs b ys m le =
      let c : ℕ = b + length ys in
      let q : List T = stretch xs c m in
      let size = length_stretch xs c m le in
      let end : b + length (ys ++ q) ≡ c + m = omega (arith, size, length-append ys q) in
      ap (λ k. (take b xs ++ (ys ++ q)) ++ drop k xs) end
      ∙ ap (λ zs. zs ++ drop (c + m) xs) (sym (append_assoc (take b xs) ys q))
      ∙ append_assoc (take b xs ++ ys) q (drop (c + m) xs)
      ∙ ap (λ zs. (take b xs ++ ys) ++ zs) (ap (λ zs. q ++ zs) (sym (drop-drop m c xs)) ∙ take-append-drop m (drop c xs))

  pub written_none : (xs : List T) (b m : ℕ) → b + m ≤ length xs → written xs b (stretch xs b m) ≡ xs
  written_none xs b m le =
      let none : b + m + 0 ≡ b + m = omega arith in
      ap (written xs b) (sym (append-nil (stretch xs b m)))
      ∙ written_more xs b m [] le
      ∙ ap (λ k. (take (b + m) xs ++ []) ++ drop k xs) none
      ∙ ap (λ zs. zs ++ drop (b + m) xs) (append-nil (take (b + m) xs))
      ∙ take-append-drop (b + m) xs

  pub set_written : (xs : List T) (i : ℕ) (x : T) → i < length xs → set xs i x ≡ written xs i (x ∷ [])
  set_written xs i x lt =
      let one : suc i ≡ i + 1 = omega arith in
      set_split xs i x lt ∙ ap (λ k. take i xs ++ x ∷ drop k xs) one ∙ sym (append_assoc (take i xs) (x ∷ []) (drop (i + 1) xs))

  -- an item written before others that were
  pub written_before : (xs : List T) (i : ℕ) (x : T) (ys : List T) → i + 1 + length ys ≤ length xs → set (written xs (i + 1) ys) i x ≡ written xs i (x ∷ ys)
  written_before xs i x ys le =
      let zs : List T = written xs (i + 1) ys in
      let size = length_written xs (i + 1) ys le in
      let one : suc i ≡ i + 1 = omega arith in
      let rest : List T = drop (i + 1 + length ys) xs in
      let front : take i zs ≡ take i xs =
      ap (take i) (append_assoc (take (i + 1) xs) ys rest) ∙ take-append-le i (take (i + 1) xs) (ys ++ rest) (omega (arith, le, length-take-le (i + 1) xs (omega (arith, le)))) ∙ take-take i (i + 1) xs (omega arith) in
      let back : drop (i + 1) zs ≡ ys ++ rest = ap (drop (i + 1)) (append_assoc (take (i + 1) xs) ys rest) ∙ drop_at (take (i + 1) xs) (ys ++ rest) (i + 1) (length-take-le (i + 1) xs (omega (arith, le))) in
      let end : i + 1 + length ys ≡ i + length (x ∷ ys) = omega arith in
      set_split zs i x (omega (arith, size, le))
      ∙ ap (λ k. take i zs ++ x ∷ drop k zs) one
      ∙ ap (λ us. us ++ x ∷ drop (i + 1) zs) front
      ∙ ap (λ us. take i xs ++ x ∷ us) (back ∙ ap (λ k. ys ++ drop k xs) end)
      ∙ sym (append_assoc (take i xs) (x ∷ ys) (drop (i + length (x ∷ ys)) xs))

  -- ---- the items of a stretch

  pub take_stretch : (xs : List T) (b n k : ℕ) → k ≤ n → take k (stretch xs b n) ≡ stretch xs b k
  take_stretch xs b n k le = take-take k n (drop b xs) le

  pub drop_stretch : (xs : List T) (b n k : ℕ) → k ≤ n → drop k (stretch xs b n) ≡ stretch xs (b + k) (n - k)
  drop_stretch xs b n k le =
      let split : n ≡ k + (n - k) = omega (arith, le) in
      ap (λ m. drop k (take m (drop b xs))) split ∙ drop-take k (n - k) (drop b xs) ∙ ap (take (n - k)) (drop-drop k b xs)

  pub insert_written : (xs : List T) (b n k : ℕ) (x : T) → k ≤ n → b + n < length xs → written xs (b + k) (x ∷ stretch xs (b + k) (n - k)) ≡ written xs b (insert (stretch xs b n) k x)
  insert_written xs b n k x le lt =
      sym (written_more xs b k (x ∷ stretch xs (b + k) (n - k)) (omega (arith, le, lt)))
      ∙ ap (λ zs. written xs b (zs ++ x ∷ stretch xs (b + k) (n - k))) (sym (take_stretch xs b n k le))
      ∙ ap (λ zs. written xs b (take k (stretch xs b n) ++ x ∷ zs)) (sym (drop_stretch xs b n k le))

  pub remove_written : (xs : List T) (b n k : ℕ) → k < n → b + n ≤ length xs → written xs (b + k) (stretch xs (b + k + 1) (n - 1 - k)) ≡ written xs b (remove (stretch xs b n) k)
  remove_written xs b n k lt le =
      let at : b + k + 1 ≡ b + suc k = omega arith in
      let count : n - 1 - k ≡ n - suc k = omega arith in
      ap (λ c. written xs (b + k) (stretch xs c (n - 1 - k))) at
      ∙ ap (λ c. written xs (b + k) (stretch xs (b + suc k) c)) count
      ∙ sym (written_more xs b k (stretch xs (b + suc k) (n - suc k)) (omega (arith, le, lt)))
      ∙ ap (λ zs. written xs b (zs ++ stretch xs (b + suc k) (n - suc k))) (sym (take_stretch xs b n k (omega (arith, lt))))
      ∙ ap (λ zs. written xs b (take k (stretch xs b n) ++ zs)) (sym (drop_stretch xs b n (suc k) (omega (arith, lt))))

  pub set_in_stretch : (xs : List T) (b n k : ℕ) (x : T) → k < n → b + n ≤ length xs → set xs (b + k) x ≡ written xs b (set (stretch xs b n) k x)
  set_in_stretch xs b n k x lt le =
      let p : List T = stretch xs b n in
      let size = length_stretch xs b n le in
      let at : b + suc k ≡ b + k + 1 = omega arith in
      set_written xs (b + k) x (omega (arith, lt, le))
      ∙ sym (written_stays xs (b + k) (x ∷ []) (n - suc k) (omega (arith, lt, le)))
      ∙ sym (written_more xs b k (x ∷ stretch xs (b + k + 1) (n - suc k)) (omega (arith, lt, le)))
      ∙ ap (λ c. written xs b (stretch xs b k ++ x ∷ stretch xs c (n - suc k))) (sym at)
      ∙ ap (λ zs. written xs b (zs ++ x ∷ stretch xs (b + suc k) (n - suc k))) (sym (take_stretch xs b n k (omega (arith, lt))))
      ∙ ap (λ zs. written xs b (take k p ++ x ∷ zs)) (sym (drop_stretch xs b n (suc k) (omega (arith, lt))))
      ∙ ap (written xs b) (sym (set_split p k x (omega (arith, size, lt))))

  pub append_written : (xs : List T) (b n : ℕ) (ys : List T) → b + n ≤ length xs → written xs (b + n) ys ≡ written xs b (stretch xs b n ++ ys)
  append_written xs b n ys le = sym (written_more xs b n ys le)

  -- ---- more places

  pub stretch_kept : (xs ys : List T) (b n : ℕ) → take (length xs) ys ≡ xs → b + n ≤ length xs → stretch ys b n ≡ stretch xs b n
  stretch_kept xs ys b n kept le =
      sym (drop-take b n ys)
      ∙ ap (drop b) (sym (take-take (b + n) (length xs) ys le) ∙ ap (take (b + n)) kept)
      ∙ drop-take b n xs

  -- ---- a copy

  pub copied : (xs : List T) (from count to : ℕ) → from + count ≤ length xs → copy_within xs from (from + count) to ≡ written xs to (stretch xs from count)
  copied xs from count to le =
      let n : from + count - from ≡ count = omega arith in
      ap (λ k. (take to xs ++ take k (drop from xs)) ++ drop (to + k) xs) n
      ∙ ap (λ k. (take to xs ++ stretch xs from count) ++ drop (to + k) xs) (sym (length_stretch xs from count le))

  pub put_at : (xs ys : List T) (at count : ℕ) (x : T) → at + count < length xs → ys ≡ copy_within xs at (at + count) (at + 1) → set ys at x ≡ written xs at (x ∷ stretch xs at count)
  put_at xs ys at count x lt is =
      let size = length_stretch xs at count (omega (arith, lt)) in
      ap (λ zs. set zs at x) (is ∙ copied xs at count (at + 1) (omega (arith, lt))) ∙ written_before xs at x (stretch xs at count) (omega (arith, size, lt))
