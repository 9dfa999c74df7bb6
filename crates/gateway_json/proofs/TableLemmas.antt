-- Looking into a table of names.
use Rattle.std.proofs.Common.{◌≡◌, ℕ, zero, suc, ◌+◌, ◌<◌, ◌≤◌, List, [], ◌∷◌, length, drop, get_or, map, Some, None, true, false, refl, ap, arith, drop-cons, add-one, bytes_eq}
use Rattle.etcd_model.specs.Members.{named, placed}

module _ {X T : Type 0} (f : X → List ℕ × T) where
  pub placed_here : (n : ℕ) (es : List X) (e : X) → n < length es → e ≡ get_or es n e → Some (f e).1 ≡ placed n (map f es)
  placed_here n [] e h is = absurd (omega arith)
  placed_here zero (x ∷ es) e h is = ap (λ y. Some (f y).1) is
  placed_here (suc n) (x ∷ es) e h is = placed_here n es e (omega arith) is

  pub placed_past : (n : ℕ) (es : List X) → length es ≤ n → None ≡ placed n (map f es)
  placed_past n [] h = refl
  placed_past zero (x ∷ es) h = absurd (omega arith)
  placed_past (suc n) (x ∷ es) h = placed_past n es (omega arith)

  pub named_here : (s : List ℕ) (es : List X) (i : ℕ) (e : X) → i < length es → e ≡ get_or es i e → bytes_eq (f e).0 s ≡ true → Some (f e).1 ≡ named s (map f (drop i es))
  named_here s es i e h is same = rw (drop-cons es i e h, ← is) (rw same refl)

  pub named_later : (s : List ℕ) (es : List X) (i : ℕ) (e : X) → i < length es → e ≡ get_or es i e → bytes_eq (f e).0 s ≡ false → named s (map f (drop i es)) ≡ named s (map f (drop (i + 1) es))
  named_later s es i e h is other = rw (drop-cons es i e h, ← is, add-one) (rw other refl)
