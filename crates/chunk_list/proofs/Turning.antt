-- Where a test turns that fails from some item on.
use Rattle.std.proofs.Common.{◌≡◌, ℕ, zero, suc, ◌+◌, ◌<◌, ◌≤◌, List, [], ◌∷◌, length, get_or, refl, subst, arith}
use Rattle.std.specs.Prelude.{Bool, true, false, cond}
use Rattle.std.specs.List.{AllByRecursion, prefix_len}
use Rattle.chunk_list.specs.Chunked.{TurnsAt}

module _ {X : Type 0} (p : X → Bool) where
  -- where it fails, it fails from there on
  abbrev pub IsFailing : List X → Type 0
  IsFailing [] = Unit {0}
  IsFailing (y ∷ ys) = (p y ≡ false → AllByRecursion (λ z. p z ≡ false) ys) × IsFailing ys

  fails_from : (ys : List X) → AllByRecursion (λ z. p z ≡ false) ys → (i : ℕ) (d : X) → i < length ys → p (get_or ys i d) ≡ false
  fails_from [] all i d lt = absurd (omega (arith, lt))
  fails_from (y ∷ ys) all zero d lt = all.0
  fails_from (y ∷ ys) all (suc i) d lt = fails_from ys all.1 i d (omega (arith, lt))

  turn_first : (y : X) (ys : List X) → p y ≡ false → AllByRecursion (λ z. p z ≡ false) ys → TurnsAt p (y ∷ ys) 0
  turn_first y ys e all = record { in_range = omega arith; before = λ i d lt. absurd (omega (arith, lt)); after = λ i d le lt. fails_from (y ∷ ys) (e, all) i d lt }

  turn_later : (y : X) (ys : List X) (n : ℕ) → p y ≡ true → TurnsAt p ys n → TurnsAt p (y ∷ ys) (suc n)
  turn_later y ys n e turn = record { in_range = omega (arith, turn.in_range); before = low; after = high }
    where
      low : (i : ℕ) (d : X) → i < suc n → p (get_or (y ∷ ys) i d) ≡ true
      low zero d lt = e
      low (suc i) d lt = turn.before i d (omega (arith, lt))

      high : (i : ℕ) (d : X) → suc n ≤ i → i < length (y ∷ ys) → p (get_or (y ∷ ys) i d) ≡ false
      high zero d le lt = absurd (omega (arith, le))
      high (suc i) d le lt = turn.after i d (omega (arith, le)) (omega (arith, lt))

  pub turn : (ys : List X) → IsFailing ys → TurnsAt p ys (prefix_len p ys)
  turn [] over = record { in_range = omega arith; before = λ i d lt. absurd (omega (arith, lt)); after = λ i d le lt. absurd (omega (arith, lt)) }
  turn (y ∷ ys) over = elim (p y) as (λ b. p y ≡ b → TurnsAt p (y ∷ ys) (cond b (1 + prefix_len p ys) 0)) [
    | true ↦ λ e. let next : suc (prefix_len p ys) ≡ 1 + prefix_len p ys = omega arith in subst (TurnsAt p (y ∷ ys)) next (turn_later y ys (prefix_len p ys) e (turn ys over.1))
    | false ↦ λ e. turn_first y ys e (over.0 e)
  ] refl
