-- How many digits a number has, by the power of ten below it.
use Rattle.std.proofs.Common.{◌≡◌, ℕ, zero, suc, ◌+◌, ◌*◌, ◌/◌, ◌%◌, ◌^◌, ◌<◌, ◌≤◌, List, [], ◌∷◌, ◌++◌, length, arith}
use Rattle.std.proofs.Math.Nat.{pow-suc}
use Rattle.std.proofs.lemmas.Fmt.{decimal_by_steps}
use Rattle.std.proofs.lemmas.List.{length-append}
use Rattle.gateway_text.specs.Room.{digits}

-- a power of ten is no 0
power_some : (k : ℕ) → 0 < 10 ^ k
power_some zero = omega arith
power_some (suc k) = omega (arith, power_some k, pow-suc 10 k)

-- a number is written in one more digit than the power below it
abbrev Has : ℕ → List ℕ → Type 0
Has n ds = (k : ℕ) → 10 ^ k ≤ n → n < 10 * 10 ^ k → length ds ≡ k + 1

one : (m : ℕ) → m < 10 → Has m ((48 + m) ∷ [])
one m small zero low high = omega arith
one m small (suc k) low high = absurd (omega (arith, pow-suc 10 k, power_some k))

more : (m : ℕ) (ds : List ℕ) → 10 ≤ m → Has (m / 10) ds → Has m (ds ++ ((48 + m % 10) ∷ []))
more m ds large has zero low high = absurd (omega arith)
more m ds large has (suc k) low high = omega (arith, length-append ds ((48 + m % 10) ∷ []), has k (omega (arith, pow-suc 10 k)) (omega (arith, pow-suc 10 k)))

pub digits_are : (k n : ℕ) → 10 ^ k ≤ n → n < 10 * 10 ^ k → n < 2 ^ 64 → digits n ≡ k + 1
digits_are k zero low high small = absurd (omega (arith, power_some k))
digits_are k (suc n) low high small = decimal_by_steps Has one more (suc n) small k low high
