-- The numbers of segments that are made in turn.
use Rattle.std.proofs.Common.{◌≡◌, ℕ, zero, suc, ◌+◌, List, [], ◌∷◌, ◌++◌, refl, ap, sym, ◌∙◌, arith}
use Rattle.etcd_model.specs.Pool.{all_below}
use Rattle.etcd_model.proofs.PoolLaws.{none_below, pushed_below}
use Rattle.segment_pool.specs.Supply.{numbers_from}

pub none_from : (first : ℕ) → numbers_from first 0 ≡ []
unfolding numbers_from
none_from first = refl

last_from : (first n : ℕ) → numbers_from first (suc n) ≡ numbers_from first n ++ (first + n) ∷ []
unfolding numbers_from
last_from first n = refl

-- a list of so many from the first on has the next number pushed
pub pushed_from : (numbers : List ℕ) (first n : ℕ) → numbers ≡ numbers_from first n → numbers ++ (first + n) ∷ [] ≡ numbers_from first (n + 1)
pushed_from numbers first n are =
    let next : suc n ≡ n + 1 = omega arith in
    ap (λ xs. xs ++ (first + n) ∷ []) are ∙ sym (last_from first n) ∙ ap (numbers_from first) next

-- from 0 on, they are all below
pub from_zero : (n : ℕ) → numbers_from 0 n ≡ all_below n
from_zero zero = none_from 0 ∙ sym none_below
from_zero (suc n) =
    let here : 0 + n ≡ n = omega arith in
    let next : n + 1 ≡ suc n = omega arith in
    last_from 0 n ∙ ap (λ m. numbers_from 0 n ++ m ∷ []) here ∙ pushed_below (numbers_from 0 n) n (from_zero n) ∙ ap all_below next
