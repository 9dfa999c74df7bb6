-- The numbers of new segments.
use Rattle.std.proofs.Common.{◌≡◌, ℕ, suc, ◌+◌, List, [], ◌∷◌, ◌++◌, refl, ap, sym, ◌∙◌, arith}
use Rattle.etcd_model.specs.Pool.{all_below}

pub none_below : all_below 0 ≡ []
unfolding all_below
none_below = refl

last_below : (n : ℕ) → all_below (suc n) ≡ all_below n ++ n ∷ []
unfolding all_below
last_below n = refl

-- a list of all below has the next number pushed
pub pushed_below : (numbers : List ℕ) (n : ℕ) → numbers ≡ all_below n → numbers ++ n ∷ [] ≡ all_below (n + 1)
pushed_below numbers n are =
    let next : suc n ≡ n + 1 = omega arith in
    ap (λ xs. xs ++ n ∷ []) are ∙ sym (last_below n) ∙ ap all_below next
