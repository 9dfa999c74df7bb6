-- What stands in a map to which something was added.
use Rattle.std.proofs.Common.{◌≡◌, ℕ, Option, Some, None, cond, refl, sym, ap, ◌∙◌, subst}
use Rattle.std.proofs.lemmas.Bool.{eq-eqb}
use Rattle.std.specs.Prelude.{IsSome, IfSome}
use Rattle.std.specs.Ordering.{nat_cmp}
use Rattle.std.specs.Cmp.{unsigned_tied, nat_cmp_total}
use Rattle.std.specs.FinMap.{FinMap, get, insert, get-insert}
use Rattle.cell_arena.specs.Chain.{Record}

pub get_inserted : (m n : FinMap nat_cmp Record) (k : ℕ) (r : Record) → n ≡ insert m k r → get n k ≡ Some r
get_inserted m n k r is =
    ap (λ (x : FinMap nat_cmp Record). get x k) is ∙ get-insert nat_cmp_total m k r k ∙ ap (λ b. cond b (Some r) (get m k)) (unsigned_tied k k ∙ eq-eqb k k refl)

pub some_inserted : (m n : FinMap nat_cmp Record) (k : ℕ) (r : Record) → n ≡ insert m k r → IsSome (get n k)
some_inserted m n k r is = subst IsSome (sym (get_inserted m n k r is)) (some_is r)
  where
    some_is : (r : Record) → IsSome (Some r)
    some_is r = refl

pub if_inserted : (m n : FinMap nat_cmp Record) (k : ℕ) (r : Record) (P : Record → Type 0) → n ≡ insert m k r → P r → IfSome (get n k) P
if_inserted m n k r P is p = subst (λ o. IfSome o P) (sym (get_inserted m n k r is)) p

-- what was added is a change of what stands at another number
pub some_changed : (m n : FinMap nat_cmp Record) (q k : ℕ) (f : Record → Record) → IsSome (get m q) → IfSome (get m q) (λ r. n ≡ insert m k (f r)) → IsSome (get n k)
some_changed m n q k f some changed = by_case (get m q) some changed
  where
    by_case : (o : Option Record) → IsSome o → IfSome o (λ r. n ≡ insert m k (f r)) → IsSome (get n k)
    by_case None some changed = absurd (cc)
    by_case (Some r) some changed = some_inserted m n k (f r) changed
