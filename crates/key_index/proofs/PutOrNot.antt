-- Records that are puts, and those that are none.
use Rattle.std.proofs.Common.{◌≡◌, ℕ, suc, ◌<◌, List, [], ◌∷◌, length, get_or, Option, Bool, true, false, refl, ap, arith}
use Rattle.std.specs.Prelude.{not, if◌then◌else◌}
use Rattle.std.specs.List.{AllByRecursion}
use Rattle.key_index.specs.Links.{Cells, Linked}
use Rattle.key_index.specs.Index.{is_kind, is_put_of}

pub all_from_places : (P : ℕ → Type 0) (cs : List ℕ) → ((i : ℕ) → i < length cs → P (get_or cs i 0)) → AllByRecursion P cs
all_from_places P [] each = tt
all_from_places P (c ∷ cs) each = (each 0 (omega arith), all_from_places P cs (λ i lt. each (suc i) (omega (arith, lt))))

not_twice : (b : Bool) → b ≡ not (not b)
not_twice true = refl
not_twice false = refl

-- of the one kind is what isn't of the other
pub other_kind : (cells : Cells) (put : Bool) (c : ℕ) → is_kind cells (not put) c ≡ not (is_kind cells put c)
other_kind cells true c = refl
other_kind cells false c = not_twice (is_put_of (cells c))

-- two records of which both are puts, or none is, are of one kind
pub same_kind : (put : Bool) (o p : Option Linked) → is_put_of o ≡ is_put_of p → (if put then is_put_of o else not (is_put_of o)) ≡ (if put then is_put_of p else not (is_put_of p))
same_kind put o p same = ap (λ (b : Bool). if put then b else not b) same
