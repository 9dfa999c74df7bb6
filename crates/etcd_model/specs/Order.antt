-- Lists in ascending order, and keys in byte order.
-- etcd: data model, "logical view": the key space is flat and sorted in byte order.
use Rattle.std.specs.Prelude.{ℕ, Bool, List, [], ◌∷◌, fold}
use Rattle.std.specs.Ordering.{nat_cmp, is_lt, is_le}
use Rattle.std.specs.declared.cmp.Ordering.{Ordering}
use Rattle.std.specs.declared.cmp.Ordering.TheVariants.{Less, Equal, Greater}
use Rattle.std.specs.Cmp.Lexicographic.{slice_cmp}
use Rattle.etcd_types.specs.declared.key_value.KeyValue.{KeyValue}

-- x at the head of a list whose head is y, by how x stands to y; `rest` is the tail with x in it
abbrev pub beside : {X : Type 0} → Ordering → X → X → List X → List X → List X
beside Less x y tail rest = x ∷ y ∷ tail
beside Equal x y tail rest = x ∷ tail
beside Greater x y tail rest = y ∷ rest

-- an ascending list with x in its place; one that ties with x gives way
abbrev pub put_in : {X : Type 0} → (X → X → Ordering) → List X → X → List X
put_in cmp [] x = x ∷ []
put_in cmp (y ∷ ys) x = beside (cmp x y) x y ys (put_in cmp ys x)

-- the members of a list in ascending order; of those that tie, the last alone
abbrev pub in_order : {X : Type 0} → (X → X → Ordering) → List X → List X
in_order cmp xs = fold (put_in cmp) [] xs

-- byte order
abbrev pub key_cmp : List ℕ → List ℕ → Ordering
key_cmp = slice_cmp nat_cmp

abbrev pub key_lt : List ℕ → List ℕ → Bool
key_lt a b = is_lt (key_cmp a b)

abbrev pub key_le : List ℕ → List ℕ → Bool
key_le a b = is_le (key_cmp a b)

-- rows by their keys
abbrev pub by_key : KeyValue → KeyValue → Ordering
by_key a b = key_cmp a.key b.key
