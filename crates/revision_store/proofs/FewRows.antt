-- An interval has no more rows than there are changes.
use Rattle.std.proofs.Common.{ℕ, suc, ◌+◌, ◌≤◌, ◌^◌, List, [], ◌∷◌, ◌++◌, Bool, Option, Some, None, filter, length, map, arith}
use Rattle.std.specs.Prelude.{filter_map, fold}
use Rattle.std.specs.List.{cons_option}
use Rattle.std.specs.declared.cmp.Ordering.{Ordering}
use Rattle.std.specs.declared.cmp.Ordering.TheVariants.{Less, Equal, Greater}
use Rattle.std.proofs.lemmas.List.{length-map}
use Rattle.std.proofs.lemmas.List.Sums.{count_by-le-length, length-filter}
use Rattle.cell_arena.specs.Region.{RegionState}
use Rattle.chunk_list.specs.Chunked.{Chunked}
use Rattle.etcd_model.specs.Changes.{Recorded, keys, live, rows}
use Rattle.etcd_model.specs.Order.{beside, key_cmp, put_in}
use Rattle.key_index.specs.Index.{Heads}
use Rattle.key_index.specs.Links.{change_at}
use Rattle.key_index.specs.Order.{changes_in}
use Rattle.revision_store.specs.Logged.{IsLog}
use Rattle.revision_store.specs.Recorded.{cells_of}
use Rattle.revision_store.proofs.Logged.{order_few}

module _ {X : Type 0} (cmp : X → X → Ordering) where
  -- one more in its place makes one more at most
  put_in_few : (x : X) (ys : List X) → length (put_in cmp ys x) ≤ suc (length ys)
  put_in_few x [] = omega arith
  put_in_few x (y ∷ ys) = by (cmp x y) (put_in_few x ys)
    where
      by : (o : Ordering) → length (put_in cmp ys x) ≤ suc (length ys) → length (beside o x y ys (put_in cmp ys x)) ≤ suc (suc (length ys))
      by Less few = omega arith
      by Equal few = omega arith
      by Greater few = omega (arith, few)

  -- and so many more make so many more
  fold_few : (xs ys : List X) → length (fold (put_in cmp) ys xs) ≤ length ys + length xs
  fold_few [] ys = omega arith
  fold_few (x ∷ xs) ys = omega (arith, fold_few xs (put_in cmp ys x), put_in_few x ys)

-- no more are found than are looked at
found_few : {X Y : Type 0} (look : X → Option Y) (xs : List X) → length (filter_map look xs) ≤ length xs
found_few look [] = omega arith
found_few {Y = Y} look (x ∷ xs) = by (look x) (found_few look xs)
  where
    by : (o : Option Y) → length (filter_map look xs) ≤ length xs → length (cons_option o (filter_map look xs)) ≤ suc (length xs)
    by None few = omega (arith, few)
    by (Some y) few = omega (arith, few)

-- each row is of a change
rows_few : (xs : List Recorded) (interval : List ℕ → Bool) (r : ℕ) → length (rows interval r xs) ≤ length xs
rows_few xs interval r =
    omega (
      arith,
      found_few (λ key. live key r xs) (filter interval (keys xs)),
      length-filter interval (keys xs),
      count_by-le-length interval (keys xs),
      fold_few key_cmp (map (λ (x : Recorded). x.key) xs) [],
      length-map xs (λ (x : Recorded). x.key),
    )

-- and each change has a cell
pub rows_fit : (region : RegionState) (heads : Heads) (settled recent : Chunked ℕ) (leases : ℕ) (interval : List ℕ → Bool) (r : ℕ) → IsLog region heads settled recent leases → length (rows interval r (changes_in (cells_of region.records) (settled.items ++ recent.items))) ≤ 2 ^ 20
rows_fit region heads settled recent leases interval r log =
    let order = settled.items ++ recent.items in
    let xs = changes_in (cells_of region.records) order in
    omega (
      arith,
      rows_few xs interval r,
      found_few (change_at (cells_of region.records)) order,
      order_few (cells_of region.records) order log.all.some,
      log.space,
      log.most,
      log.reserved,
    )
