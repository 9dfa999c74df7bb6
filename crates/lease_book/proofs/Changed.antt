-- A lease that goes into a book, has another end, or leaves it.
use Rattle.std.proofs.Common.{◌≡◌, ℕ, zero, suc, ◌+◌, ◌<◌, ◌≤◌, List, [], ◌∷◌, length, get_or, set, map, refl, sym, ap, subst, ◌∙◌, arith, inl, inr}
use Rattle.std.specs.Prelude.{ℤ, Bool, pos, true, false, not, cond, filter, int_le, IfSome, Some}
use Rattle.std.specs.declared.cmp.Ordering.{Ordering}
use Rattle.std.specs.List.{AllByRecursion, insert, remove}
use Rattle.std.specs.List.Sorted.{IsStrictlySortedBy}
use Rattle.std.specs.Ordering.{int_eq}
use Rattle.std.specs.declared.cmp.Ordering.TheVariants.{Less, Equal, Greater}
use Rattle.std.proofs.lemmas.Bool.{true≢false}
use Rattle.std.proofs.lemmas.Bool.Decides.{Decides-int_eq, nat_tests}
use Rattle.std.proofs.lemmas.List.{map-set, length-set}
use Rattle.etcd_types.specs.Limits.{max_ttl}
use Rattle.etcd_model.specs.declared.state.Lease.{Lease}
use Rattle.etcd_model.specs.Held.{by_id}
use Rattle.etcd_model.specs.Leases.{lease_at, put_lease}
use Rattle.etcd_model.specs.Operations.{has_lease}
use Rattle.etcd_model.specs.Order.{beside, put_in}
use Rattle.etcd_model.proofs.OrderLaws.{sorted-put_in}
use Rattle.model_laws.specs.Leases.{without_lease}
use Rattle.model_laws.proofs.LeaseLaws.{by_id_total, without_lease_ascends}
use Rattle.lease_book.specs.declared.book.Booked.{Booked}
use Rattle.lease_book.specs.Book.{leases_of, cells_of, ids_below, IsWithin, IsBook}
use Rattle.lease_book.proofs.Standing.{look, lease_read, count_leases, IsHereAt, IsGapAt}

-- ---- each item of a list, where one is put in or taken away

pub map_insert : {X Y : Type 0} (f : X → Y) (xs : List X) (i : ℕ) (x : X) → map f (insert xs i x) ≡ insert (map f xs) i (f x)
map_insert f xs zero x = refl
map_insert f [] (suc i) x = refl
map_insert f (y ∷ xs) (suc i) x = ap (λ ys. f y ∷ ys) (map_insert f xs i x)

pub map_remove : {X Y : Type 0} (f : X → Y) (xs : List X) (i : ℕ) → map f (remove xs i) ≡ remove (map f xs) i
map_remove f [] zero = refl
map_remove f [] (suc i) = refl
map_remove f (y ∷ xs) zero = refl
map_remove f (y ∷ xs) (suc i) = ap (λ ys. f y ∷ ys) (map_remove f xs i)

pub cell_read : (bs : List Booked) (i : ℕ) (d : Booked) → get_or (cells_of bs) i d.cell ≡ (get_or bs i d).cell
cell_read [] i d = refl
cell_read (b ∷ bs) zero d = refl
cell_read (b ∷ bs) (suc i) d = cell_read bs i d

-- ---- what always holds

pub ttl_within : (ttl : ℕ) → int_le (pos ttl) max_ttl ≡ true → ttl ≤ 9000000000
ttl_within ttl h = grind (arith, nat_tests)

pub put_length : {X : Type 0} (cmp : X → X → Ordering) (x : X) (xs : List X) → length (put_in cmp xs x) ≤ length xs + 1
put_length cmp x [] = omega arith
put_length cmp x (y ∷ xs) = elim (cmp x y) as (λ o. length (beside o x y xs (put_in cmp xs x)) ≤ length (y ∷ xs) + 1) [
  | Less ↦ omega arith
  | Equal ↦ omega arith
  | Greater ↦ omega (arith, put_length cmp x xs)
]

pub filter_length : {X : Type 0} (p : X → Bool) (xs : List X) → length (filter p xs) ≤ length xs
filter_length p [] = omega arith
filter_length p (x ∷ xs) = elim (p x) as (λ b. length (cond b (x ∷ filter p xs) (filter p xs)) ≤ length (x ∷ xs)) [
  | true ↦ omega (arith, filter_length p xs)
  | false ↦ omega (arith, filter_length p xs)
]

within_later : (s t : ℕ) (ls : List Lease) → t ≤ s → AllByRecursion (IsWithin s) ls → AllByRecursion (IsWithin t) ls
within_later s t [] le all = tt
within_later s t (l ∷ ls) le all = (record { end = omega (arith, le, all.0.end); ttl = all.0.ttl }, within_later s t ls le all.1)

within_put : (s : ℕ) (x : Lease) (ls : List Lease) → IsWithin s x → AllByRecursion (IsWithin s) ls → AllByRecursion (IsWithin s) (put_in by_id ls x)
within_put s x [] is all = (is, tt)
within_put s x (l ∷ ls) is all = elim (by_id x l) as (λ o. AllByRecursion (IsWithin s) (beside o x l ls (put_in by_id ls x))) [
  | Less ↦ (is, all)
  | Equal ↦ (is, all.1)
  | Greater ↦ (all.0, within_put s x ls is all.1)
]

within_without : (s : ℕ) (id : ℤ) (ls : List Lease) → AllByRecursion (IsWithin s) ls → AllByRecursion (IsWithin s) (without_lease ls id)
within_without s id [] all = tt
within_without s id (l ∷ ls) all = elim (int_eq l.id id) as (λ b. AllByRecursion (IsWithin s) (cond (not b) (l ∷ without_lease ls id) (without_lease ls id))) [
  | true ↦ within_without s id ls all.1
  | false ↦ (all.0, within_without s id ls all.1)
]

without_length : (id : ℤ) (ls : List Lease) → length (without_lease ls id) ≤ length ls
without_length id [] = omega arith
without_length id (l ∷ ls) = elim (int_eq l.id id) as (λ b. length (cond (not b) (l ∷ without_lease ls id) (without_lease ls id)) ≤ length (l ∷ ls)) [
  | true ↦ omega (arith, without_length id ls)
  | false ↦ omega (arith, without_length id ls)
]

pub record IsSooner (soonest : ℕ) (x : Lease) (new : ℕ) : Type 0 where
  pub before : new ≤ soonest
  pub end : new ≤ x.end

book_put : (ls : List Lease) (s t most : ℕ) (x : Lease) → IsBook ls s most → IsSooner s x t → int_le (pos x.ttl) max_ttl ≡ true → length (put_in by_id ls x) ≤ most → IsBook (put_in by_id ls x) t most
book_put ls s t most x book sooner ttl fits = record {
  ascend = sorted-put_in by_id by_id_total x ls book.ascend;
  within = within_put t x ls (record { end = sooner.end; ttl = ttl }) (within_later s t ls sooner.before book.within);
  count = fits;
  room = book.room;
}

book_without : (ls : List Lease) (s most : ℕ) (id : ℤ) → IsBook ls s most → IsBook (without_lease ls id) s most
book_without ls s most id book = record {
  ascend = without_lease_ascends ls id book.ascend;
  within = within_without s id ls book.within;
  count = omega (arith, without_length id ls, book.count);
  room = book.room;
}

-- ---- at the place of an ID

pub gap : (ls : List Lease) (id : ℤ) → IsStrictlySortedBy by_id ls → has_lease ls id ≡ false → IsGapAt ls id (ids_below ls id)
gap ls id sorted none = elim (look ls id sorted) [
  | inl h ↦ absurd (true≢false (sym h.has ∙ none))
  | inr g ↦ g
]

pub here : (ls : List Lease) (id : ℤ) → IsStrictlySortedBy by_id ls → has_lease ls id ≡ true → IsHereAt ls id (ids_below ls id)
here ls id sorted has = elim (look ls id sorted) [
  | inl h ↦ h
  | inr g ↦ absurd (true≢false (sym has ∙ g.none))
]

-- a lease that is new
module _ (bs : List Booked) (s most : ℕ) (book : IsBook (leases_of bs) s most) (x : Booked) (none : has_lease (leases_of bs) x.lease.id ≡ false) where
  pub added : leases_of (insert bs (ids_below (leases_of bs) x.lease.id) x) ≡ put_in by_id (leases_of bs) x.lease
  added = map_insert (λ (b : Booked). b.lease) bs (ids_below (leases_of bs) x.lease.id) x ∙ sym ((gap (leases_of bs) x.lease.id book.ascend none).put x.lease refl)

  pub added_book : (t : ℕ) → IsSooner s x.lease t → int_le (pos x.lease.ttl) max_ttl ≡ true → length (leases_of bs) < most → IsBook (leases_of (insert bs (ids_below (leases_of bs) x.lease.id) x)) t most
  added_book t sooner ttl room =
      subst (λ ls. IsBook ls t most) (sym added) (book_put (leases_of bs) s t most x.lease book sooner ttl (omega (arith, put_length by_id x.lease (leases_of bs), room)))

within_at : (s : ℕ) (ls : List Lease) (i : ℕ) (d : Lease) → i < length ls → AllByRecursion (IsWithin s) ls → IsWithin s (get_or ls i d)
within_at s [] i d lt all = absurd (omega (arith, lt))
within_at s (l ∷ ls) zero d lt all = all.0
within_at s (l ∷ ls) (suc i) d lt all = within_at s ls i d (omega (arith, lt)) all.1

same_cells : (bs : List Booked) (q : ℕ) (x : Booked) (lease : Lease) → x ≡ get_or bs q x → cells_of (set bs q (record { lease = lease; cell = x.cell })) ≡ cells_of bs
same_cells [] q x lease read = refl
same_cells (b ∷ bs) zero x lease read = ap (λ z. z.cell ∷ cells_of bs) read
same_cells (b ∷ bs) (suc q) x lease read = ap (λ cells. b.cell ∷ cells) (same_cells bs q x lease read)

-- one that is there
module _ (bs : List Booked) (s most : ℕ) (book : IsBook (leases_of bs) s most) (id : ℤ) (has : has_lease (leases_of bs) id ≡ true) where
  pub place_there : ids_below (leases_of bs) id < length bs
  place_there = omega (arith, (here (leases_of bs) id book.ascend has).place, count_leases bs)

  pub gone : leases_of (remove bs (ids_below (leases_of bs) id)) ≡ without_lease (leases_of bs) id
  gone = map_remove (λ (b : Booked). b.lease) bs (ids_below (leases_of bs) id) ∙ sym (here (leases_of bs) id book.ascend has).gone

  pub gone_book : IsBook (leases_of (remove bs (ids_below (leases_of bs) id))) s most
  gone_book = subst (λ ls. IsBook ls s most) (sym gone) (book_without (leases_of bs) s most id book)

  module _ (x : Booked) (q : ℕ) (at : q ≡ ids_below (leases_of bs) id) (read : x ≡ get_or bs q x) where
    lease_there : x.lease ≡ get_or (leases_of bs) (ids_below (leases_of bs) id) x.lease
    lease_there = ap (λ b. b.lease) read ∙ sym (lease_read bs q x) ∙ ap (λ n. get_or (leases_of bs) n x.lease) at

    id_is : x.lease.id ≡ id
    id_is = (Decides-int_eq x.lease.id id).0 (ap (λ l. int_eq l.id id) lease_there ∙ (here (leases_of bs) id book.ascend has).same x.lease)

    lease_is : lease_at (leases_of bs) id ≡ Some x.lease
    lease_is = (here (leases_of bs) id book.ascend has).at x.lease ∙ ap Some (sym lease_there)

    pub lease_within : IsWithin s x.lease
    lease_within = subst (IsWithin s) (sym lease_there) (within_at s (leases_of bs) (ids_below (leases_of bs) id) x.lease (here (leases_of bs) id book.ascend has).place book.within)

    abbrev with_end : ℕ → Lease
    with_end end = record { id = x.lease.id; ttl = x.lease.ttl; end = end }

    abbrev renewed_items : ℕ → List Booked
    renewed_items end = set bs q (record { lease = with_end end; cell = x.cell })

    put_there : (end : ℕ) → leases_of (renewed_items end) ≡ put_in by_id (leases_of bs) (with_end end)
    put_there end =
        map-set (λ (b : Booked). b.lease) bs q (record { lease = with_end end; cell = x.cell })
        ∙ ap (λ n. set (leases_of bs) n (with_end end)) at
        ∙ sym ((here (leases_of bs) id book.ascend has).put (with_end end) id_is)

    pub renewed : (moment : ℕ) → IfSome (lease_at (leases_of bs) id) (λ l. leases_of (renewed_items (moment + x.lease.ttl)) ≡ put_lease moment (leases_of bs) id l.ttl)
    renewed moment =
        subst (λ o. IfSome o (λ l. leases_of (renewed_items (moment + x.lease.ttl)) ≡ put_lease moment (leases_of bs) id l.ttl)) (sym lease_is)
        (put_there (moment + x.lease.ttl) ∙ ap (λ i. put_lease moment (leases_of bs) i x.lease.ttl) id_is)

    pub renewed_cells : (end : ℕ) → cells_of (renewed_items end) ≡ cells_of bs
    renewed_cells end = same_cells bs q x (with_end end) read

    pub renewed_book : (end t : ℕ) → IsSooner s (with_end end) t → IsBook (leases_of (renewed_items end)) t most
    renewed_book end t sooner =
        let count = ap length ((here (leases_of bs) id book.ascend has).put (with_end end) id_is) ∙ length-set (leases_of bs) (ids_below (leases_of bs) id) (with_end end) in
        subst (λ ls. IsBook ls t most) (sym (put_there end)) (book_put (leases_of bs) s t most (with_end end) book sooner lease_within.ttl (omega (arith, count, book.count)))
