-- Where a lease stands in a list by ascending ID.
use Rattle.std.proofs.Common.{◌≡◌, ℕ, zero, suc, ◌+◌, ◌<◌, ◌≤◌, List, [], ◌∷◌, length, get_or, set, drop, add-one, refl, sym, ap, subst, ◌∙◌, arith, inl, inr, ◌⊎◌, ◌≢◌}
use Rattle.std.specs.Prelude.{ℤ, ◌<ℤ◌, Bool, true, false, not, cond, ◌||◌, int_lt, Some, None, is_some}
use Rattle.std.specs.List.{AllByRecursion, insert, remove}
use Rattle.std.specs.List.Sorted.{IsStrictlySortedBy}
use Rattle.std.specs.Ordering.{int_cmp, int_eq, is_eq}
use Rattle.std.specs.declared.cmp.Ordering.TheVariants.{Less, Equal, Greater}
use Rattle.std.proofs.lemmas.Bool.{true≢false}
use Rattle.std.proofs.lemmas.Bool.Decides.{Decides-int_eq}
use Rattle.std.proofs.lemmas.Cmp.{int_ranked}
use Rattle.std.proofs.lemmas.Int.{ints}
use Rattle.chunk_list.specs.Chunked.{TurnsAt}
use Rattle.etcd_model.specs.declared.state.Lease.{Lease}
use Rattle.etcd_model.specs.Held.{by_id}
use Rattle.etcd_model.specs.Leases.{lease_at}
use Rattle.etcd_model.specs.Operations.{has_lease}
use Rattle.etcd_model.specs.Order.{beside, put_in}
use Rattle.model_laws.specs.Leases.{without_lease}
use Rattle.lease_book.specs.declared.book.Booked.{Booked}
use Rattle.lease_book.specs.Book.{leases_of, ids_below}

-- how two IDs stand to one another, by each of the tests
pub record IsBelow (a b : ℤ) : Type 0 where
  pub lt : int_lt a b ≡ true
  pub cmp : int_cmp b a ≡ Greater
  pub other : int_eq a b ≡ false

pub record IsAbove (a b : ℤ) : Type 0 where
  pub lt : int_lt a b ≡ false
  pub cmp : int_cmp b a ≡ Less
  pub other : int_eq a b ≡ false

pub record IsSame (a b : ℤ) : Type 0 where
  pub lt : int_lt a b ≡ false
  pub cmp : int_cmp b a ≡ Equal
  pub same : int_eq a b ≡ true

module _ (a b : ℤ) where
  cmp_is : (p q : Bool) → int_lt a b ≡ p → int_lt b a ≡ q → int_cmp b a ≡ cond q Less (cond p Greater Equal)
  cmp_is p q e f = ap (λ r. cond r Less (cond (int_lt a b) Greater Equal)) f ∙ ap (λ r. cond q Less (cond r Greater Equal)) e

  eq_is : (p q : Bool) → int_lt a b ≡ p → int_lt b a ≡ q → int_eq a b ≡ is_eq (cond p Less (cond q Greater Equal))
  eq_is p q e f = ap (λ r. is_eq (cond r Less (cond (int_lt b a) Greater Equal))) e ∙ ap (λ r. is_eq (cond p Less (cond r Greater Equal))) f

  pub stand : IsBelow a b ⊎ (IsSame a b ⊎ IsAbove a b)
  stand = by (int_lt a b) (int_lt b a) refl refl
    where
      by : (p q : Bool) → int_lt a b ≡ p → int_lt b a ≡ q → IsBelow a b ⊎ (IsSame a b ⊎ IsAbove a b)
      by true true e f = absurd (omega (arith, ints))
      by true false e f = inl (record { lt = e; cmp = cmp_is true false e f; other = eq_is true false e f })
      by false true e f = inr (inr (record { lt = e; cmp = cmp_is false true e f; other = eq_is false true e f }))
      by false false e f = inr (inl (record { lt = e; cmp = cmp_is false false e f; same = eq_is false false e f }))

  pub above : b <ℤ a → IsAbove a b
  above h = by (int_lt a b) (int_lt b a) refl refl
    where
      by : (p q : Bool) → int_lt a b ≡ p → int_lt b a ≡ q → IsAbove a b
      by true q e f = absurd (omega (arith, ints))
      by false true e f = record { lt = e; cmp = cmp_is false true e f; other = eq_is false true e f }
      by false false e f = absurd (omega (arith, ints))

-- what comes after a lease that is not below an ID is above it
pub above_after : (l m : Lease) (id : ℤ) → int_lt l.id id ≡ false → by_id l m ≡ Less → IsAbove m.id id
above_after l m id h less =
    let later : l.id <ℤ m.id = int_ranked l.id m.id Less (sym less) in
    above m.id id (omega (arith, ints))

-- ---- the place of an ID

-- the lease is at a position: it is found there, another of its ID takes its place, and it is taken away there
pub record IsHereAt (ls : List Lease) (id : ℤ) (p : ℕ) : Type 0 where
  pub place : p < length ls
  pub has : has_lease ls id ≡ true
  pub at : (d : Lease) → lease_at ls id ≡ Some (get_or ls p d)
  pub same : (d : Lease) → int_eq (get_or ls p d).id id ≡ true
  pub put : (x : Lease) → x.id ≡ id → put_in by_id ls x ≡ set ls p x
  pub gone : without_lease ls id ≡ remove ls p

-- no lease has the ID, and one of it would go to a position
pub record IsGapAt (ls : List Lease) (id : ℤ) (p : ℕ) : Type 0 where
  pub place : p ≤ length ls
  pub none : has_lease ls id ≡ false
  pub at : lease_at ls id ≡ None
  pub other : (d : Lease) → p < length ls → int_eq (get_or ls p d).id id ≡ false
  pub put : (x : Lease) → x.id ≡ id → put_in by_id ls x ≡ insert ls p x

abbrev Place : List Lease → ℤ → ℕ → Type 0
Place ls id p = IsHereAt ls id p ⊎ IsGapAt ls id p

record Lacks (ls : List Lease) (id : ℤ) : Type 0 where
  none : has_lease ls id ≡ false
  at : lease_at ls id ≡ None
  stays : without_lease ls id ≡ ls

lacks : (l : Lease) (ls : List Lease) (id : ℤ) → int_lt l.id id ≡ false → AllByRecursion (λ m. by_id l m ≡ Less) ls → Lacks ls id
lacks l [] id h all = record { none = refl; at = refl; stays = refl }
lacks l (m ∷ ms) id h all =
    let a = above_after l m id h all.0 in
    let r = lacks l ms id h all.1 in
    record {
      none = ap (λ b. b || has_lease ms id) a.other ∙ r.none;
      at = ap (λ b. cond b (Some m) (lease_at ms id)) a.other ∙ r.at;
      stays = ap (λ b. cond (not b) (m ∷ without_lease ms id) (without_lease ms id)) a.other ∙ ap (λ xs. m ∷ xs) r.stays;
    }

module _ (l : Lease) (ls : List Lease) (id : ℤ) where
  pub one_more : int_lt l.id id ≡ true → suc (ids_below ls id) ≡ ids_below (l ∷ ls) id
  one_more e =
      let next : suc (ids_below ls id) ≡ 1 + ids_below ls id = omega arith in
      next ∙ sym (ap (λ b. cond b (1 + ids_below ls id) 0) e)

  pub none_below : int_lt l.id id ≡ false → 0 ≡ ids_below (l ∷ ls) id
  none_below e = sym (ap (λ b. cond b (1 + ids_below ls id) 0) e)

  put_after : (x : Lease) (ys : List Lease) → IsBelow l.id id → x.id ≡ id → put_in by_id ls x ≡ ys → put_in by_id (l ∷ ls) x ≡ l ∷ ys
  put_after x ys s is rest =
      ap (λ i. beside (int_cmp i l.id) x l ls (put_in by_id ls x)) is
      ∙ ap (λ o. beside o x l ls (put_in by_id ls x)) s.cmp
      ∙ ap (λ zs. l ∷ zs) rest

  later : IsBelow l.id id → (p : ℕ) → Place ls id p → Place (l ∷ ls) id (suc p)
  later s p (inl h) = inl (record {
    place = omega (arith, h.place);
    has = ap (λ b. b || has_lease ls id) s.other ∙ h.has;
    at = λ d. ap (λ b. cond b (Some l) (lease_at ls id)) s.other ∙ h.at d;
    same = h.same;
    put = λ x is. put_after x (set ls p x) s is (h.put x is);
    gone = ap (λ b. cond (not b) (l ∷ without_lease ls id) (without_lease ls id)) s.other ∙ ap (λ zs. l ∷ zs) h.gone;
  })
  later s p (inr g) = inr (record {
    place = omega (arith, g.place);
    none = ap (λ b. b || has_lease ls id) s.other ∙ g.none;
    at = ap (λ b. cond b (Some l) (lease_at ls id)) s.other ∙ g.at;
    other = λ d lt. g.other d (omega (arith, lt));
    put = λ x is. put_after x (insert ls p x) s is (g.put x is);
  })

  first : AllByRecursion (λ m. by_id l m ≡ Less) ls → IsSame l.id id → IsHereAt (l ∷ ls) id 0
  first all s =
      let r = lacks l ls id s.lt all in
      record {
        place = omega arith;
        has = ap (λ b. b || has_lease ls id) s.same;
        at = λ d. ap (λ b. cond b (Some l) (lease_at ls id)) s.same;
        same = λ d. s.same;
        put = λ x is. ap (λ i. beside (int_cmp i l.id) x l ls (put_in by_id ls x)) is ∙ ap (λ o. beside o x l ls (put_in by_id ls x)) s.cmp;
        gone = ap (λ b. cond (not b) (l ∷ without_lease ls id) (without_lease ls id)) s.same ∙ r.stays;
      }

  before : AllByRecursion (λ m. by_id l m ≡ Less) ls → IsAbove l.id id → IsGapAt (l ∷ ls) id 0
  before all s =
      let r = lacks l ls id s.lt all in
      record {
        place = omega arith;
        none = ap (λ b. b || has_lease ls id) s.other ∙ r.none;
        at = ap (λ b. cond b (Some l) (lease_at ls id)) s.other ∙ r.at;
        other = λ d lt. s.other;
        put = λ x is. ap (λ i. beside (int_cmp i l.id) x l ls (put_in by_id ls x)) is ∙ ap (λ o. beside o x l ls (put_in by_id ls x)) s.cmp;
      }

pub look : (ls : List Lease) (id : ℤ) → IsStrictlySortedBy by_id ls → Place ls id (ids_below ls id)
unfolding IsStrictlySortedBy
look [] id sorted = inr (record { place = omega arith; none = refl; at = refl; other = λ d lt. absurd (omega (arith, lt)); put = λ x is. refl })
look (l ∷ ls) id sorted = elim (stand l.id id) [
  | inl s ↦ subst (Place (l ∷ ls) id) (one_more l ls id s.lt) (later l ls id s (ids_below ls id) (look ls id sorted.1))
  | inr rest ↦ elim rest [
    | inl s ↦ subst (Place (l ∷ ls) id) (none_below l ls id s.lt) (inl (first l ls id sorted.0 s))
    | inr s ↦ subst (Place (l ∷ ls) id) (none_below l ls id s.lt) (inr (before l ls id sorted.0 s))
  ]
]

-- ---- the test of the search

abbrev is_below : ℤ → Booked → Bool
is_below id b = int_lt b.lease.id id

not_below : (l : Lease) (bs : List Booked) (id : ℤ) → int_lt l.id id ≡ false → AllByRecursion (λ m. by_id l m ≡ Less) (leases_of bs) → (i : ℕ) (d : Booked) → i < length bs → is_below id (get_or bs i d) ≡ false
not_below l [] id h all i d lt = absurd (omega (arith, lt))
not_below l (b ∷ bs) id h all zero d lt = (above_after l b.lease id h all.0).lt
not_below l (b ∷ bs) id h all (suc i) d lt = not_below l bs id h all.1 i d (omega (arith, lt))

turn_later : (id : ℤ) (b : Booked) (bs : List Booked) (p : ℕ) → is_below id b ≡ true → TurnsAt (is_below id) bs p → TurnsAt (is_below id) (b ∷ bs) (suc p)
turn_later id b bs p e r = record { in_range = omega (arith, r.in_range); before = low; after = high }
  where
    low : (i : ℕ) (d : Booked) → i < suc p → is_below id (get_or (b ∷ bs) i d) ≡ true
    low zero d lt = e
    low (suc i) d lt = r.before i d (omega (arith, lt))

    high : (i : ℕ) (d : Booked) → suc p ≤ i → i < length (b ∷ bs) → is_below id (get_or (b ∷ bs) i d) ≡ false
    high zero d le lt = absurd (omega (arith, le))
    high (suc i) d le lt = r.after i d (omega (arith, le)) (omega (arith, lt))

turn_first : (id : ℤ) (b : Booked) (bs : List Booked) → is_below id b ≡ false → AllByRecursion (λ m. by_id b.lease m ≡ Less) (leases_of bs) → TurnsAt (is_below id) (b ∷ bs) 0
turn_first id b bs e all = record { in_range = omega arith; before = λ i d lt. absurd (omega (arith, lt)); after = high }
  where
    high : (i : ℕ) (d : Booked) → 0 ≤ i → i < length (b ∷ bs) → is_below id (get_or (b ∷ bs) i d) ≡ false
    high zero d le lt = e
    high (suc i) d le lt = not_below b.lease bs id e all i d (omega (arith, lt))

pub turns : (bs : List Booked) (id : ℤ) → IsStrictlySortedBy by_id (leases_of bs) → TurnsAt (is_below id) bs (ids_below (leases_of bs) id)
unfolding IsStrictlySortedBy
turns [] id sorted = record { in_range = omega arith; before = λ i d lt. absurd (omega (arith, lt)); after = λ i d le lt. absurd (omega (arith, lt)) }
turns (b ∷ bs) id sorted = elim (stand b.lease.id id) [
  | inl s ↦ subst (TurnsAt (is_below id) (b ∷ bs)) (one_more b.lease (leases_of bs) id s.lt) (turn_later id b bs (ids_below (leases_of bs) id) s.lt (turns bs id sorted.1))
  | inr rest ↦ elim rest [
    | inl s ↦ subst (TurnsAt (is_below id) (b ∷ bs)) (none_below b.lease (leases_of bs) id s.lt) (turn_first id b bs s.lt sorted.0)
    | inr s ↦ subst (TurnsAt (is_below id) (b ∷ bs)) (none_below b.lease (leases_of bs) id s.lt) (turn_first id b bs s.lt sorted.0)
  ]
]

-- ---- an item and its lease

pub lease_read : (bs : List Booked) (i : ℕ) (d : Booked) → get_or (leases_of bs) i d.lease ≡ (get_or bs i d).lease
lease_read [] i d = refl
lease_read (b ∷ bs) zero d = refl
lease_read (b ∷ bs) (suc i) d = lease_read bs i d

pub count_leases : (bs : List Booked) → length (leases_of bs) ≡ length bs
count_leases [] = refl
count_leases (b ∷ bs) = ap suc (count_leases bs)

-- ---- what a search finds

module _ (bs : List Booked) (id : ℤ) (q : ℕ) (x : Booked) (sorted : IsStrictlySortedBy by_id (leases_of bs)) (at : q ≡ ids_below (leases_of bs) id) (read : x ≡ get_or bs q x) where
  lease_here : x.lease ≡ get_or (leases_of bs) (ids_below (leases_of bs) id) x.lease
  lease_here = ap (λ b. b.lease) read ∙ sym (lease_read bs q x) ∙ ap (λ n. get_or (leases_of bs) n x.lease) at

  pub found : q < length bs → x.lease.id ≡ id → (d : Booked) → lease_at (leases_of bs) id ≡ Some (get_or bs q d).lease
  found lt is d = elim (look (leases_of bs) id sorted) [
    | inl h ↦ h.at d.lease ∙ ap (λ n. Some (get_or (leases_of bs) n d.lease)) (sym at) ∙ ap Some (lease_read bs q d)
    | inr g ↦ absurd (true≢false (sym ((Decides-int_eq x.lease.id id).1 is) ∙ ap (λ l. int_eq l.id id) lease_here ∙ g.other x.lease (omega (arith, lt, at, count_leases bs))))
  ]

  pub other_there : x.lease.id ≢ id → lease_at (leases_of bs) id ≡ None
  other_there n = elim (look (leases_of bs) id sorted) [
    | inl h ↦ absurd (n ((Decides-int_eq x.lease.id id).0 (ap (λ l. int_eq l.id id) lease_here ∙ h.same x.lease)))
    | inr g ↦ g.at
  ]

pub none_there : (bs : List Booked) (id : ℤ) → IsStrictlySortedBy by_id (leases_of bs) → length bs ≤ ids_below (leases_of bs) id → lease_at (leases_of bs) id ≡ None
none_there bs id sorted end = elim (look (leases_of bs) id sorted) [
  | inl h ↦ absurd (omega (arith, h.place, end, count_leases bs))
  | inr g ↦ g.at
]

-- whether a lease is there, and the lease
pub has_is : (ls : List Lease) (id : ℤ) → is_some (lease_at ls id) ≡ has_lease ls id
has_is [] id = refl
has_is (l ∷ ls) id = step (int_eq l.id id) (has_is ls id)
  where
    step : (b : Bool) → is_some (lease_at ls id) ≡ has_lease ls id → is_some (cond b (Some l) (lease_at ls id)) ≡ (b || has_lease ls id)
    step true rest = refl
    step false rest = rest

pub leases_from : (bs : List Booked) (i : ℕ) (x : Booked) → i < length bs → x ≡ get_or bs i x → drop i (leases_of bs) ≡ x.lease ∷ drop (i + 1) (leases_of bs)
leases_from bs i x lt is = rw add-one (from_suc bs i lt is)
  where
    from_suc : (bs : List Booked) (i : ℕ) → i < length bs → x ≡ get_or bs i x → drop i (leases_of bs) ≡ x.lease ∷ drop (suc i) (leases_of bs)
    from_suc [] i lt is = absurd (omega (arith, lt))
    from_suc (b ∷ bs) zero lt is = ap (λ z. z.lease ∷ leases_of bs) (sym is)
    from_suc (b ∷ bs) (suc i) lt is = from_suc bs i (omega (arith, lt)) is

pub none_from : (bs : List Booked) (i : ℕ) → length bs ≤ i → drop i (leases_of bs) ≡ []
none_from [] zero le = refl
none_from [] (suc i) le = refl
none_from (b ∷ bs) zero le = absurd (omega (arith, le))
none_from (b ∷ bs) (suc i) le = none_from bs i (omega (arith, le))
