-- The ID that is chosen for a lease, and the order in which leases end.
use Rattle.std.proofs.Common.{◌≡◌, ℕ, ◌+◌, ◌<◌, ◌≤◌, List, [], ◌∷◌, length, refl, ap, ◌∙◌, sym, arith, subst, inl, inr}
use Rattle.std.specs.Prelude.{ℤ, pos, Bool, true, false, not, cond, fold, filter, nat_le, if◌then◌else◌}
use Rattle.std.specs.List.{AllByRecursion}
use Rattle.std.specs.List.Sorted.{IsStrictlySortedBy}
use Rattle.std.specs.Cmp.{IsTotalOrder}
use Rattle.std.specs.Ordering.{int_cmp, int_eq, nat_cmp, is_eq, ordering_then}
use Rattle.std.specs.declared.cmp.Ordering.{Ordering}
use Rattle.std.specs.declared.cmp.Ordering.TheVariants.{Less, Equal, Greater}
use Rattle.std.proofs.lemmas.Bool.{or_from, or_left, or_right, false_from_ne_true, true≢false, cases_lt}
use Rattle.std.proofs.lemmas.Bool.Decides.{nat_tests, Decides-int_eq}
use Rattle.std.proofs.lemmas.Cmp.{on_total, then_total, int_cmp_total, nat_cmp_total, tied_itself}
use Rattle.std.proofs.lemmas.List.Kept.{IsStrictlySortedBy-filter}
use Rattle.etcd_model.specs.declared.state.Lease.{Lease}
use Rattle.etcd_model.specs.Order.{beside, put_in, in_order}
use Rattle.etcd_model.specs.Operations.{has_lease}
use Rattle.etcd_model.specs.Leases.{step_past, end_cmp, free_id, run_out, put_lease}
use Rattle.etcd_model.proofs.OrderLaws.{sorted-put_in, sorted-in_order, below_less}
use Rattle.etcd_model.specs.Held.{by_id}

pub by_id_total : IsTotalOrder by_id
by_id_total = on_total (λ (l : Lease). l.id) int_cmp_total

pub end_cmp_total : IsTotalOrder end_cmp
end_cmp_total = then_total (on_total (λ (l : Lease). l.end) nat_cmp_total) (on_total (λ (l : Lease). l.id) int_cmp_total)

pub with_lease_ascends : (moment : ℕ) (leases : List Lease) (id : ℤ) (ttl : ℕ) → IsStrictlySortedBy by_id leases → IsStrictlySortedBy by_id (put_lease moment leases id ttl)
with_lease_ascends moment leases id ttl h = sorted-put_in by_id by_id_total (record { id = id; ttl = ttl; end = moment + ttl }) leases h

pub without_lease_ascends : (leases : List Lease) (id : ℤ) → IsStrictlySortedBy by_id leases → IsStrictlySortedBy by_id (filter (λ l. not (int_eq l.id id)) leases)
without_lease_ascends leases id h = IsStrictlySortedBy-filter by_id (λ (l : Lease). not (int_eq l.id id)) leases h

pub run_out_ascend : (moment : ℕ) (leases : List Lease) → IsStrictlySortedBy end_cmp (run_out moment leases)
run_out_ascend moment leases = sorted-in_order end_cmp end_cmp_total (filter (λ (l : Lease). nat_le l.end moment) leases)

-- ---- the chosen ID

record Least (n : ℕ) (ls : List Lease) (m : ℕ) : Type 0 where
  from : n ≤ m
  free : has_lease ls (pos m) ≡ false
  taken : (k : ℕ) → n ≤ k → k < m → has_lease ls (pos k) ≡ true

same_number : (a b : ℕ) → int_eq (pos a) (pos b) ≡ true → a ≡ b
same_number a b e = grind (arith, nat_tests)

other_number : (a b : ℕ) → a < b → int_eq (pos a) (pos b) ≡ false
other_number a b h = grind (arith, nat_tests)

pub same_id : (a b : ℤ) → int_eq a b ≡ true → a ≡ b
same_id a b e = (Decides-int_eq a b).0 e

-- an ID at most m is none of leases above m
none_above : (m k : ℕ) (ls : List Lease) → k ≤ m → AllByRecursion (λ l. int_cmp (pos m) l.id ≡ Less) ls → has_lease ls (pos k) ≡ false
none_above m k [] h all = refl
none_above m k (l ∷ ls) h all = or_from (int_eq l.id (pos k)) (has_lease ls (pos k)) (false_from_ne_true (int_eq l.id (pos k)) (λ t. not_less (ap (λ z. int_cmp (pos m) z) (sym (same_id l.id (pos k) t)) ∙ all.0))) (none_above m k ls h all.1)
  where
    not_less : int_cmp (pos m) (pos k) ≡ Less → ⊥
    not_less e = grind (arith, nat_tests)

least : (n : ℕ) (ls : List Lease) → IsStrictlySortedBy by_id ls → Least n ls (fold step_past n ls)
unfolding IsStrictlySortedBy
least n [] h = record { from = omega arith; free = refl; taken = λ k low high. absurd (omega (arith, low, high)) }
least n (l ∷ ls) h = elim (int_eq l.id (pos n)) as (λ b. int_eq l.id (pos n) ≡ b → Least n (l ∷ ls) (fold step_past (if b then n + 1 else n) ls)) [
  | true ↦ λ e.
      let r = least (n + 1) ls h.1 in
      let m = fold step_past (n + 1) ls in
      record {
        from = omega (arith, r.from);
        free = or_from (int_eq l.id (pos m)) (has_lease ls (pos m)) (ap (λ z. int_eq z (pos m)) (same_id l.id (pos n) e) ∙ other_number n m (omega (arith, r.from))) r.free;
        taken = λ k low high. elim (cases_lt n k) [
          | inl later ↦ or_right (int_eq l.id (pos k)) (has_lease ls (pos k)) (r.taken k (omega (arith, later)) high)
          | inr now ↦ let is : k ≡ n = omega (arith, low, now) in or_left (int_eq l.id (pos k)) (has_lease ls (pos k)) (ap (λ j. int_eq l.id (pos j)) is ∙ e)
        ];
      }
  | false ↦ λ e.
      let r = least n ls h.1 in
      let m = fold step_past n ls in
      record {
        from = r.from;
        free = or_from (int_eq l.id (pos m)) (has_lease ls (pos m)) (false_from_ne_true (int_eq l.id (pos m)) (λ t. let is : l.id ≡ pos m = same_id l.id (pos m) t in
            elim (cases_lt n m) [
              | inl later ↦ true≢false (sym (r.taken n (omega arith) later) ∙ none_above m n ls r.from (subst (λ z. AllByRecursion (λ (x : Lease). int_cmp z x.id ≡ Less) ls) is h.0))
              | inr now ↦ let same : m ≡ n = omega (arith, now, r.from) in true≢false (sym t ∙ ap (λ j. int_eq l.id (pos j)) same ∙ e)
            ])) r.free;
        taken = λ k low high. or_right (int_eq l.id (pos k)) (has_lease ls (pos k)) (r.taken k low high);
      }
] refl

pub free_id_is_least : (counter : ℕ) (leases : List Lease) → IsStrictlySortedBy by_id leases
    → (counter ≤ free_id counter leases) × (has_lease leases (pos (free_id counter leases)) ≡ false)
    × ((n : ℕ) → counter ≤ n → n < free_id counter leases → has_lease leases (pos n) ≡ true)
free_id_is_least counter leases h = let r = least counter leases h in (r.from, r.free, r.taken)

-- ---- a filter that cannot tell apart what ties

pub filter-swap : {X : Type 0} (p q : X → Bool) (xs : List X) → filter p (filter q xs) ≡ filter q (filter p xs)
filter-swap p q [] = refl
filter-swap p q (x ∷ xs) = step (filter-swap p q xs) (p x) (q x) refl refl
  where
    step : filter p (filter q xs) ≡ filter q (filter p xs) → (b c : Bool) → p x ≡ b → q x ≡ c → filter p (cond c (x ∷ filter q xs) (filter q xs)) ≡ filter q (cond b (x ∷ filter p xs) (filter p xs))
    step rest true true e f = ap (λ b. cond b (x ∷ filter p (filter q xs)) (filter p (filter q xs))) e ∙ ap (λ ys. x ∷ ys) rest ∙ sym (ap (λ b. cond b (x ∷ filter q (filter p xs)) (filter q (filter p xs))) f)
    step rest true false e f = rest ∙ sym (ap (λ b. cond b (x ∷ filter q (filter p xs)) (filter q (filter p xs))) f)
    step rest false true e f = ap (λ b. cond b (x ∷ filter p (filter q xs)) (filter p (filter q xs))) e ∙ rest
    step rest false false e f = rest

-- before all that come after it
pub put_first : {X : Type 0} (cmp : X → X → Ordering) (x : X) (zs : List X) → AllByRecursion (λ z. cmp x z ≡ Less) zs → put_in cmp zs x ≡ x ∷ zs
put_first cmp x [] h = refl
put_first cmp x (z ∷ zs) h = ap (λ o. beside o x z zs (put_in cmp zs x)) h.0

module _ {X : Type 0} (cmp : X → X → Ordering) (total : IsTotalOrder cmp) (p : X → Bool) (tied : (x y : X) → cmp x y ≡ Equal → p x ≡ p y) where
  all_filter : (P : X → Type 0) (xs : List X) → AllByRecursion P xs → AllByRecursion P (filter p xs)
  all_filter P [] all = tt
  all_filter P (x ∷ xs) all = elim (p x) as (λ b. AllByRecursion P (cond b (x ∷ filter p xs) (filter p xs))) [ true ↦ (all.0, all_filter P xs all.1) | false ↦ all_filter P xs all.1 ]

  filter-put_in : (x : X) (ys : List X) → IsStrictlySortedBy cmp ys → filter p (put_in cmp ys x) ≡ cond (p x) (put_in cmp (filter p ys) x) (filter p ys)
  unfolding IsStrictlySortedBy
  filter-put_in x [] h = refl
  filter-put_in x (y ∷ ys) h = elim (cmp x y) as (λ o. cmp x y ≡ o → filter p (beside o x y ys (put_in cmp ys x)) ≡ cond (p x) (put_in cmp (filter p (y ∷ ys)) x) (filter p (y ∷ ys))) [
    | Less ↦ λ e. ap (λ zs. cond (p x) zs (filter p (y ∷ ys))) (sym (put_first cmp x (filter p (y ∷ ys)) (all_filter (λ z. cmp x z ≡ Less) (y ∷ ys) (e, below_less cmp total x y e ys h.0))))
    | Equal ↦ λ e. equal e (p x) (p y) (tied x y e)
    | Greater ↦ λ e. ap (λ zs. cond (p y) (y ∷ zs) zs) (filter-put_in x ys h.1) ∙ greater e (p x) (p y)
  ] refl
    where
      equal : cmp x y ≡ Equal → (b c : Bool) → b ≡ c → cond b (x ∷ filter p ys) (filter p ys) ≡ cond b (put_in cmp (cond c (y ∷ filter p ys) (filter p ys)) x) (cond c (y ∷ filter p ys) (filter p ys))
      equal e true true same = sym (ap (λ o. beside o x y (filter p ys) (put_in cmp (filter p ys) x)) e)
      equal e true false same = absurd (true≢false same)
      equal e false true same = absurd (true≢false (sym same))
      equal e false false same = refl

      greater : cmp x y ≡ Greater → (b c : Bool) → cond c (y ∷ cond b (put_in cmp (filter p ys) x) (filter p ys)) (cond b (put_in cmp (filter p ys) x) (filter p ys)) ≡ cond b (put_in cmp (cond c (y ∷ filter p ys) (filter p ys)) x) (cond c (y ∷ filter p ys) (filter p ys))
      greater e true true = sym (ap (λ o. beside o x y (filter p ys) (put_in cmp (filter p ys) x)) e)
      greater e true false = refl
      greater e false true = refl
      greater e false false = refl

  filter_fold : (xs ys : List X) → IsStrictlySortedBy cmp ys → filter p (fold (put_in cmp) ys xs) ≡ fold (put_in cmp) (filter p ys) (filter p xs)
  filter_fold [] ys h = refl
  filter_fold (x ∷ xs) ys h =
      filter_fold xs (put_in cmp ys x) (sorted-put_in cmp total x ys h)
      ∙ ap (λ zs. fold (put_in cmp) zs (filter p xs)) (filter-put_in x ys h)
      ∙ out (p x)
    where
      out : (b : Bool) → fold (put_in cmp) (cond b (put_in cmp (filter p ys) x) (filter p ys)) (filter p xs) ≡ fold (put_in cmp) (filter p ys) (cond b (x ∷ filter p xs) (filter p xs))
      out true = refl
      out false = refl

  pub filter-in_order : (xs : List X) → filter p (in_order cmp xs) ≡ in_order cmp (filter p xs)
  unfolding IsStrictlySortedBy
  filter-in_order xs = filter_fold xs [] tt

-- ---- the first lease that ends, and the rest

abbrev has_id : ℤ → Lease → Bool
has_id id l = int_eq l.id id

abbrev other_id : ℤ → Lease → Bool
other_id id l = not (int_eq l.id id)

pub ends_alike : (a b : Lease) → end_cmp a b ≡ Equal → a.id ≡ b.id
ends_alike a b e = same_id a.id b.id (second (nat_cmp a.end b.end) (int_cmp a.id b.id) e)
  where
    second : (o q : Ordering) → ordering_then o q ≡ Equal → is_eq q ≡ true
    second Less q h = let bad : ⊥ = cc in absurd bad
    second Equal q h = ap is_eq h
    second Greater q h = let bad : ⊥ = cc in absurd bad

no_id_above : (id : ℤ) (ls : List Lease) → AllByRecursion (λ l. int_cmp id l.id ≡ Less) ls → filter (has_id id) ls ≡ []
no_id_above id [] all = refl
no_id_above id (l ∷ ls) all =
    ap (λ b. cond b (l ∷ filter (has_id id) ls) (filter (has_id id) ls)) (false_from_ne_true (int_eq l.id id) (λ t. not_itself (ap (int_cmp id) (sym (same_id l.id id t)) ∙ all.0)))
    ∙ no_id_above id ls all.1
  where
    not_itself : int_cmp id id ≡ Less → ⊥
    not_itself e = let same : int_cmp id id ≡ Equal = tied_itself int_cmp_total id in let bad : ⊥ = cc in bad

pub one_of_id : (id : ℤ) (ls : List Lease) → IsStrictlySortedBy by_id ls → length (filter (has_id id) ls) ≤ 1
unfolding IsStrictlySortedBy
one_of_id id [] h = omega arith
one_of_id id (l ∷ ls) h = elim (int_eq l.id id) as (λ b. int_eq l.id id ≡ b → length (cond b (l ∷ filter (has_id id) ls) (filter (has_id id) ls)) ≤ 1) [
  | true ↦ λ t.
      let none : filter (has_id id) ls ≡ [] = no_id_above id ls (subst (λ z. AllByRecursion (λ (x : Lease). int_cmp z x.id ≡ Less) ls) (same_id l.id id t) h.0) in
      omega (arith, ap length none)
  | false ↦ λ t. one_of_id id ls h.1
] refl

few_in_order : (xs : List Lease) → length xs ≤ 1 → length (in_order end_cmp xs) ≤ 1
few_in_order [] h = omega arith
few_in_order (x ∷ []) h = omega arith
few_in_order (x ∷ y ∷ xs) h = absurd (omega (arith, h))

-- where no other has the ID, those without it are all
others_stay : (id : ℤ) (ls : List Lease) → length (filter (has_id id) ls) ≤ 0 → filter (other_id id) ls ≡ ls
others_stay id [] h = refl
others_stay id (l ∷ ls) h = step (others_stay id ls) (int_eq l.id id) h
  where
    step : (length (filter (has_id id) ls) ≤ 0 → filter (other_id id) ls ≡ ls) → (b : Bool) → length (cond b (l ∷ filter (has_id id) ls) (filter (has_id id) ls)) ≤ 0 → cond (not b) (l ∷ filter (other_id id) ls) (filter (other_id id) ls) ≡ l ∷ ls
    step rest true few = absurd (omega (arith, few))
    step rest false few = ap (λ xs. l ∷ xs) (rest few)

pub run_out_rest : (moment : ℕ) (leases : List Lease) (first : Lease) (rest : List Lease) → IsStrictlySortedBy by_id leases
    → run_out moment leases ≡ first ∷ rest → run_out moment (filter (λ l. not (int_eq l.id first.id)) leases) ≡ rest
run_out_rest moment leases first rest sorted is =
    let due : Lease → Bool = λ l. nat_le l.end moment in
    let id = first.id in
    let here : int_eq first.id id ≡ true = (Decides-int_eq first.id id).1 refl in
    let few : length (filter (has_id id) (first ∷ rest)) ≤ 1 =
    subst (λ xs. length (filter (has_id id) xs) ≤ 1) is
    (subst (λ xs. length xs ≤ 1) (sym (filter-in_order end_cmp end_cmp_total (has_id id) (λ a b e. ap (λ z. int_eq z id) (ends_alike a b e)) (filter due leases)))
    (few_in_order (filter (has_id id) (filter due leases)) (one_of_id id (filter due leases) (IsStrictlySortedBy-filter by_id due leases sorted)))) in
    let none : length (filter (has_id id) rest) ≤ 0 = fewer (int_eq first.id id) here few in
    ap (in_order end_cmp) (filter-swap due (other_id id) leases)
    ∙ sym (filter-in_order end_cmp end_cmp_total (other_id id) (λ a b e. ap (λ z. not (int_eq z id)) (ends_alike a b e)) (filter due leases))
    ∙ ap (filter (other_id id)) is
    ∙ ap (λ b. cond (not b) (first ∷ filter (other_id id) rest) (filter (other_id id) rest)) here
    ∙ others_stay id rest none
  where
    fewer : (b : Bool) → b ≡ true → length (cond b (first ∷ filter (has_id first.id) rest) (filter (has_id first.id) rest)) ≤ 1 → length (filter (has_id first.id) rest) ≤ 0
    fewer true t h = omega (arith, h)
    fewer false t h = absurd (true≢false (sym t))
