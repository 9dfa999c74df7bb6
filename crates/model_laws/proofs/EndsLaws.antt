-- Once all that have run out have ended, those that run on are left.
use Rattle.std.proofs.Common.{◌≡◌, ℕ, List, [], ◌∷◌, refl, sym, ap, ◌∙◌, arith, inl, inr, subst}
use Rattle.std.specs.Prelude.{ℤ, Bool, true, false, not, cond, ◌||◌, nat_le, nat_lt, filter, fold}
use Rattle.std.specs.List.{AllByRecursion, list_any}
use Rattle.std.specs.List.Sorted.{IsStrictlySortedBy}
use Rattle.std.specs.Ordering.{int_cmp, int_eq, is_eq, ordering_reverse}
use Rattle.std.specs.declared.cmp.Ordering.TheVariants.{Less}
use Rattle.std.proofs.lemmas.Bool.Decides.{nat_tests}
use Rattle.std.proofs.lemmas.Cmp.{int_cmp_total, tied_itself}
use Rattle.etcd_model.specs.declared.state.Lease.{Lease}
use Rattle.etcd_model.specs.declared.state.State.{State}
use Rattle.etcd_model.specs.Held.{by_id}
use Rattle.etcd_model.specs.Leases.{end_cmp, run_out, finish}
use Rattle.etcd_model.specs.Store.{Store, kept_store}
use Rattle.etcd_model.proofs.OrderLaws.{any-in_order}
use Rattle.model_laws.specs.Leases.{without_lease, ends}
use Rattle.model_laws.specs.Recording.{IsIn}
use Rattle.model_laws.proofs.LastIsLaws.{all_in}
use Rattle.model_laws.proofs.LeaseLaws.{ends_alike}

-- ---- one after another they go

finish_leaves : (t : State Store) (es : List Lease) → (fold (λ u l. finish kept_store u l.id) t es).leases ≡ fold (λ xs e. without_lease xs e.id) t.leases es
finish_leaves t [] = refl
finish_leaves t (e ∷ es) = finish_leaves (finish kept_store t e.id) es

-- one of the leases has the ID of this one
abbrev pub is_among : List Lease → Lease → Bool
is_among es l = list_any (λ e. int_eq l.id e.id) es

pub filter_all : {X : Type 0} (xs : List X) → filter (λ x. not false) xs ≡ xs
filter_all [] = refl
filter_all (x ∷ xs) = ap (λ ys. x ∷ ys) (filter_all xs)

pub filter_twice : {X : Type 0} (p q : X → Bool) (xs : List X) → filter (λ x. not (q x)) (filter (λ x. not (p x)) xs) ≡ filter (λ x. not (p x || q x)) xs
filter_twice p q [] = refl
filter_twice p q (x ∷ xs) = step (p x) (q x) refl (filter_twice p q xs)
  where
    step : (b c : Bool) → q x ≡ c → filter (λ y. not (q y)) (filter (λ y. not (p y)) xs) ≡ filter (λ y. not (p y || q y)) xs
        → filter (λ y. not (q y)) (cond (not b) (x ∷ filter (λ y. not (p y)) xs) (filter (λ y. not (p y)) xs)) ≡ cond (not (b || q x)) (x ∷ filter (λ y. not (p y || q y)) xs) (filter (λ y. not (p y || q y)) xs)
    step true c e rest = rest
    step false c e rest = ap (λ ys. cond (not (q x)) (x ∷ ys) ys) rest

leave_is : (ls es : List Lease) → fold (λ xs e. without_lease xs e.id) ls es ≡ filter (λ l. not (is_among es l)) ls
leave_is ls [] = sym (filter_all ls)
leave_is ls (e ∷ es) = leave_is (without_lease ls e.id) es ∙ filter_twice (λ l. int_eq l.id e.id) (is_among es) ls

-- ---- who is among those that have run out

abbrev has_run_out : ℕ → Lease → Bool
has_run_out moment l = nat_le l.end moment

not_the_same : (a b : ℤ) → int_cmp a b ≡ Less → int_eq a b ≡ false
not_the_same a b e = ap is_eq e

not_the_same_back : (a b : ℤ) → int_cmp a b ≡ Less → int_eq b a ≡ false
not_the_same_back a b e = ap is_eq (int_cmp_total.antisymm b a ∙ ap ordering_reverse e)

none_later : (moment : ℕ) (l : Lease) (ls : List Lease) → AllByRecursion (λ m. by_id l m ≡ Less) ls → is_among (filter (has_run_out moment) ls) l ≡ false
none_later moment l [] all = refl
none_later moment l (m ∷ ms) all = step (has_run_out moment m) (none_later moment l ms all.1)
  where
    step : (b : Bool) → is_among (filter (has_run_out moment) ms) l ≡ false → is_among (cond b (m ∷ filter (has_run_out moment) ms) (filter (has_run_out moment) ms)) l ≡ false
    step true rest = ap (λ b. b || is_among (filter (has_run_out moment) ms) l) (not_the_same l.id m.id all.0) ∙ rest
    step false rest = rest

here : (id : ℤ) → int_eq id id ≡ true
here id = ap is_eq (tied_itself int_cmp_total id)

pub among : (moment : ℕ) (ls : List Lease) (l : Lease) → IsStrictlySortedBy by_id ls → IsIn l ls → is_among (filter (has_run_out moment) ls) l ≡ has_run_out moment l
unfolding IsStrictlySortedBy
among moment [] l sorted there = absurd there
among moment (x ∷ xs) l sorted there = elim there [
  | inl is ↦ subst (λ z. is_among (filter (has_run_out moment) (x ∷ xs)) z ≡ has_run_out moment z) (sym is) (first (has_run_out moment x) (none_later moment x xs sorted.0))
  | inr later ↦ rest (has_run_out moment x) (not_the_same_back x.id l.id (all_in (λ m. by_id x m ≡ Less) xs l sorted.0 later)) (among moment xs l sorted.1 later)
]
  where
    first : (b : Bool) → is_among (filter (has_run_out moment) xs) x ≡ false → is_among (cond b (x ∷ filter (has_run_out moment) xs) (filter (has_run_out moment) xs)) x ≡ b
    first true none = ap (λ b. b || is_among (filter (has_run_out moment) xs) x) (here x.id)
    first false none = none

    rest : (b : Bool) → int_eq l.id x.id ≡ false → is_among (filter (has_run_out moment) xs) l ≡ has_run_out moment l → is_among (cond b (x ∷ filter (has_run_out moment) xs) (filter (has_run_out moment) xs)) l ≡ has_run_out moment l
    rest true other same = ap (λ b. b || is_among (filter (has_run_out moment) xs) l) other ∙ same
    rest false other same = same

pub in_order_among : (moment : ℕ) (ls : List Lease) (l : Lease) → is_among (run_out moment ls) l ≡ is_among (filter (has_run_out moment) ls) l
in_order_among moment ls l =
    any-in_order end_cmp (λ e. int_eq l.id e.id) (λ x y tie. ap (λ i. int_eq l.id i) (sym (ends_alike x y tie))) (filter (has_run_out moment) ls)

runs_on : (end moment : ℕ) → not (nat_le end moment) ≡ nat_lt moment end
runs_on end moment = grind (arith, nat_tests)

same_filter : (p q : Lease → Bool) (xs : List Lease) → ((x : Lease) → IsIn x xs → p x ≡ q x) → filter p xs ≡ filter q xs
same_filter p q [] same = refl
same_filter p q (x ∷ xs) same = step (p x) (q x) (same x (inl refl)) (same_filter p q xs (λ y there. same y (inr there)))
  where
    step : (b c : Bool) → b ≡ c → filter p xs ≡ filter q xs → cond b (x ∷ filter p xs) (filter p xs) ≡ cond c (x ∷ filter q xs) (filter q xs)
    step b c e rest = ap (λ t. cond t (x ∷ filter p xs) (filter p xs)) e ∙ ap (λ ys. cond c (x ∷ ys) ys) rest

pub ends_leave : (t : State Store) → IsStrictlySortedBy by_id t.leases → (ends t).leases ≡ filter (λ l. nat_lt t.moment l.end) t.leases
ends_leave t sorted =
    finish_leaves t (run_out t.moment t.leases)
    ∙ leave_is t.leases (run_out t.moment t.leases)
    ∙ same_filter (λ l. not (is_among (run_out t.moment t.leases) l)) (λ l. nat_lt t.moment l.end) t.leases
    (λ l there. ap not (in_order_among t.moment t.leases l ∙ among t.moment t.leases l sorted there) ∙ runs_on l.end t.moment)
