-- What has run out ends, one lease after another.
use Rattle.std.proofs.Common.{◌≡◌, ℕ, ◌<◌, ◌≤◌, List, [], ◌∷◌, arith, drop, length, refl, sym, ap, ◌∙◌, subst}
use Rattle.std.specs.Prelude.{ℤ, Bool, true, false, cond, ◌||◌, filter, nat_le, option_map, slice_get, Some, None}
use Rattle.std.specs.List.{AllByRecursion, list_any}
use Rattle.std.specs.List.Sorted.{IsStrictlySortedBy}
use Rattle.std.specs.Ordering.{int_eq}
use Rattle.std.proofs.lemmas.Bool.Decides.{Decides-int_eq}
use Rattle.etcd_model.specs.declared.state.Lease.{Lease}
use Rattle.etcd_model.specs.declared.state.State.{State}
use Rattle.etcd_model.specs.Held.{by_id}
use Rattle.etcd_model.specs.Leases.{finish, run_out}
use Rattle.etcd_model.specs.Operations.{has_lease}
use Rattle.etcd_model.specs.Store.{Store, kept_store}
use Rattle.model_laws.specs.Leases.{ends}
use Rattle.model_laws.proofs.EndsLaws.{in_order_among, is_among}
use Rattle.model_laws.proofs.LeaseLaws.{run_out_rest}
use Rattle.model_laws.proofs.OpeningLaws.{ends_one_by_one}
use Rattle.tenant_machine.specs.Keyed.{IsTimely}
use Rattle.tenant_machine.specs.Tenants.{MachineState, tenant, with_due}

turned : (a b : ℤ) → int_eq a b ≡ int_eq b a
turned a b = by (int_eq a b) (int_eq b a) refl refl
  where
    by : (p q : Bool) → int_eq a b ≡ p → int_eq b a ≡ q → p ≡ q
    by true true e f = refl
    by false false e f = refl
    by true false e f = sym ((Decides-int_eq b a).1 (sym ((Decides-int_eq a b).0 e))) ∙ f
    by false true e f = sym e ∙ (Decides-int_eq a b).1 (sym ((Decides-int_eq b a).0 f))

is_had : (ls : List Lease) (l : Lease) → is_among ls l ≡ has_lease ls l.id
is_had [] l = refl
is_had (m ∷ ls) l = ap (λ b. b || is_among ls l) (turned l.id m.id) ∙ ap (λ b. int_eq m.id l.id || b) (is_had ls l)

among_more : (p : Lease → Bool) (ls : List Lease) (id : ℤ) → has_lease (filter p ls) id ≡ true → has_lease ls id ≡ true
among_more p [] id h = h
among_more p (m ∷ ls) id h = step (p m) (int_eq m.id id) refl (among_more p ls id) h
  where
    step : (b c : Bool) → int_eq m.id id ≡ c → (has_lease (filter p ls) id ≡ true → has_lease ls id ≡ true) → list_any (λ (x : Lease). int_eq x.id id) (cond b (m ∷ filter p ls) (filter p ls)) ≡ true → (c || has_lease ls id) ≡ true
    step b true e rest g = refl
    step true false e rest g = rest (sym (ap (λ t. t || has_lease (filter p ls) id) e) ∙ g)
    step false false e rest g = rest g

-- a lease that has run out is there
pub due_is_there : (moment : ℕ) (ls : List Lease) (first : Lease) (rest : List Lease) → run_out moment ls ≡ first ∷ rest → has_lease ls first.id ≡ true
due_is_there moment ls first rest is =
    let here : is_among (first ∷ rest) first ≡ true = ap (λ b. b || is_among rest first) ((Decides-int_eq first.id first.id).1 refl) in
    among_more (λ l. nat_le l.end moment) ls first.id
    (sym (is_had (filter (λ (l : Lease). nat_le l.end moment) ls) first) ∙ sym (in_order_among moment ls first) ∙ ap (λ es. is_among es first) is ∙ here)

-- the first of some
pub record IsFirst (due : List Lease) (id : ℤ) : Type 0 where
  pub first : Lease
  pub rest : List Lease
  pub due_is : due ≡ first ∷ rest
  pub id_is : first.id ≡ id

pub taken : (due : List Lease) (id : ℤ) → Some id ≡ option_map (λ l. l.id) (slice_get due 0) → IsFirst due id
taken [] id is = let bad : ⊥ = cc in absurd bad
taken (l ∷ ls) id is = let same : id ≡ l.id = cc in record { first = l; rest = ls; due_is = refl; id_is = sym same }

pub none_taken : (due : List Lease) → None ≡ option_map (λ (l : Lease). l.id) (slice_get due 0) → due ≡ []
none_taken [] is = refl
none_taken (l ∷ ls) is = let bad : ⊥ = cc in absurd bad

-- they stay timely at a later moment
pub timely_later : (moment later : ℕ) (ls : List Lease) → moment ≤ later → AllByRecursion (IsTimely moment) ls → AllByRecursion (IsTimely later) ls
timely_later moment later [] le all = tt
timely_later moment later (l ∷ ls) le all = (record { chosen = all.0.chosen; end = omega (arith, le, all.0.end) }, timely_later moment later ls le all.1)

-- ---- one of them ends

module _ (m n o : MachineState) (id : ℤ) (up : IsStrictlySortedBy by_id m.leases.leases) (due : m.leases.due ≡ run_out m.moment m.leases.leases) (some : Some id ≡ option_map (λ l. l.id) (slice_get m.leases.due 0))
    (took : n ≡ with_due m (drop 1 m.leases.due)) where
  it : IsFirst m.leases.due id
  it = taken m.leases.due id some

  ran_out : run_out m.moment m.leases.leases ≡ it.first ∷ it.rest
  ran_out = sym due ∙ it.due_is

  pub is_there : has_lease n.leases.leases id ≡ true
  is_there = subst (λ (a : MachineState). has_lease a.leases.leases id ≡ true) (sym took) (subst (λ z. has_lease m.leases.leases z ≡ true) it.id_is (due_is_there m.moment m.leases.leases it.first it.rest ran_out))

  module _ (ended : tenant o ≡ finish kept_store (tenant n) id) (left : o.leases.due ≡ n.leases.due) where
    done : tenant o ≡ finish kept_store (tenant m) it.first.id
    done = ended ∙ ap (λ (a : MachineState). finish kept_store (tenant a) id) took ∙ ap (finish kept_store (tenant m)) (sym it.id_is)

    rest_is : o.leases.due ≡ it.rest
    rest_is = left ∙ ap (λ (a : MachineState). a.leases.due) took ∙ ap (drop 1) it.due_is

    pub due_still : o.leases.due ≡ run_out o.moment o.leases.leases
    due_still =
        rest_is
        ∙ sym (run_out_rest m.moment m.leases.leases it.first it.rest up ran_out)
        ∙ sym (ap (λ (t : State Store). run_out t.moment t.leases) done)

    pub ends_still : ends (tenant o) ≡ ends (tenant m)
    ends_still = ap ends done ∙ sym (ends_one_by_one (tenant m) it.first it.rest up ran_out)

    pub fewer_due : length o.leases.due < length m.leases.due
    fewer_due = omega (arith, ap length rest_is, ap length it.due_is)
