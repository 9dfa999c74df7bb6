-- The changes and the leases under cells, after a record came, went or was linked.
use Rattle.std.proofs.Common.{◌≡◌, ℕ, ◌+◌, ◌/◌, ◌%◌, ◌<◌, min, length, Bool, true, false, cond, Option, Some, None, IsSome, IfSome, option_map, if◌then◌else◌, ◌==◌, sym, ap, ◌∙◌, refl, subst, arith, inl, inr}
use mathlib.Core.Path.{fun_ext}
use Rattle.std.specs.Prelude.{option_and_then}
use Rattle.std.specs.Ordering.{nat_cmp}
use Rattle.std.specs.Cmp.{unsigned_tied, nat_cmp_total}
use Rattle.std.specs.FinMap.{FinMap, get, insert, remove, get-insert, get-remove}
use Rattle.std.proofs.lemmas.Bool.{cases_eq}
use Rattle.cell_arena.specs.declared.cell.Kind.{Kind}
use Rattle.cell_arena.specs.declared.cell.Kind.TheVariants.{Put, Delete, Lease}
use Rattle.cell_arena.specs.Chain.{Record}
use Rattle.cell_arena.specs.Region.{record_cost}
use Rattle.etcd_model.specs.Changes.{change_of}
use Rattle.etcd_model.specs.Kept.{cost as cost_of_change}
use Rattle.key_index.specs.Compaction.{cost_of}
use Rattle.key_index.specs.Links.{Linked, with_link, with_older, without}
use Rattle.key_index.specs.Order.{with_record}
use Rattle.key_index.proofs.Links.{if_same, if_other}
use Rattle.revision_store.specs.Recorded.{LeaseRecord, linked_by, linked_of, cells_of, lease_by, leases_of, with_lease_cell, without_lease_cell, IsPlain, ArePlain}

through : {A B : Type 0} (f : A → B) (b : Bool) (x y : A) → f (cond b x y) ≡ cond b (f x) (f y)
through f true x y = refl
through f false x y = refl

-- where one stands at a place, it may be written there
pub same_there : {A : Type 0} (f : ℕ → A) (k q : ℕ) (x : A) → f k ≡ x → (if q == k then x else f q) ≡ f q
same_there f k q x is = elim (cases_eq q k) [
  | inl eq ↦ subst (λ (y : ℕ). (if y == k then x else f y) ≡ f y) (sym eq) (if_same k x (f k) ∙ sym is)
  | inr differs ↦ if_other q k x (f q) differs
]

-- ---- what stands under a cell

pub get_inserted : (m : FinMap nat_cmp Record) (k : ℕ) (r : Record) (q : ℕ) → get (insert m k r) q ≡ cond (q == k) (Some r) (get m q)
get_inserted m k r q = get-insert nat_cmp_total m k r q ∙ ap (λ b. cond b (Some r) (get m q)) (unsigned_tied q k)

pub get_removed : (m : FinMap nat_cmp Record) (k q : ℕ) → get (remove m k) q ≡ cond (q == k) None (get m q)
get_removed m k q = get-remove nat_cmp_total m k q ∙ ap (λ b. cond b None (get m q)) (unsigned_tied q k)

-- what a record is taken for
module _ {A : Type 0} (f : Record → Option A) (m : FinMap nat_cmp Record) (k : ℕ) where
  pub seen_inserted : (r : Record) (q : ℕ) → option_and_then f (get (insert m k r) q) ≡ cond (q == k) (f r) (option_and_then f (get m q))
  seen_inserted r q = ap (option_and_then f) (get_inserted m k r q) ∙ through (option_and_then f) (q == k) (Some r) (get m q)

  pub seen_removed : (q : ℕ) → option_and_then f (get (remove m k) q) ≡ cond (q == k) None (option_and_then f (get m q))
  seen_removed q = ap (option_and_then f) (get_removed m k q) ∙ through (option_and_then f) (q == k) None (get m q)

pub at_some : {A : Type 0} (o : Option A) (P : A → Type 0) (x : A) → o ≡ Some x → IfSome o P → P x
at_some {A} o P x at holds = let F : Option A → Type 0 = λ y. IfSome y P in subst F at holds

-- a change is of a record that is there, which is no lease
pub is_change : (o : Option Record) → IsSome (option_and_then linked_of o) → (r : Record) × (o ≡ Some r) × (lease_by r.kind r ≡ None)
is_change None some = absurd (cc)
is_change (Some r) some = (r, refl, by_kind r.kind r some)
  where
    by_kind : (kind : Kind) (r : Record) → IsSome (linked_by kind r) → lease_by kind r ≡ None
    by_kind Put r some = refl
    by_kind Delete r some = refl
    by_kind Lease r some = absurd (cc)

-- a lease is no change
pub is_lease : (o : Option Record) → IsSome (option_and_then (λ r. lease_by r.kind r) o) → (r : Record) × (o ≡ Some r) × (r.kind ≡ Lease)
is_lease None some = absurd (cc)
is_lease (Some r) some = (r, refl, by_kind r.kind r some)
  where
    by_kind : (kind : Kind) (r : Record) → IsSome (lease_by kind r) → kind ≡ Lease
    by_kind Put r some = absurd (cc)
    by_kind Delete r some = absurd (cc)
    by_kind Lease r some = refl

-- ---- a record comes

module _ (m : FinMap nat_cmp Record) (k : ℕ) (r : Record) where
  pub cells_placed : (e : Linked) → linked_of r ≡ Some e → cells_of (insert m k r) ≡ with_record (cells_of m) k e
  cells_placed e is = fun_ext (λ q. seen_inserted linked_of m k r q ∙ ap (λ (o : Option Linked). cond (q == k) o (cells_of m q)) is)

  pub leases_placed : get m k ≡ None → lease_by r.kind r ≡ None → leases_of (insert m k r) ≡ leases_of m
  leases_placed fresh none = fun_ext (λ q.
      let f : Record → Option LeaseRecord = λ r. lease_by r.kind r in
      seen_inserted f m k r q ∙ same_there (leases_of m) k q (lease_by r.kind r) (ap (option_and_then f) fresh ∙ sym none))

  pub lease_placed : (l : LeaseRecord) → lease_by r.kind r ≡ Some l → leases_of (insert m k r) ≡ with_lease_cell (leases_of m) k l
  lease_placed l is = fun_ext (λ q.
      let f : Record → Option LeaseRecord = λ r. lease_by r.kind r in
      seen_inserted f m k r q ∙ ap (λ (o : Option LeaseRecord). cond (q == k) o (leases_of m q)) is)

  pub cells_beside : get m k ≡ None → linked_of r ≡ None → cells_of (insert m k r) ≡ cells_of m
  cells_beside fresh none = fun_ext (λ q. seen_inserted linked_of m k r q ∙ same_there (cells_of m) k q (linked_of r) (ap (option_and_then linked_of) fresh ∙ sym none))

  pub plain_placed : ArePlain m → IsPlain r → ArePlain (insert m k r)
  plain_placed plain here q x at = by_case (q == k) (sym (get_inserted m k r q) ∙ at)
    where
      by_case : (b : Bool) → cond b (Some r) (get m q) ≡ Some x → IsPlain x
      by_case true is = let same : r ≡ x = cc in subst IsPlain same here
      by_case false is = plain q x is

-- ---- a record is linked

older_linked : (o : Option ℕ) (kind : Kind) (r : Record) → linked_by kind (record r { older = o }) ≡ option_map (with_older o) (linked_by kind r)
older_linked o Put r = refl
older_linked o Delete r = refl
older_linked o Lease r = refl

older_lease : (o : Option ℕ) (kind : Kind) (r : Record) → lease_by kind (record r { older = o }) ≡ lease_by kind r
older_lease o Put r = refl
older_lease o Delete r = refl
older_lease o Lease r = refl

older_plain : (o : Option ℕ) (r : Record) → IsPlain r → IsPlain (record r { older = o })
older_plain o r plain = record { delete = plain.delete; lease = plain.lease }

module _ (m n : FinMap nat_cmp Record) (k : ℕ) (o : Option ℕ) (some : IsSome (cells_of m k)) (set : IfSome (get m k) (λ r. n ≡ insert m k (record r { older = o }))) where
  of_record : (r : Record) → get m k ≡ Some r → n ≡ insert m k (record r { older = o })
  of_record r at = at_some (get m k) (λ (r : Record). n ≡ insert m k (record r { older = o })) r at set

  pub cells_linked : cells_of n ≡ with_link (cells_of m) k o
  cells_linked =
      let h = is_change (get m k) some in
      let r = h.0 in
      let here : cells_of m k ≡ linked_of r = ap (option_and_then linked_of) h.1 in
      fun_ext (λ q.
      ap (λ (x : FinMap nat_cmp Record). cells_of x q) (of_record r h.1)
      ∙ seen_inserted linked_of m k (record r { older = o }) q
      ∙ ap (λ (e : Option Linked). cond (q == k) e (cells_of m q)) (older_linked o r.kind r ∙ ap (option_map (with_older o)) (sym here))
      ∙ (elim (cases_eq q k) [
        | inl eq ↦ ap (λ (x : ℕ). cond (q == k) (option_map (with_older o) (cells_of m x)) (cells_of m q)) (sym eq)
        | inr differs ↦ if_other q k (option_map (with_older o) (cells_of m k)) (cells_of m q) differs ∙ sym (if_other q k (option_map (with_older o) (cells_of m q)) (cells_of m q) differs)
      ]))

  pub leases_linked : leases_of n ≡ leases_of m
  leases_linked =
      let h = is_change (get m k) some in
      let r = h.0 in
      let f : Record → Option LeaseRecord = λ r. lease_by r.kind r in
      fun_ext (λ q.
      ap (λ (x : FinMap nat_cmp Record). leases_of x q) (of_record r h.1)
      ∙ seen_inserted f m k (record r { older = o }) q
      ∙ same_there (leases_of m) k q (lease_by r.kind (record r { older = o })) (ap (option_and_then f) h.1 ∙ sym (older_lease o r.kind r)))

  pub plain_linked : ArePlain m → ArePlain n
  plain_linked plain =
      let h = is_change (get m k) some in
      let r = h.0 in
      subst ArePlain (sym (of_record r h.1)) (plain_placed m k (record r { older = o }) plain (older_plain o r (plain k r h.1)))

-- ---- a record goes

both_pieces : (k v : ℕ) → 1 + (k + v + 47) / 48 ≡ 1 + ((k + v) / 48 + min 1 ((k + v) % 48))
both_pieces k v = omega arith

key_pieces : (k v : ℕ) → v ≡ 0 → 1 + (k + v + 47) / 48 ≡ 1 + (k / 48 + min 1 (k % 48))
key_pieces k v none = omega arith

no_pieces : (k v : ℕ) → k ≡ 0 → v ≡ 0 → 1 + (k + v + 47) / 48 ≡ 1
no_pieces k v no_key none = omega arith

-- what the record of a change costs
linked_cost : (kind : Kind) (r : Record) → r.kind ≡ kind → IsPlain r → IsSome (linked_by kind r) → record_cost r ≡ cost_of (λ x. cost_of_change (change_of x)) (linked_by kind r)
linked_cost Put r is plain some = both_pieces (length r.key) (length r.value)
linked_cost Delete r is plain some = key_pieces (length r.key) (length r.value) (ap length (plain.delete is))
linked_cost Lease r is plain some = absurd (cc)

-- a lease takes one cell
lease_cost : (r : Record) → r.kind ≡ Lease → IsPlain r → record_cost r ≡ 1
lease_cost r is plain = no_pieces (length r.key) (length r.value) (ap length (plain.lease is).0) (ap length (plain.lease is).1)

module _ (m : FinMap nat_cmp Record) (k : ℕ) where
  pub cells_removed : cells_of (remove m k) ≡ without (cells_of m) k
  cells_removed = fun_ext (λ q. seen_removed linked_of m k q)

  pub leases_removed : IsSome (cells_of m k) → leases_of (remove m k) ≡ leases_of m
  leases_removed some =
      let h = is_change (get m k) some in
      let f : Record → Option LeaseRecord = λ r. lease_by r.kind r in
      fun_ext (λ q. seen_removed f m k q ∙ same_there (leases_of m) k q None (ap (option_and_then f) h.1 ∙ h.2))

  pub lease_removed : leases_of (remove m k) ≡ without_lease_cell (leases_of m) k
  lease_removed = fun_ext (λ q. seen_removed (λ r. lease_by r.kind r) m k q)

  pub cells_left : IsSome (leases_of m k) → cells_of (remove m k) ≡ cells_of m
  cells_left some =
      let h = is_lease (get m k) some in
      fun_ext (λ q. seen_removed linked_of m k q ∙ same_there (cells_of m) k q None (ap (option_and_then linked_of) h.1 ∙ ap (λ kind. linked_by kind h.0) h.2))

  pub plain_removed : ArePlain m → ArePlain (remove m k)
  plain_removed plain q x at = by_case (q == k) (sym (get_removed m k q) ∙ at)
    where
      by_case : (b : Bool) → cond b None (get m q) ≡ Some x → IsPlain x
      by_case true is = absurd (cc)
      by_case false is = plain q x is

  module _ (plain : ArePlain m) (free_old free_new : ℕ) (free : IfSome (get m k) (λ r. free_new ≡ free_old + record_cost r)) where
    -- it gives back what it costs
    pub change_freed : IsSome (cells_of m k) → free_new ≡ free_old + cost_of (λ x. cost_of_change (change_of x)) (cells_of m k)
    change_freed some =
        let h = is_change (get m k) some in
        let r = h.0 in
        let here : cells_of m k ≡ linked_of r = ap (option_and_then linked_of) h.1 in
        let back : free_new ≡ free_old + record_cost r = at_some (get m k) (λ (r : Record). free_new ≡ free_old + record_cost r) r h.1 free in
        let same : record_cost r ≡ cost_of (λ x. cost_of_change (change_of x)) (linked_of r) = linked_cost r.kind r refl (plain k r h.1) (subst IsSome here some) in
        back ∙ ap (λ (n : ℕ). free_old + n) (same ∙ ap (cost_of (λ x. cost_of_change (change_of x))) (sym here))

    pub freed_some : IsSome (cells_of m k) → free_old < free_new
    freed_some some =
        let h = is_change (get m k) some in
        let r = h.0 in
        let back : free_new ≡ free_old + record_cost r = at_some (get m k) (λ (r : Record). free_new ≡ free_old + record_cost r) r h.1 free in
        omega (arith, back)

    pub lease_freed : IsSome (leases_of m k) → free_new ≡ free_old + 1
    lease_freed some =
        let h = is_lease (get m k) some in
        let back : free_new ≡ free_old + record_cost h.0 = at_some (get m k) (λ (r : Record). free_new ≡ free_old + record_cost r) h.0 h.1 free in
        back ∙ ap (λ (n : ℕ). free_old + n) (lease_cost h.0 h.2 (plain k h.0 h.1))
