-- The cells of a book have the records of its leases, with one more and without one.
use Rattle.std.proofs.Common.{◌≡◌, ℕ, zero, suc, ◌+◌, ◌<◌, List, [], ◌∷◌, arith, get_or, is_some, length, map, set, refl, sym, ap, ◌∙◌}
use Rattle.std.specs.Prelude.{ℤ, Bool, true, false, Option, Some, None, IsSome, ◌==◌, if◌then◌else◌}
use Rattle.std.specs.List.{AllByRecursion, insert, remove}
use Rattle.std.specs.List.Sorted.{IsStrictlySortedBy}
use Rattle.std.specs.Ordering.{int_cmp}
use Rattle.std.specs.declared.cmp.Ordering.TheVariants.{Less, Equal}
use Rattle.std.proofs.lemmas.Bool.Decides.{Decides-int_eq, Decides-eqb}
use Rattle.std.proofs.lemmas.Cmp.{int_cmp_total, tied_itself}
use Rattle.etcd_model.specs.declared.state.Lease.{Lease}
use Rattle.etcd_model.specs.Held.{by_id}
use Rattle.etcd_model.specs.Leases.{lease_at, put_lease}
use Rattle.etcd_model.specs.Operations.{has_lease}
use Rattle.etcd_model.specs.Order.{put_in}
use Rattle.lease_book.specs.Book.{ids_below}
use Rattle.lease_book.proofs.Changed.{gap, here, map_insert}
use Rattle.model_laws.specs.Leases.{without_lease}
use Rattle.revision_store.specs.Recorded.{LeaseCells, LeaseRecord, with_lease_cell, without_lease_cell}
use Rattle.tenant_machine.specs.Keyed.{lease_record}

abbrev said : List Lease → List (Option LeaseRecord)
said ls = map (λ l. Some (lease_record l)) ls

-- ---- one more

-- a cell that had no lease is none of them
others_stay : (f : LeaseCells) (c : ℕ) (r : LeaseRecord) (cs : List ℕ) (ls : List Lease) → f c ≡ None → map f cs ≡ said ls → map (with_lease_cell f c r) cs ≡ said ls
others_stay f c r [] ls none are = are
others_stay f c r (x ∷ cs) [] none are = let bad : ⊥ = cc in absurd bad
others_stay f c r (x ∷ cs) (l ∷ ls) none are =
    let first : f x ≡ Some (lease_record l) = cc in
    let rest : map f cs ≡ said ls = cc in
    step (x == c) refl first (others_stay f c r cs ls none rest)
  where
    step : (b : Bool) → (x == c) ≡ b → f x ≡ Some (lease_record l) → map (with_lease_cell f c r) cs ≡ said ls → map (with_lease_cell f c r) (x ∷ cs) ≡ said (l ∷ ls)
    step true e first rest =
        let same : x ≡ c = (Decides-eqb x c).0 e in
        let no : Some (lease_record l) ≡ None = sym first ∙ ap f same ∙ none in
        let bad : ⊥ = cc in
        absurd bad
    step false e first rest = ap (λ b. (if b then Some r else f x) ∷ map (with_lease_cell f c r) cs) e ∙ ap (λ o. o ∷ map (with_lease_cell f c r) cs) first ∙ ap (λ os. Some (lease_record l) ∷ os) rest

with_its_own : (f : LeaseCells) (c : ℕ) (r : LeaseRecord) → with_lease_cell f c r c ≡ Some r
with_its_own f c r = ap (λ (b : Bool). if b then Some r else f c) ((Decides-eqb c c).1 refl)

pub recorded_with : (f : LeaseCells) (c : ℕ) (l : Lease) (cs : List ℕ) (ls : List Lease) → IsStrictlySortedBy by_id ls → has_lease ls l.id ≡ false → f c ≡ None → map f cs ≡ said ls
    → map (with_lease_cell f c (lease_record l)) (insert cs (ids_below ls l.id) c) ≡ said (put_in by_id ls l)
recorded_with f c l cs ls up unused none are =
    let g : LeaseCells = with_lease_cell f c (lease_record l) in
    let n = ids_below ls l.id in
    map_insert g cs n c
    ∙ ap (λ os. insert os n (g c)) (others_stay f c (lease_record l) cs ls none are)
    ∙ ap (λ o. insert (said ls) n o) (with_its_own f c (lease_record l))
    ∙ sym (map_insert (λ (m : Lease). Some (lease_record m)) ls n l)
    ∙ ap said (sym ((gap ls l.id up unused).put l refl))

-- ---- one less

-- leases of other IDs have other cells
others_left : (f : LeaseCells) (c : ℕ) (l : Lease) (cs : List ℕ) (ls : List Lease) → f c ≡ Some (lease_record l) → AllByRecursion (λ m. by_id l m ≡ Less) ls → map f cs ≡ said ls → map (without_lease_cell f c) cs ≡ said ls
others_left f c l [] ls is all are = are
others_left f c l (x ∷ cs) [] is all are = let bad : ⊥ = cc in absurd bad
others_left f c l (x ∷ cs) (m ∷ ls) is all are =
    let first : f x ≡ Some (lease_record m) = cc in
    let rest : map f cs ≡ said ls = cc in
    step (x == c) refl first (others_left f c l cs ls is all.1 rest)
  where
    step : (b : Bool) → (x == c) ≡ b → f x ≡ Some (lease_record m) → map (without_lease_cell f c) cs ≡ said ls → map (without_lease_cell f c) (x ∷ cs) ≡ said (m ∷ ls)
    step true e first rest =
        let same : Some (lease_record l) ≡ Some (lease_record m) = sym is ∙ ap f (sym ((Decides-eqb x c).0 e)) ∙ first in
        let joined : lease_record l ≡ lease_record m = cc in
        let ids : l.id ≡ m.id = ap (λ (r : LeaseRecord). r.id) joined in
        let less : Equal ≡ Less = sym (tied_itself int_cmp_total m.id) ∙ ap (λ i. int_cmp i m.id) (sym ids) ∙ all.0 in
        let bad : ⊥ = cc in
        absurd bad
    step false e first rest = ap (λ b. (if b then None else f x) ∷ map (without_lease_cell f c) cs) e ∙ ap (λ o. o ∷ map (without_lease_cell f c) cs) first ∙ ap (λ os. Some (lease_record m) ∷ os) rest

less_at : (l : Lease) (ls : List Lease) (n : ℕ) (d : Lease) → n < length ls → AllByRecursion (λ m. by_id l m ≡ Less) ls → by_id l (get_or ls n d) ≡ Less
less_at l [] n d lt all = absurd (omega (arith, lt))
less_at l (m ∷ ls) zero d lt all = all.0
less_at l (m ∷ ls) (suc n) d lt all = less_at l ls n d (omega (arith, lt)) all.1

-- the record of a lease is under the cell at its place
pub record_at : (f : LeaseCells) (cs : List ℕ) (ls : List Lease) (n : ℕ) (c : ℕ) (l : Lease) → n < length ls → map f cs ≡ said ls → c ≡ get_or cs n c → f c ≡ Some (lease_record (get_or ls n l))
record_at f [] [] n c l lt are at = absurd (omega (arith, lt))
record_at f [] (m ∷ ls) n c l lt are at = let bad : ⊥ = cc in absurd bad
record_at f (x ∷ cs) [] n c l lt are at = absurd (omega (arith, lt))
record_at f (x ∷ cs) (m ∷ ls) zero c l lt are at = let first : f x ≡ Some (lease_record m) = cc in ap f at ∙ first
record_at f (x ∷ cs) (m ∷ ls) (suc n) c l lt are at = let rest : map f cs ≡ said ls = cc in record_at f cs ls n c l (omega (arith, lt)) rest at

left_at : (f : LeaseCells) (cs : List ℕ) (ls : List Lease) (n : ℕ) (c : ℕ) → n < length ls → IsStrictlySortedBy by_id ls → map f cs ≡ said ls → c ≡ get_or cs n c → map (without_lease_cell f c) (remove cs n) ≡ said (remove ls n)
unfolding IsStrictlySortedBy
left_at f [] [] n c lt up are at = absurd (omega (arith, lt))
left_at f [] (m ∷ ls) n c lt up are at = let bad : ⊥ = cc in absurd bad
left_at f (x ∷ cs) [] n c lt up are at = absurd (omega (arith, lt))
left_at f (x ∷ cs) (m ∷ ls) zero c lt up are at =
    let first : f x ≡ Some (lease_record m) = cc in
    let rest : map f cs ≡ said ls = cc in
    others_left f c m cs ls (ap f at ∙ first) up.0 rest
left_at f (x ∷ cs) (m ∷ ls) (suc n) c lt up are at =
    let first : f x ≡ Some (lease_record m) = cc in
    let rest : map f cs ≡ said ls = cc in
    let inside : n < length ls = omega (arith, lt) in
    step (x == c) refl first (record_at f cs ls n c m inside rest at) (less_at m ls n m inside up.0) (left_at f cs ls n c inside up.1 rest at)
  where
    step : (b : Bool) → (x == c) ≡ b → f x ≡ Some (lease_record m) → f c ≡ Some (lease_record (get_or ls n m)) → by_id m (get_or ls n m) ≡ Less → map (without_lease_cell f c) (remove cs n) ≡ said (remove ls n)
        → map (without_lease_cell f c) (x ∷ remove cs n) ≡ said (m ∷ remove ls n)
    step true e first its less more =
        let same : Some (lease_record m) ≡ Some (lease_record (get_or ls n m)) = sym first ∙ ap f ((Decides-eqb x c).0 e) ∙ its in
        let joined : lease_record m ≡ lease_record (get_or ls n m) = cc in
        let ids : m.id ≡ (get_or ls n m).id = ap (λ (r : LeaseRecord). r.id) joined in
        let no : Equal ≡ Less = sym (tied_itself int_cmp_total (get_or ls n m).id) ∙ ap (λ i. int_cmp i (get_or ls n m).id) (sym ids) ∙ less in
        let bad : ⊥ = cc in
        absurd bad
    step false e first its less more = ap (λ b. (if b then None else f x) ∷ map (without_lease_cell f c) (remove cs n)) e ∙ ap (λ o. o ∷ map (without_lease_cell f c) (remove cs n)) first ∙ ap (λ os. Some (lease_record m) ∷ os) more

pub recorded_without : (f : LeaseCells) (cs : List ℕ) (ls : List Lease) (id : ℤ) (c : ℕ) → IsStrictlySortedBy by_id ls → has_lease ls id ≡ true → map f cs ≡ said ls → c ≡ get_or cs (ids_below ls id) c
    → map (without_lease_cell f c) (remove cs (ids_below ls id)) ≡ said (without_lease ls id)
recorded_without f cs ls id c up has are at =
    let h = here ls id up has in
    left_at f cs ls (ids_below ls id) c h.place up are at ∙ ap said (sym h.gone)

pub has_record : (f : LeaseCells) (cs : List ℕ) (ls : List Lease) (id : ℤ) (c : ℕ) → IsStrictlySortedBy by_id ls → has_lease ls id ≡ true → map f cs ≡ said ls → c ≡ get_or cs (ids_below ls id) c → IsSome (f c)
has_record f cs ls id c up has are at = by ls (here ls id up has).place are
  where
    by : (ks : List Lease) → ids_below ls id < length ks → map f cs ≡ said ks → IsSome (f c)
    by [] lt are = absurd (omega (arith, lt))
    by (k ∷ ks) lt are = ap is_some (record_at f cs (k ∷ ks) (ids_below ls id) c k lt are at)

-- ---- a new end

-- a lease with a new end has the same record
same_record : (ls : List Lease) (n : ℕ) (l x : Lease) → lease_record (get_or ls n l) ≡ lease_record x → n < length ls → said (set ls n x) ≡ said ls
same_record [] n l x same lt = absurd (omega (arith, lt))
same_record (m ∷ ls) zero l x same lt = ap (λ r. Some r ∷ said ls) (sym same)
same_record (m ∷ ls) (suc n) l x same lt = ap (λ os. Some (lease_record m) ∷ os) (same_record ls n l x same (omega (arith, lt)))

pub recorded_renewed : (moment : ℕ) (ls : List Lease) (id : ℤ) (l : Lease) → IsStrictlySortedBy by_id ls → has_lease ls id ≡ true → lease_at ls id ≡ Some l → said (put_lease moment ls id l.ttl) ≡ said ls
recorded_renewed moment ls id l up has is =
    let h = here ls id up has in
    let x : Lease = record { id = id; ttl = l.ttl; end = moment + l.ttl } in
    let found : Some (get_or ls (ids_below ls id) l) ≡ Some l = sym (h.at l) ∙ is in
    let one : get_or ls (ids_below ls id) l ≡ l = cc in
    let ids : l.id ≡ id = ap (λ (m : Lease). m.id) (sym one) ∙ (Decides-int_eq (get_or ls (ids_below ls id) l).id id).0 (h.same l) in
    ap said (h.put x refl)
    ∙ same_record ls (ids_below ls id) l x (ap lease_record one ∙ ap (λ i. record { id = i; ttl = l.ttl }) ids) h.place
