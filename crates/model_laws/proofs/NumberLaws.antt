-- The numbers of a row are within the revision that wrote it.
use Rattle.std.proofs.Common.{◌≡◌, ℕ, ◌+◌, ◌<◌, ◌≤◌, List, [], ◌∷◌, length, refl, sym, arith, subst, map}
use Rattle.std.specs.Prelude.{fold, filter, Option, Some, None, IfSome, nat_le, option_and_then}
use Rattle.std.specs.List.{All, AllByRecursion}
use Rattle.std.specs.Str.{bytes_eq}
use Rattle.std.proofs.lemmas.Bool.{and_parts, leb-true}
use Rattle.std.proofs.lemmas.List.Elements.{All-head, All-tail}
use Rattle.std.proofs.lemmas.List.Sums.{fold-append}
use Rattle.etcd_types.specs.declared.key_value.KeyValue.{KeyValue}
use Rattle.etcd_model.specs.declared.state.Change.{Change}
use Rattle.etcd_model.specs.declared.state.History.{History}
use Rattle.etcd_model.specs.declared.state.Change.TheVariants.{Put as Set, Delete as Del}
use Rattle.etcd_model.specs.History.{key_of, entries_after}
use Rattle.etcd_model.specs.Changes.{Recorded, entry_at, next_row, is_up_to, last, live, recorded, record_change, record_revision, ChangesOnce, recorded_changes, kept}
use Rattle.model_laws.specs.Once.{IsOnce}
use Rattle.model_laws.specs.Numbers.{IsWithin, HasNumbers}
use Rattle.model_laws.proofs.LastLaws.{all_last, last_passes}
use Rattle.model_laws.proofs.KeptLaws.{all_kept}
use Rattle.model_laws.proofs.RecordedLaws.{all_append, all_weaker}
use Rattle.model_laws.proofs.SpaceLaws.{all_up}
use Rattle.model_laws.proofs.OnceStoreLaws.{recorded_where_once}

later : (m n : ℕ) (row : KeyValue) → m ≤ n → IsWithin m row → IsWithin n row
later m n row h is = record { version = omega (arith, h, is.version); created = omega (arith, h, is.created); changed = omega (arith, h, is.changed) }

-- of the last change that passes
from_last : (n : ℕ) (o : Option Recorded) (row : KeyValue) → ((x : Recorded) → o ≡ Some x → HasNumbers x × (x.revision ≤ n)) → option_and_then (λ (x : Recorded). x.row) o ≡ Some row → IsWithin n row
from_last n None row each h = let bad : ⊥ = cc in absurd bad
from_last n (Some x) row each h = let parts = each x refl in later x.revision n row parts.1 (subst (λ o. IfSome o (IsWithin x.revision)) h parts.0)

pub live_is_within : (key : List ℕ) (r : ℕ) (xs : List Recorded) (row : KeyValue) → AllByRecursion HasNumbers xs → live key r xs ≡ Some row → IsWithin r row
live_is_within key r xs row all h = from_last r (last key r xs) row (λ x is. (all_last (is_up_to key r) HasNumbers xs x all is, leb-true x.revision r (and_parts (bytes_eq x.key key) (nat_le x.revision r) (last_passes (is_up_to key r) xs x is)).1)) h

pub kept_have_numbers : (c : ℕ) (xs : List Recorded) → AllByRecursion HasNumbers xs → AllByRecursion HasNumbers (kept c xs)
kept_have_numbers c xs all = all_kept HasNumbers c xs all

-- by one more change at revision n, of a row from before it
next_within : (n : ℕ) (o : Option KeyValue) (c : Change) → 1 ≤ n → ((row : KeyValue) → o ≡ Some row → (row.version < n) × (row.create_revision ≤ n)) → IfSome (next_row n o c) (λ row. IsWithin n row)
next_within n o (Del key) some each = tt
next_within n None (Set key value lease) some each = record { version = omega (arith, some); created = omega arith; changed = omega arith }
next_within n (Some row) (Set key value lease) some each = let parts = each row refl in record { version = omega (arith, parts.0); created = omega (arith, parts.1); changed = omega arith }

-- what a key shows, where all changes are from before n
before_last : (n : ℕ) (o : Option Recorded) (row : KeyValue) → ((x : Recorded) → o ≡ Some x → HasNumbers x × (x.revision < n)) → option_and_then (λ (x : Recorded). x.row) o ≡ Some row → (row.version < n) × (row.create_revision ≤ n)
before_last n None row each h = let bad : ⊥ = cc in absurd bad
before_last n (Some x) row each h =
    let parts = each x refl in
    let is : IsWithin x.revision row = subst (λ o. IfSome o (IsWithin x.revision)) h parts.0 in
    (omega (arith, is.version, parts.1), omega (arith, is.created, parts.1))

recorded_numbers : (n : ℕ) (xs : List Recorded) (cs : List Change) → 1 ≤ n → AllByRecursion HasNumbers xs → AllByRecursion (λ x. x.revision < n) xs → AllByRecursion HasNumbers (map (λ c. recorded xs (entry_at n c)) cs)
recorded_numbers n xs [] some all below = tt
recorded_numbers n xs (c ∷ cs) some all below = (
  next_within n (live (key_of c) n xs) c some
      (λ row h. before_last n (last (key_of c) n xs) row (λ x is. (all_last (is_up_to (key_of c) n) HasNumbers xs x all is, all_last (is_up_to (key_of c) n) (λ (y : Recorded). y.revision < n) xs x below is)) h),
  recorded_numbers n xs cs some all below,
)

pub recorded_have_numbers : (n : ℕ) (xs : List Recorded) (cs : List Change) → 1 ≤ n → AllByRecursion HasNumbers xs → AllByRecursion (λ x. x.revision < n) xs → IsOnce cs → AllByRecursion HasNumbers (record_revision n xs cs)
recorded_have_numbers n xs cs some all below once =
    subst (AllByRecursion HasNumbers) (sym (recorded_where_once n xs cs once)) (all_append HasNumbers xs (map (λ c. recorded xs (entry_at n c)) cs) all (recorded_numbers n xs cs some all below))

-- ---- a history

numbers_from : (r : ℕ) (xs : List Recorded) (revisions : List (List Change)) → AllByRecursion HasNumbers xs → AllByRecursion (λ x. x.revision ≤ r) xs
    → ((key : List ℕ) → All (λ cs. length (filter (λ c. bytes_eq (key_of c) key) cs) ≤ 1) revisions) → AllByRecursion HasNumbers (fold record_change xs (entries_after r revisions))
numbers_from r xs [] all up once = all
numbers_from r xs (cs ∷ more) all up once =
    let n = r + 1 in
    let ys = record_revision n xs cs in
    let below : AllByRecursion (λ x. x.revision < n) xs = all_weaker (λ (x : Recorded). x.revision ≤ r) (λ (x : Recorded). x.revision < n) (λ x h. omega (arith, h)) xs up in
    let to : AllByRecursion (λ x. x.revision ≤ n) xs = all_weaker (λ (x : Recorded). x.revision ≤ r) (λ (x : Recorded). x.revision ≤ n) (λ x h. omega (arith, h)) xs up in
    let here = recorded_have_numbers n xs cs (omega arith) all below (λ key. All-head (λ ds. length (filter (λ c. bytes_eq (key_of c) key) ds) ≤ 1) cs more (once key)) in
    subst (AllByRecursion HasNumbers) (sym (fold-append record_change xs (map (entry_at n) cs) (entries_after n more)))
    (numbers_from n ys more here (all_up n xs cs to) (λ key. All-tail (λ ds. length (filter (λ c. bytes_eq (key_of c) key) ds) ≤ 1) cs more (once key)))

pub changes_have_numbers : (H : History) → ChangesOnce H → AllByRecursion HasNumbers (recorded_changes H)
changes_have_numbers H once = numbers_from H.first [] H.revisions tt tt once
