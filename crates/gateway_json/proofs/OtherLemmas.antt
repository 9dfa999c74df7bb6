-- Each entry of an object is spelled by one name at the most. So where as many names of some were found as the object
-- has members, no other name is there.
use Rattle.std.proofs.Common.{◌≡◌, ◌∙◌, sym, ap, subst, refl, ℕ, ◌+◌, ◌≤◌, Bool, true, false, not, ◌&&◌, ◌||◌, List, [], ◌∷◌, map, Option, None, Some, length, arith, inl, inr, nat_cmp, BTreeMap, String, Global}
use Rattle.std.specs.Ordering.{match_ordering, is_eq}
use Rattle.std.specs.declared.cmp.Ordering.{Ordering}
use Rattle.std.specs.declared.cmp.Ordering.TheVariants.{Less, Equal, Greater}
use Rattle.std.specs.Cmp.Lexicographic.{slice_cmp}
use Rattle.std.specs.Str.{bytes_eq}
use Rattle.std.proofs.lemmas.Bool.{true≢false, cases_Bool, or_cases, and_parts, or_parts, false_from_ne_true, not_from_true, eqb-true}
use Rattle.std.proofs.lemmas.Map.Text.{is_eq-slice_cmp}
use Rattle.std.proofs.lemmas.Slice.Eq.{bytes_eq-Decides}
use Rattle.serde_json.specs.Data.{Data, null, boolean, number, string, array, object, Members, no_members, member}
use Rattle.serde_json.specs.Events.{members_len}
use Rattle.serde_json.specs.Find.{get_member}
use Rattle.serde_json.specs.View.{view}
use Rattle.serde_json.specs.declared.value.Value.{Value, Object}
use Rattle.serde_json.proofs.Views.{members_len-members_view, view-Object}
use Rattle.etcd_types.specs.declared.call.MemberName.{MemberName}
use Rattle.etcd_types.specs.declared.call.MemberName.TheVariants as name
use Rattle.etcd_model.specs.Members.{lower_camel, member_of, underscored}
use Rattle.gateway_json.specs.Others.{are_all, found_count, member_count}

-- ---- names and spellings

abbrev pub spells : List ℕ → MemberName → Bool
spells k n = bytes_eq (underscored n) k || bytes_eq (lower_camel n) k

-- no text spells both
abbrev pub are_apart : MemberName → MemberName → Bool
are_apart a b = not (spells (underscored b) a) && not (spells (lower_camel b) a)

abbrev pub is_apart : MemberName → List MemberName → Bool
is_apart n [] = true
is_apart n (m ∷ ms) = are_apart n m && is_apart n ms

abbrev pub all_apart : List MemberName → Bool
all_apart [] = true
all_apart (n ∷ ns) = is_apart n ns && all_apart ns

-- ---- entries

abbrev pub has : List ℕ → Members → Bool
has t no_members = false
has t (member k d ms) = bytes_eq t k || has t ms

abbrev pub holds : MemberName → Members → Bool
holds n ms = has (underscored n) ms || has (lower_camel n) ms

unequal : (o : Ordering) (a b : Option Data) → is_eq o ≡ false → match_ordering o a b a ≡ a
unequal Less a b e = refl
unequal Equal a b e = absurd (true≢false e)
unequal Greater a b e = refl

not_there : (t : List ℕ) (ms : Members) → has t ms ≡ false → get_member t ms ≡ None
not_there t no_members h = refl
not_there t (member k d ms) h =
    let parts = or_parts (bytes_eq t k) (has t ms) h in
    unequal (slice_cmp nat_cmp t k) _ _ (is_eq-slice_cmp t k ∙ parts.0) ∙ not_there t ms parts.1

absent : (n : MemberName) (ms : Members) → holds n ms ≡ false → member_of n (object ms) ≡ None
unfolding member_of
absent n ms h =
    let parts = or_parts (has (underscored n) ms) (has (lower_camel n) ms) h in
    rw (not_there (underscored n) ms parts.0, not_there (lower_camel n) ms parts.1) refl

-- ---- counts

abbrev pub one : Bool → ℕ
one false = 0
one true = 1

abbrev pub holding : List MemberName → Members → ℕ
holding [] ms = 0
holding (n ∷ ns) ms = one (holds n ms) + holding ns ms

abbrev pub spelled_by : List MemberName → List ℕ → ℕ
spelled_by [] k = 0
spelled_by (n ∷ ns) k = one (spells k n) + spelled_by ns k

not_both : (n m : MemberName) (k : List ℕ) → spells k n ≡ true → are_apart n m ≡ true → spells k m ≡ false
not_both n m k named apart =
    let parts = and_parts (not (spells (underscored m) n)) (not (spells (lower_camel m) n)) apart in
    false_from_ne_true (spells k m) (λ both. elim (or_cases (bytes_eq (underscored m) k) (bytes_eq (lower_camel m) k) both) [
      | inl is ↦ true≢false (sym parts.0 ∙ not_from_true (spells (underscored m) n) (subst (λ t. spells t n ≡ true) (sym ((bytes_eq-Decides (underscored m) k).0 is)) named))
      | inr is ↦ true≢false (sym parts.1 ∙ not_from_true (spells (lower_camel m) n) (subst (λ t. spells t n ≡ true) (sym ((bytes_eq-Decides (lower_camel m) k).0 is)) named))
    ])

no_other : (n : MemberName) (ns : List MemberName) (k : List ℕ) → spells k n ≡ true → is_apart n ns ≡ true → spelled_by ns k ≡ 0
no_other n [] k named apart = refl
no_other n (m ∷ ms) k named apart =
    let parts = and_parts (are_apart n m) (is_apart n ms) apart in
    rw (not_both n m k named parts.0) (omega (arith, no_other n ms k named parts.1))

at_most_one : (ns : List MemberName) (k : List ℕ) → all_apart ns ≡ true → spelled_by ns k ≤ 1
at_most_one [] k apart = omega arith
at_most_one (n ∷ ns) k apart = elim (cases_Bool (spells k n)) [
  | inl named ↦ rw (named, no_other n ns k named (and_parts (is_apart n ns) (all_apart ns) apart).0) (omega arith)
  | inr unnamed ↦ rw unnamed (omega (arith, at_most_one ns k (and_parts (is_apart n ns) (all_apart ns) apart).1))
]

either : (a b c d : Bool) → one ((a || b) || (c || d)) ≤ one (a || c) + one (b || d)
either true b c d = omega arith
either false true true d = omega arith
either false true false d = omega arith
either false false true d = omega arith
either false false false d = omega arith

entry_more : (ns : List MemberName) (k : List ℕ) (d : Data) (ms : Members) → holding ns (member k d ms) ≤ spelled_by ns k + holding ns ms
entry_more [] k d ms = omega arith
entry_more (n ∷ ns) k d ms =
    let here = either (bytes_eq (underscored n) k) (has (underscored n) ms) (bytes_eq (lower_camel n) k) (has (lower_camel n) ms) in
    omega (arith, here, entry_more ns k d ms)

at_most_all : (ns : List MemberName) (ms : Members) → all_apart ns ≡ true → holding ns ms ≤ members_len ms
at_most_all [] no_members apart = omega arith
at_most_all (n ∷ ns) no_members apart = omega (arith, at_most_all ns no_members (and_parts (is_apart n ns) (all_apart ns) apart).1)
at_most_all ns (member k d ms) apart = omega (arith, entry_more ns k d ms, at_most_one ns k apart, at_most_all ns ms apart)

found_holds : (n : MemberName) (ms : Members) (os : List (Option Data)) → found_count (member_of n (object ms) ∷ os) ≤ one (holds n ms) + found_count os
found_holds n ms os = elim (cases_Bool (holds n ms)) [
  | inl there ↦ rw there (at_most (member_of n (object ms)))
  | inr away ↦ rw (absent n ms away, away) (omega arith)
]
  where
    at_most : (o : Option Data) → found_count (o ∷ os) ≤ 1 + found_count os
    at_most None = omega arith
    at_most (Some d) = omega arith

found_at_most : (ns : List MemberName) (ms : Members) → found_count (map (λ n. member_of n (object ms)) ns) ≤ holding ns ms
found_at_most [] ms = omega arith
found_at_most (n ∷ ns) ms = omega (arith, found_holds n ms (map (λ m. member_of m (object ms)) ns), found_at_most ns ms)

none_left : (c : MemberName) (ns : List MemberName) (ms : Members) → all_apart (c ∷ ns) ≡ true → found_count (map (λ n. member_of n (object ms)) ns) ≡ members_len ms → member_of c (object ms) ≡ None
none_left c ns ms apart all = elim (cases_Bool (holds c ms)) [
  | inl there ↦ let full : 1 + holding ns ms ≤ members_len ms = subst (λ b. one b + holding ns ms ≤ members_len ms) there (at_most_all (c ∷ ns) ms apart) in absurd (omega (arith, full, found_at_most ns ms, all))
  | inr away ↦ absent c ms away
]

none_left_in : (c : MemberName) (ns : List MemberName) (d : Data) → all_apart (c ∷ ns) ≡ true → found_count (map (λ n. member_of n d) ns) ≡ member_count d → member_of c d ≡ None
unfolding member_of
none_left_in c ns null apart all = refl
none_left_in c ns (boolean b) apart all = refl
none_left_in c ns (number n) apart all = refl
none_left_in c ns (string s) apart all = refl
none_left_in c ns (array ds) apart all = refl
none_left_in c ns (object ms) apart all = none_left c ns ms apart all

-- ---- what is not beside the members that were found

pub beside_range : (c : MemberName) (d : Data) (key range_end limit : Option Data) → key ≡ member_of name.Key d → range_end ≡ member_of name.RangeEnd d → limit ≡ member_of name.Limit d
    → all_apart (c ∷ name.Key ∷ name.RangeEnd ∷ name.Limit ∷ []) ≡ true → are_all (key ∷ range_end ∷ limit ∷ []) d ≡ true → member_of c d ≡ None
beside_range c d key range_end limit one two three apart all =
    none_left_in c (name.Key ∷ name.RangeEnd ∷ name.Limit ∷ []) d apart (rw (← one, ← two, ← three) (eqb-true (found_count (key ∷ range_end ∷ limit ∷ [])) (member_count d) all))

pub beside_put : (c : MemberName) (d : Data) (key value lease : Option Data) → key ≡ member_of name.Key d → value ≡ member_of name.Value d → lease ≡ member_of name.Lease d
    → all_apart (c ∷ name.Key ∷ name.Value ∷ name.Lease ∷ []) ≡ true → are_all (key ∷ value ∷ lease ∷ []) d ≡ true → member_of c d ≡ None
beside_put c d key value lease one two three apart all =
    none_left_in c (name.Key ∷ name.Value ∷ name.Lease ∷ []) d apart (rw (← one, ← two, ← three) (eqb-true (found_count (key ∷ value ∷ lease ∷ [])) (member_count d) all))

alone : (o : Option Data) → found_count (o ∷ None ∷ None ∷ []) ≡ found_count (o ∷ [])
alone None = refl
alone (Some d) = refl

pub beside_op : (c : MemberName) (d : Data) (put : Option Data) → put ≡ member_of name.RequestPut d
    → all_apart (c ∷ name.RequestPut ∷ []) ≡ true → are_all (put ∷ None ∷ None ∷ []) d ≡ true → member_of c d ≡ None
beside_op c d put one apart all =
    none_left_in c (name.RequestPut ∷ []) d apart (rw (← one) (sym (alone put) ∙ eqb-true (found_count (put ∷ None ∷ None ∷ [])) (member_count d) all))

-- what an object's map counts
pub members_counted : (m : BTreeMap (String Global) Value) → length m.entries ≡ member_count (view (Object m))
members_counted m = sym (members_len-members_view m.entries) ∙ ap member_count (sym (view-Object m))
