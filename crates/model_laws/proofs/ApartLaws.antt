-- Each recorded change of a key is alone at its revision.
use Rattle.std.proofs.Common.{◌≡◌, ℕ, ◌<◌, List, [], ◌∷◌, ◌++◌, refl, ap, ◌∙◌, sym, arith, subst, append_assoc, map, inl, inr}
use Rattle.std.specs.Prelude.{Bool, true, false, cond, ◌&&◌, ◌||◌, filter, Option, Some, None, nat_le, nat_eq, option_map, if◌then◌else◌}
use Rattle.std.specs.List.{AllByRecursion}
use Rattle.std.specs.Str.{bytes_eq}
use Rattle.std.specs.Cmp.Lexicographic.{bytes_decides}
use Rattle.std.proofs.lemmas.Bool.{and_from, and_parts, cases_Bool, leb-true, true≢false}
use Rattle.std.proofs.lemmas.Bool.Decides.{nat_tests}
use Rattle.etcd_model.specs.declared.state.Change.{Change}
use Rattle.etcd_model.specs.declared.state.History.{History}
use Rattle.etcd_model.specs.History.{key_of}
use Rattle.etcd_model.specs.Kept.{is_last_put}
use Rattle.etcd_model.specs.Changes.{Recorded, entry_at, entry_of, change_of, recorded_changes, recorded, last, keeps, kept, ChangesOnce, Rises, record_revision}
use Rattle.etcd_model.proofs.HistoryLaws.{changes_of as own_changes}
use Rattle.model_laws.specs.Once.{IsOnce}
use Rattle.model_laws.specs.Recording.{IsIn}
use Rattle.model_laws.specs.Apart.{is_same_place, AreApart, is_at, is_last_up_to}
use Rattle.model_laws.proofs.KeptLaws.{all_kept, kept_true, kept_false}
use Rattle.model_laws.proofs.LastIsLaws.{all_in, last_is}
use Rattle.model_laws.proofs.RecordedLaws.{all_append, all_weaker, changes_are_entries, key_of-change_by}
use Rattle.model_laws.proofs.HistoryKeptLaws.{same_place, Apart, no_more, fewer, is_put-change, entries_apart, alike}
use Rattle.model_laws.proofs.OnceStoreLaws.{keys_apart, recorded_where_once}

-- ---- of entries and of recorded changes

place : (x y : Recorded) → same_place (entry_of x) (entry_of y) ≡ is_same_place x y
place x y = ap (λ k. bytes_eq k (key_of (change_of x)) && nat_eq y.revision x.revision) (key_of-change_by y.key y.row) ∙ ap (λ k. bytes_eq y.key k && nat_eq y.revision x.revision) (key_of-change_by x.key x.row)

from_place : (x : Recorded) (ys : List Recorded) → AllByRecursion (λ f. same_place (entry_of x) f ≡ false) (map entry_of ys) → AllByRecursion (λ y. is_same_place x y ≡ false) ys
from_place x [] h = tt
from_place x (y ∷ ys) h = (sym (place x y) ∙ h.0, from_place x ys h.1)

to_place : (x : Recorded) (ys : List Recorded) → AllByRecursion (λ y. is_same_place x y ≡ false) ys → AllByRecursion (λ f. same_place (entry_of x) f ≡ false) (map entry_of ys)
to_place x [] h = tt
to_place x (y ∷ ys) h = (place x y ∙ h.0, to_place x ys h.1)

from_entries : (xs : List Recorded) → Apart (map entry_of xs) → AreApart xs
from_entries [] h = tt
from_entries (x ∷ xs) h = (from_place x xs h.0, from_entries xs h.1)

pub changes_apart : (H : History) → ChangesOnce H → AreApart (recorded_changes H)
changes_apart H once = from_entries (recorded_changes H) (subst Apart (sym (changes_are_entries H)) (entries_apart H.first H.revisions once))

pub kept_apart : (c : ℕ) (xs : List Recorded) → AreApart xs → AreApart (kept c xs)
kept_apart c [] apart = tt
kept_apart c (x ∷ xs) apart =
    elim (cases_Bool (keeps c x xs)) [
      | inl keep ↦ subst AreApart (sym (kept_true c x xs keep)) (all_kept (λ y. is_same_place x y ≡ false) c xs apart.0, kept_apart c xs apart.1)
      | inr lost ↦ subst AreApart (sym (kept_false c x xs lost)) (kept_apart c xs apart.1)
    ]

-- ---- one more revision

apart_append : (xs ys : List Recorded) → AreApart xs → AreApart ys → AllByRecursion (λ x. AllByRecursion (λ y. is_same_place x y ≡ false) ys) xs → AreApart (xs ++ ys)
apart_append [] ys ax ay cross = ay
apart_append (x ∷ xs) ys ax ay cross = (all_append (λ y. is_same_place x y ≡ false) xs ys ax.0 cross.0, apart_append xs ys ax.1 ay cross.1)

later_place : (n : ℕ) (xs : List Recorded) (x : Recorded) (cs : List Change) → x.revision < n → AllByRecursion (λ y. is_same_place x y ≡ false) (map (λ c. recorded xs (entry_at n c)) cs)
later_place n xs x [] h = tt
later_place n xs x (c ∷ cs) h = (other (bytes_eq (key_of c) x.key) n x.revision h, later_place n xs x cs h)
  where
    other : (b : Bool) (m r : ℕ) → r < m → (b && nat_eq m r) ≡ false
    other true m r h = grind (arith, nat_tests)
    other false m r h = refl

other_keys : (n : ℕ) (xs : List Recorded) (x : Recorded) (cs : List Change) → AllByRecursion (λ d. bytes_eq (key_of d) x.key ≡ false) cs → AllByRecursion (λ y. is_same_place x y ≡ false) (map (λ c. recorded xs (entry_at n c)) cs)
other_keys n xs x [] h = tt
other_keys n xs x (c ∷ cs) h = (ap (λ b. b && nat_eq n x.revision) h.0, other_keys n xs x cs h.1)

once_apart : (n : ℕ) (xs : List Recorded) (cs : List Change) → IsOnce cs → AreApart (map (λ c. recorded xs (entry_at n c)) cs)
once_apart n xs [] once = tt
once_apart n xs (c ∷ cs) once = (
  other_keys n xs (recorded xs (entry_at n c)) cs (keys_apart (key_of c) cs (no_more c cs (once (key_of c)))),
  once_apart n xs cs (λ key. fewer (bytes_eq (key_of c) key) c (own_changes key cs) (once key)),
)

pub recorded_apart : (n : ℕ) (xs : List Recorded) (cs : List Change) → AreApart xs → AllByRecursion (λ x. x.revision < n) xs → IsOnce cs → AreApart (record_revision n xs cs)
recorded_apart n xs cs apart below once =
    subst AreApart (sym (recorded_where_once n xs cs once))
    (apart_append xs (map (λ c. recorded xs (entry_at n c)) cs) apart (once_apart n xs cs once) (all_weaker (λ (x : Recorded). x.revision < n) (λ (x : Recorded). AllByRecursion (λ y. is_same_place x y ≡ false) (map (λ c. recorded xs (entry_at n c)) cs)) (λ x h. later_place n xs x cs h) xs below))

-- ---- kept, by the last change of each key

last_entry : (x : Recorded) (o : Option Recorded) → is_last_put (entry_of x) (option_map entry_of o) ≡ is_at x.revision o
last_entry x None = refl
last_entry x (Some y) = ap (λ b. nat_eq y.revision x.revision && b) (is_put-change y.key y.row)

kept_filter : (c : ℕ) (all zs ys : List Recorded) → all ≡ zs ++ ys → AreApart ys → kept c ys ≡ filter (λ x. nat_le c x.revision || is_last_up_to c all x) ys
kept_filter c all zs [] is apart = refl
kept_filter c all zs (x ∷ ys) is apart =
    let rest = kept_filter c all (zs ++ x ∷ []) ys (is ∙ sym (append_assoc zs (x ∷ []) ys)) apart.1 in
    let same : keeps c x ys ≡ (nat_le c x.revision || is_last_up_to c all x) =
    alike c zs x ys (to_place x ys apart.0)
    ∙ ap (λ (xs : List Recorded). nat_le c x.revision || is_last_put (entry_of x) (option_map entry_of (last x.key c xs))) (sym is)
    ∙ ap (λ b. nat_le c x.revision || b) (last_entry x (last x.key c all)) in
    ap (λ (b : Bool). if b then x ∷ kept c ys else kept c ys) same ∙ ap (λ zs. cond (nat_le c x.revision || is_last_up_to c all x) (x ∷ zs) zs) rest

pub kept_by_last : (c : ℕ) (xs : List Recorded) → AreApart xs → kept c xs ≡ filter (λ x. nat_le c x.revision || is_last_up_to c xs x) xs
kept_by_last c xs apart = kept_filter c xs [] xs refl apart

-- ---- the last change of a key up to its own revision

-- two changes at one place are one
one_place : (xs : List Recorded) (w x : Recorded) → AreApart xs → IsIn w xs → IsIn x xs → is_same_place x w ≡ true → is_same_place w x ≡ true → w ≡ x
one_place [] w x apart here there same back = absurd here
one_place (y ∷ ys) w x apart here there same back = elim here [
  | inl w_is ↦ elim there [
    | inl x_is ↦ w_is ∙ sym x_is
    | inr x_in ↦ absurd (true≢false (sym back ∙ ap (λ z. is_same_place z x) w_is ∙ all_in (λ z. is_same_place y z ≡ false) ys x apart.0 x_in))
  ]
  | inr w_in ↦ elim there [
    | inl x_is ↦ absurd (true≢false (sym same ∙ ap (λ z. is_same_place z w) x_is ∙ all_in (λ z. is_same_place y z ≡ false) ys w apart.0 w_in))
    | inr x_in ↦ one_place ys w x apart.1 w_in x_in same back
  ]
]

at_place : (w x : Recorded) → w.key ≡ x.key → w.revision ≡ x.revision → is_same_place w x ≡ true
at_place w x key revision = and_from (bytes_eq x.key w.key) (nat_eq x.revision w.revision) ((bytes_decides x.key w.key).1 (sym key)) (same x.revision w.revision (sym revision))
  where
    same : (a b : ℕ) → a ≡ b → nat_eq a b ≡ true
    same a b e = grind (arith, nat_tests)

pub last_of_own : (xs : List Recorded) (x : Recorded) → Rises xs → AreApart xs → IsIn x xs → last x.key x.revision xs ≡ Some x
last_of_own xs x rises apart there =
    last_is xs x.key x.revision x rises there
    (and_from (bytes_eq x.key x.key) (nat_le x.revision x.revision) ((bytes_decides x.key x.key).1 refl) (up x.revision))
    (λ w h passes. leb-true w.revision x.revision (and_parts (bytes_eq w.key x.key) (nat_le w.revision x.revision) passes).1)
    (λ w h key revision. one_place xs w x apart h there (at_place x w (sym key) (sym revision)) (at_place w x key revision))
  where
    up : (r : ℕ) → nat_le r r ≡ true
    up r = grind (arith, nat_tests)
