-- What is kept of the recorded changes, against what is kept of the history.
use Rattle.std.proofs.Common.{◌≡◌, ℕ, ◌+◌, ◌<◌, ◌≤◌, List, [], ◌∷◌, ◌++◌, length, refl, ap, ◌∙◌, sym, arith, subst, append_assoc, map, inl, inr}
use Rattle.std.specs.Prelude.{Bool, true, false, not, cond, ◌&&◌, ◌||◌, filter, Option, Some, None, is_some, nat_le, nat_eq, option_map, if◌then◌else◌}
use Rattle.std.specs.Str.{bytes_eq}
use Rattle.std.specs.List.{AllByRecursion, list_any, All}
use Rattle.std.specs.Cmp.Lexicographic.{bytes_decides}
use Rattle.std.proofs.Math.Bool.{and-true}
use Rattle.std.proofs.lemmas.Bool.{cases_Bool, and_parts, le-leb, cases_lt, and_right}
use Rattle.std.proofs.lemmas.Bool.Decides.{nat_tests}
use Rattle.std.proofs.lemmas.List.Elements.{All-head, All-tail}
use Rattle.etcd_types.specs.declared.key_value.KeyValue.{KeyValue}
use Rattle.etcd_model.specs.declared.state.History.{History}
use Rattle.etcd_model.specs.declared.state.Change.{Change}
use Rattle.etcd_model.specs.declared.state.Entry.{Entry}
use Rattle.etcd_model.specs.History.{key_of, is_put, entries_after, last_change}
use Rattle.etcd_model.specs.Kept as over_history
use Rattle.etcd_model.specs.Kept.{is_last_put, is_kept}
use Rattle.etcd_model.specs.Changes.{Recorded, OwnRow, entry_at, entry_of, change_of, change_by, recorded_changes, next_row, last_by, is_up_to, last, keeps, kept, or_before, ChangesOnce, Rises, recorded, rows}
use Rattle.etcd_model.proofs.HistoryLaws.{changes_of as changes_of_key}
use Rattle.model_laws.proofs.LastLaws.{some_or_none, none_any, any_none, all_last, last_passes}
use Rattle.model_laws.proofs.KeptLaws.{same_key, all_kept, live_kept, last_here}
use Rattle.model_laws.proofs.RowLaws.{same_rows}
use Rattle.model_laws.proofs.RecordedLaws.{all_append, all_weaker, changes_are_entries, key_of-change_by, last_of_changes}

-- ---- the rows, and what is recorded next

pub rows_kept : (interval : List ℕ → Bool) (c r : ℕ) (xs : List Recorded) → c ≤ r → Rises xs → AllByRecursion OwnRow xs → rows interval r (kept c xs) ≡ rows interval r xs
rows_kept interval c r xs le rises own = same_rows (kept c xs) xs (all_kept OwnRow c xs own) own r r (λ key. live_kept key c r xs le rises) interval

pub recorded_kept : (c : ℕ) (xs : List Recorded) (e : Entry) → c ≤ e.revision → Rises xs → recorded (kept c xs) e ≡ recorded xs e
recorded_kept c xs e le rises = ap (λ o. record { key = key_of e.change; revision = e.revision; row = next_row e.revision o e.change }) (live_kept (key_of e.change) c e.revision xs le rises)

-- ---- each change of a key is alone at its revision

abbrev pub same_place : Entry → Entry → Bool
same_place e f = bytes_eq (key_of f.change) (key_of e.change) && nat_eq f.revision e.revision

abbrev pub Apart : List Entry → Type 0
Apart [] = Unit {0}
Apart (e ∷ es) = AllByRecursion (λ f. same_place e f ≡ false) es × Apart es

-- where a key changes once at most, its first change is its last
pub no_more : (c : Change) (cs : List Change) → length (changes_of_key (key_of c) (c ∷ cs)) ≤ 1 → length (changes_of_key (key_of c) cs) ≤ 0
no_more c cs once =
    let own = (bytes_decides (key_of c) (key_of c)).1 refl in
    omega (arith, subst (λ b. length (cond b (c ∷ changes_of_key (key_of c) cs) (changes_of_key (key_of c) cs)) ≤ 1) own once)

pub fewer : {X : Type 0} (b : Bool) (x : X) (xs : List X) → length (cond b (x ∷ xs) xs) ≤ 1 → length xs ≤ 1
fewer true x xs once = omega (arith, once)
fewer false x xs once = once

other_key : (n : ℕ) (c : Change) (cs : List Change) → length (changes_of_key (key_of c) cs) ≤ 0 → AllByRecursion (λ f. same_place (entry_at n c) f ≡ false) (map (entry_at n) cs)
other_key n c [] h = tt
other_key n c (d ∷ ds) h = elim (bytes_eq (key_of d) (key_of c)) as (λ b. bytes_eq (key_of d) (key_of c) ≡ b → length (cond b (d ∷ changes_of_key (key_of c) ds) (changes_of_key (key_of c) ds)) ≤ 0 → AllByRecursion (λ f. same_place (entry_at n c) f ≡ false) (map (entry_at n) (d ∷ ds))) [
  | true ↦ λ t few. absurd (omega (arith, few))
  | false ↦ λ t few. (ap (λ b. b && nat_eq n n) t, other_key n c ds few)
] refl h

later_place : (n : ℕ) (c : Change) (es : List Entry) → AllByRecursion (λ f. n < f.revision) es → AllByRecursion (λ f. same_place (entry_at n c) f ≡ false) es
later_place n c es later = all_weaker (λ (f : Entry). n < f.revision) (λ (f : Entry). same_place (entry_at n c) f ≡ false) (λ f h. not_same n (key_of c) f h) es later
  where
    not_same : (n : ℕ) (key : List ℕ) (f : Entry) → n < f.revision → (bytes_eq (key_of f.change) key && nat_eq f.revision n) ≡ false
    not_same n key f h = grind (arith, nat_tests)

apart_at : (n : ℕ) (cs : List Change) (es : List Entry) → ((key : List ℕ) → length (changes_of_key key cs) ≤ 1) → AllByRecursion (λ f. n < f.revision) es → Apart es → Apart (map (entry_at n) cs ++ es)
apart_at n [] es once later apart = apart
apart_at n (c ∷ cs) es once later apart = (
  all_append (λ (f : Entry). same_place (entry_at n c) f ≡ false) (map (entry_at n) cs) es (other_key n c cs (no_more c cs (once (key_of c)))) (later_place n c es later),
  apart_at n cs es (λ key. fewer (bytes_eq (key_of c) key) c (changes_of_key key cs) (once key)) later apart,
)

above_at : (m n : ℕ) (cs : List Change) → m < n → AllByRecursion (λ f. m < f.revision) (map (entry_at n) cs)
above_at m n [] h = tt
above_at m n (c ∷ cs) h = (h, above_at m n cs h)

above : (m n : ℕ) (revisions : List (List Change)) → m ≤ n → AllByRecursion (λ f. m < f.revision) (entries_after n revisions)
above m n [] h = tt
above m n (cs ∷ more) h = all_append (λ (f : Entry). m < f.revision) (map (entry_at (n + 1)) cs) (entries_after (n + 1) more) (above_at m (n + 1) cs (omega (arith, h))) (above m (n + 1) more (omega (arith, h)))

pub entries_apart : (n : ℕ) (revisions : List (List Change)) → ((key : List ℕ) → All (λ cs. length (changes_of_key key cs) ≤ 1) revisions) → Apart (entries_after n revisions)
entries_apart n [] once = tt
entries_apart n (cs ∷ more) once =
    apart_at (n + 1) cs (entries_after (n + 1) more) (λ key. All-head (λ ds. length (changes_of_key key ds) ≤ 1) cs more (once key))
    (above (n + 1) (n + 1) more (omega arith))
    (entries_apart (n + 1) more (λ key. All-tail (λ ds. length (changes_of_key key ds) ≤ 1) cs more (once key)))

-- ---- kept, by the changes that follow and by the last change of the key

pub is_put-change : (key : List ℕ) (row : Option KeyValue) → is_put (change_by key row) ≡ is_some row
is_put-change key None = refl
is_put-change key (Some row) = refl

-- the last change of the key up to c is this one, where none of those that follow is
last_itself : (c : ℕ) (zs : List Recorded) (x : Recorded) (ys : List Recorded) → x.revision ≤ c → list_any (is_up_to x.key c) ys ≡ false → last x.key c (zs ++ x ∷ ys) ≡ Some x
last_itself c [] x ys low none =
    let is : is_up_to x.key c x ≡ true = ap (λ b. b && nat_le x.revision c) ((bytes_decides x.key x.key).1 refl) ∙ le-leb x.revision c low in
    last_here x.key c x ys (any_none (is_up_to x.key c) ys none) is
last_itself c (z ∷ zs) x ys low none = ap (λ o. or_before o (if is_up_to x.key c z then Some z else None)) (last_itself c zs x ys low none)

-- else it is one of those
last_follows : (key : List ℕ) (c : ℕ) (zs : List Recorded) (x : Recorded) (ys : List Recorded) (y : Recorded) → last key c ys ≡ Some y → last key c (zs ++ x ∷ ys) ≡ Some y
last_follows key c [] x ys y is = ap (λ o. or_before o (if is_up_to key c x then Some x else None)) is
last_follows key c (z ∷ zs) x ys y is = ap (λ o. or_before o (if is_up_to key c z then Some z else None)) (last_follows key c zs x ys y is)

unmap : (x : Recorded) (ws : List Recorded) → AllByRecursion (λ f. same_place (entry_of x) f ≡ false) (map entry_of ws) → AllByRecursion (λ z. same_place (entry_of x) (entry_of z) ≡ false) ws
unmap x [] h = tt
unmap x (w ∷ ws) h = (h.0, unmap x ws h.1)

-- the two tests for a change below c
abbrev pub Alike : ℕ → List Recorded → Recorded → List Recorded → Type 0
Alike c all x ys = keeps c x ys ≡ (nat_le c x.revision || is_last_put (entry_of x) (option_map entry_of (last x.key c all)))

different : (x y : Recorded) → same_place (entry_of x) (entry_of y) ≡ false → y.key ≡ x.key → nat_eq y.revision x.revision ≡ false
different x y apart is =
    let keys : bytes_eq (key_of (change_of y)) (key_of (change_of x)) ≡ true = (bytes_decides _ _).1 (key_of-change_by y.key y.row ∙ is ∙ sym (key_of-change_by x.key x.row)) in
    sym (ap (λ b. b && nat_eq y.revision x.revision) keys) ∙ apart

pub alike : (c : ℕ) (zs : List Recorded) (x : Recorded) (ys : List Recorded) → AllByRecursion (λ f. same_place (entry_of x) f ≡ false) (map entry_of ys) → Alike c (zs ++ x ∷ ys) x ys
alike c zs x ys apart = elim (cases_lt x.revision c) [
  | inr from ↦ ap (λ b. b || (is_some x.row && not (list_any (is_up_to x.key c) ys))) (le-leb c x.revision from) ∙ sym (ap (λ b. b || is_last_put (entry_of x) (option_map entry_of (last x.key c (zs ++ x ∷ ys)))) (le-leb c x.revision from))
  | inl below ↦ elim (some_or_none (last x.key c ys)) [
    | inl none ↦
        let never : list_any (is_up_to x.key c) ys ≡ false = none_any (is_up_to x.key c) ys none in
        let low : x.revision ≤ c = omega (arith, below) in
        ap (λ b. nat_le c x.revision || (is_some x.row && not b)) never
        ∙ ap (λ b. nat_le c x.revision || b) (and-true (is_some x.row) ∙ sym (own_put x))
        ∙ sym (ap (λ o. nat_le c x.revision || is_last_put (entry_of x) (option_map entry_of o)) (last_itself c zs x ys low never))
    | inr some ↦
        let y = some.0 in
        let later : list_any (is_up_to x.key c) ys ≡ true = some_any (is_up_to x.key c) ys y some.1 in
        let is : y.key ≡ x.key = same_key y.key x.key (and_parts (bytes_eq y.key x.key) (nat_le y.revision c) (last_passes (is_up_to x.key c) ys y some.1)).0 in
        let far : nat_eq y.revision x.revision ≡ false = different x y (all_last (is_up_to x.key c) (λ z. same_place (entry_of x) (entry_of z) ≡ false) ys y (unmap x ys apart) some.1) is in
        ap (λ b. nat_le c x.revision || (is_some x.row && not b)) later
        ∙ ap (λ b. nat_le c x.revision || b) (and_right (is_some x.row) false refl ∙ sym (ap (λ b. b && is_put (change_of y)) far))
        ∙ sym (ap (λ o. nat_le c x.revision || is_last_put (entry_of x) (option_map entry_of o)) (last_follows x.key c zs x ys y some.1))
  ]
]
  where
    nat_eq_itself : (n : ℕ) → nat_eq n n ≡ true
    nat_eq_itself n = grind (arith, nat_tests)

    own_put : (x : Recorded) → (nat_eq x.revision x.revision && is_put (change_of x)) ≡ is_some x.row
    own_put x = ap (λ b. b && is_put (change_of x)) (nat_eq_itself x.revision) ∙ is_put-change x.key x.row

    some_any : (p : Recorded → Bool) (ws : List Recorded) (y : Recorded) → last_by p ws ≡ Some y → list_any p ws ≡ true
    some_any p ws y is = elim (cases_Bool (list_any p ws)) [
      | inl there ↦ there
      | inr not_there ↦ let none : last_by p ws ≡ None = any_none p ws not_there in let bad : ⊥ = cc in absurd bad
    ]

-- over the whole history, of which ys are the last changes
kept_rest : (H : History) (zs ys : List Recorded) → recorded_changes H ≡ zs ++ ys → Apart (map entry_of ys) → map entry_of (kept H.compacted ys) ≡ filter (is_kept H) (map entry_of ys)
kept_rest H zs [] is apart = refl
kept_rest H zs (x ∷ ys) is apart =
    let c = H.compacted in
    let rest = kept_rest H (zs ++ x ∷ []) ys (is ∙ sym (append_assoc zs (x ∷ []) ys)) apart.1 in
    let same : keeps c x ys ≡ is_kept H (entry_of x) =
    alike c zs x ys apart.0
    ∙ ap (λ (all : List Recorded). nat_le c x.revision || is_last_put (entry_of x) (option_map entry_of (last x.key c all))) (sym is)
    ∙ ap (λ o. nat_le c x.revision || is_last_put (entry_of x) o) (last_of_changes H x.key c)
    ∙ ap (λ k. nat_le c x.revision || is_last_put (entry_of x) (last_change H k c)) (sym (key_of-change_by x.key x.row)) in
    out (keeps c x ys) ∙ ap (λ b. cond b (entry_of x ∷ map entry_of (kept c ys)) (map entry_of (kept c ys))) same ∙ ap (λ es. cond (is_kept H (entry_of x)) (entry_of x ∷ es) es) rest
  where
    out : (b : Bool) → map entry_of (if b then x ∷ kept H.compacted ys else kept H.compacted ys) ≡ cond b (entry_of x ∷ map entry_of (kept H.compacted ys)) (map entry_of (kept H.compacted ys))
    out true = refl
    out false = refl

pub kept_of_changes : (H : History) → ChangesOnce H → map entry_of (kept H.compacted (recorded_changes H)) ≡ over_history.kept_entries H
kept_of_changes H once =
    kept_rest H [] (recorded_changes H) refl (subst Apart (sym (changes_are_entries H)) (entries_apart H.first H.revisions once))
    ∙ ap (filter (is_kept H)) (changes_are_entries H)
