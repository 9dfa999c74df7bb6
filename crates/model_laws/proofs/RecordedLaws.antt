-- The recorded changes of a history are the history.
use Rattle.std.proofs.Common.{◌≡◌, ℕ, ◌+◌, ◌≤◌, List, [], ◌∷◌, ◌++◌, refl, ap, ◌∙◌, sym, arith, subst, append_assoc, map}
use Rattle.std.specs.Prelude.{Bool, true, false, cond, ◌&&◌, fold, filter, Option, Some, None, IfSome, nat_le, option_and_then, option_map, if◌then◌else◌}
use Rattle.std.specs.Str.{bytes_eq}
use Rattle.std.specs.List.{AllByRecursion}
use Rattle.std.specs.Cmp.Lexicographic.{bytes_decides}
use Rattle.std.proofs.Math.Bool.{and-true}
use Rattle.std.proofs.lemmas.Bool.{and_parts, le-leb, leb-true}
use Rattle.std.proofs.lemmas.List.{append-nil, map-append}
use Rattle.std.proofs.lemmas.List.Elements.{recursion_from_All}
use Rattle.std.proofs.lemmas.List.Sums.{fold-append}
use Rattle.etcd_types.specs.declared.key_value.KeyValue.{KeyValue}
use Rattle.etcd_model.specs.Interval.{every_key}
use Rattle.etcd_model.specs.declared.state.History.{History}
use Rattle.etcd_model.specs.History as history
use Rattle.etcd_model.specs.declared.state.Change.{Change}
use Rattle.etcd_model.specs.declared.state.Entry.{Entry}
use Rattle.etcd_model.specs.declared.state.Change.TheVariants.{Put as Set, Delete as Del}
use Rattle.etcd_model.specs.History.{key_of, entries, entries_after, current, kv, last_change}
use Rattle.etcd_model.specs.Changes.{Recorded, OwnRow, entry_at, next_row, change_by, entry_of, last_by, is_up_to, last, live, rows, Rises, recorded, record_change, recorded_changes, record_revision}
use Rattle.etcd_model.proofs.HistoryLaws.{is_past, next_by, entries-after, all_current, kv_by_changes}
use Rattle.etcd_model.proofs.PutLaws.{rows_ascend, rows-interval, row_among}
use Rattle.model_laws.proofs.LastLaws.{last_push, last_alike, last_map, last_filter}
use Rattle.model_laws.proofs.RowLaws.{rows_by_their_keys, rows_inside, rows_rise, row_found}

-- ---- lists

pub all_push : {X : Type 0} (P : X → Type 0) (xs : List X) (y : X) → AllByRecursion P xs → P y → AllByRecursion P (xs ++ y ∷ [])
all_push P [] y all h = (h, tt)
all_push P (x ∷ xs) y all h = (all.0, all_push P xs y all.1 h)

pub all_weaker : {X : Type 0} (P Q : X → Type 0) → ((z : X) → P z → Q z) → (xs : List X) → AllByRecursion P xs → AllByRecursion Q xs
all_weaker P Q f [] all = tt
all_weaker P Q f (x ∷ xs) all = (f x all.0, all_weaker P Q f xs all.1)

pub all_append : {X : Type 0} (P : X → Type 0) (xs ys : List X) → AllByRecursion P xs → AllByRecursion P ys → AllByRecursion P (xs ++ ys)
all_append P [] ys ax ay = ay
all_append P (x ∷ xs) ys ax ay = (ax.0, all_append P xs ys ax.1 ay)

pub all_each : {X : Type 0} (P : X → Type 0) → ((z : X) → P z) → (xs : List X) → AllByRecursion P xs
all_each P f [] = tt
all_each P f (x ∷ xs) = (f x, all_each P f xs)

-- ---- they are the entries

same_change : (r : ℕ) (row : Option KeyValue) (c : Change) → change_by (key_of c) (next_row r row c) ≡ c
same_change r row (Set key value lease) = refl
same_change r row (Del key) = refl

entry_of-recorded : (xs : List Recorded) (e : Entry) → entry_of (recorded xs e) ≡ e
entry_of-recorded xs e = ap (entry_at e.revision) (same_change e.revision (live (key_of e.change) e.revision xs) e.change)

pub entries-fold : (xs : List Recorded) (es : List Entry) → map entry_of (fold record_change xs es) ≡ map entry_of xs ++ es
entries-fold xs [] = sym (append-nil (map entry_of xs))
entries-fold xs (e ∷ es) =
    entries-fold (record_change xs e) es
    ∙ ap (λ zs. zs ++ es) (map-append entry_of xs (recorded xs e ∷ []) ∙ ap (λ (x : Entry). map entry_of xs ++ x ∷ []) (entry_of-recorded xs e))
    ∙ append_assoc (map entry_of xs) (e ∷ []) es

pub changes_are_entries : (H : History) → map entry_of (recorded_changes H) ≡ entries H
changes_are_entries H = entries-fold [] (entries H)

pub changes_after : (H : History) (c : Change) (cs : List Change) → recorded_changes (history.history_after H (c ∷ cs)) ≡ record_revision (current H + 1) (recorded_changes H) (c ∷ cs)
changes_after H c cs =
    ap (fold record_change []) (entries-after H (c ∷ cs))
    ∙ fold-append record_change [] (entries H) (map (entry_at (current H + 1)) (c ∷ cs))

-- ---- in order

abbrev EntriesRise : List Entry → Type 0
EntriesRise [] = Unit {0}
EntriesRise (e ∷ es) = AllByRecursion (λ f. e.revision ≤ f.revision) es × EntriesRise es

all_at : (m n : ℕ) (cs : List Change) → m ≤ n → AllByRecursion (λ e. m ≤ e.revision) (map (entry_at n) cs)
all_at m n [] h = tt
all_at m n (c ∷ cs) h = (h, all_at m n cs h)

all_later : (m n : ℕ) (revisions : List (List Change)) → m ≤ n + 1 → AllByRecursion (λ e. m ≤ e.revision) (entries_after n revisions)
all_later m n [] h = tt
all_later m n (cs ∷ more) h = all_append (λ (e : Entry). m ≤ e.revision) (map (entry_at (n + 1)) cs) (entries_after (n + 1) more) (all_at m (n + 1) cs h) (all_later m (n + 1) more (omega (arith, h)))

rise_at : (n : ℕ) (cs : List Change) (es : List Entry) → AllByRecursion (λ e. n ≤ e.revision) es → EntriesRise es → EntriesRise (map (entry_at n) cs ++ es)
rise_at n [] es from rise = rise
rise_at n (c ∷ cs) es from rise = (all_append (λ (e : Entry). n ≤ e.revision) (map (entry_at n) cs) es (all_at n n cs (omega arith)) from, rise_at n cs es from rise)

entries_rise : (n : ℕ) (revisions : List (List Change)) → EntriesRise (entries_after n revisions)
entries_rise n [] = tt
entries_rise n (cs ∷ more) = rise_at (n + 1) cs (entries_after (n + 1) more) (all_later (n + 1) (n + 1) more (omega arith)) (entries_rise (n + 1) more)

all_of : (P : ℕ → Type 0) (xs : List Recorded) → AllByRecursion (λ e. P e.revision) (map entry_of xs) → AllByRecursion (λ x. P x.revision) xs
all_of P [] h = tt
all_of P (x ∷ xs) h = (h.0, all_of P xs h.1)

rises_of : (xs : List Recorded) → EntriesRise (map entry_of xs) → Rises xs
rises_of [] h = tt
rises_of (x ∷ xs) h = (all_of (λ n. x.revision ≤ n) xs h.0, rises_of xs h.1)

pub changes_rise : (H : History) → Rises (recorded_changes H)
changes_rise H = rises_of (recorded_changes H) (subst EntriesRise (sym (changes_are_entries H)) (entries_rise H.first H.revisions))

pub changes_up_to_current : (H : History) → AllByRecursion (λ x. x.revision ≤ current H) (recorded_changes H)
changes_up_to_current H = all_of (λ n. n ≤ current H) (recorded_changes H) (subst (AllByRecursion (λ (e : Entry). e.revision ≤ current H)) (sym (changes_are_entries H)) (recursion_from_All (λ (e : Entry). e.revision ≤ current H) (entries H) (all_current H)))

pub own_recorded : (r : ℕ) (row : Option KeyValue) (c : Change) → IfSome (next_row r row c) (λ w. w.key ≡ key_of c)
own_recorded r row (Set key value lease) = refl
own_recorded r row (Del key) = tt

pub own_fold : (xs : List Recorded) (es : List Entry) → AllByRecursion OwnRow xs → AllByRecursion OwnRow (fold record_change xs es)
own_fold xs [] own = own
own_fold xs (e ∷ es) own = own_fold (record_change xs e) es (all_push OwnRow xs (recorded xs e) own (own_recorded e.revision (live (key_of e.change) e.revision xs) e.change))

pub changes_own_their_rows : (H : History) → AllByRecursion OwnRow (recorded_changes H)
changes_own_their_rows H = own_fold [] (entries H) tt

-- ---- what a key shows

-- where no change is later, it shows the same at all later revisions
pub live_later : (key : List ℕ) (n r : ℕ) (xs : List Recorded) → AllByRecursion (λ x. x.revision ≤ n) xs → n ≤ r → live key n xs ≡ live key r xs
live_later key n r xs up h =
    ap (option_and_then (λ (x : Recorded). x.row)) (last_alike (is_up_to key n) (is_up_to key r) xs
    (all_weaker (λ (x : Recorded). x.revision ≤ n) (λ (x : Recorded). is_up_to key n x ≡ is_up_to key r x)
    (λ x low. ap (λ b. bytes_eq x.key key && b) (le-leb x.revision n low ∙ sym (le-leb x.revision r (omega (arith, low, h))))) xs up))

pub live_push : (key : List ℕ) (r : ℕ) (xs : List Recorded) (y : Recorded) → live key r (xs ++ y ∷ []) ≡ (if is_up_to key r y then y.row else live key r xs)
live_push key r xs y = ap (option_and_then (λ (x : Recorded). x.row)) (last_push (is_up_to key r) xs y) ∙ out (is_up_to key r y)
  where
    out : (b : Bool) → option_and_then (λ (x : Recorded). x.row) (if b then Some y else last key r xs) ≡ (if b then y.row else live key r xs)
    out true = refl
    out false = refl

-- a change up to the revision decides what its key shows there
pub live_push_up_to : (key : List ℕ) (r : ℕ) (xs : List Recorded) (y : Recorded) → y.revision ≤ r → live key r (xs ++ y ∷ []) ≡ (if bytes_eq y.key key then y.row else live key r xs)
live_push_up_to key r xs y low =
    live_push key r xs y
    ∙ ap (λ (b : Bool). if b then y.row else live key r xs) (ap (λ b. bytes_eq y.key key && b) (le-leb y.revision r low) ∙ and-true (bytes_eq y.key key))

live_fold : (key : List ℕ) (r n : ℕ) (xs : List Recorded) (es : List Entry) → AllByRecursion (λ x. x.revision ≤ n) xs → AllByRecursion (λ e. n ≤ e.revision) es → EntriesRise es
    → live key r (fold record_change xs es) ≡ fold next_by (live key r xs) (filter (is_past key r) es)
live_fold key r n xs [] up from rise = refl
live_fold key r n xs (e ∷ es) up from rise =
    live_fold key r e.revision (record_change xs e) es (all_push (λ (x : Recorded). x.revision ≤ e.revision) xs (recorded xs e) low (omega arith)) rise.0 rise.1
    ∙ ap (λ o. fold next_by o (filter (is_past key r) es)) (live_push key r xs (recorded xs e))
    ∙ elim (is_past key r e) as (λ b. is_past key r e ≡ b → fold next_by (if b then (recorded xs e).row else live key r xs) (filter (is_past key r) es) ≡ fold next_by (live key r xs) (cond b (e ∷ filter (is_past key r) es) (filter (is_past key r) es))) [
      | true ↦ λ t.
          let parts = and_parts (bytes_eq (key_of e.change) key) (nat_le e.revision r) t in
          ap (λ o. fold next_by (next_row e.revision o e.change) (filter (is_past key r) es))
          (ap (λ k. live k e.revision xs) ((bytes_decides (key_of e.change) key).0 parts.0) ∙ live_later key e.revision r xs low (leb-true e.revision r parts.1))
      | false ↦ λ t. refl
    ] refl
  where
    low : AllByRecursion (λ x. x.revision ≤ e.revision) xs
    low = all_weaker (λ (x : Recorded). x.revision ≤ n) (λ (x : Recorded). x.revision ≤ e.revision) (λ x h. omega (arith, h, from.0)) xs up

pub live_of_changes : (H : History) (key : List ℕ) (r : ℕ) → live key r (recorded_changes H) ≡ kv H key r
live_of_changes H key r = live_fold key r 0 [] (entries H) tt (all_each (λ (e : Entry). 0 ≤ e.revision) (λ e. omega arith) (entries H)) (entries_rise H.first H.revisions) ∙ sym (kv_by_changes H key r)

pub key_of-change_by : (key : List ℕ) (row : Option KeyValue) → key_of (change_by key row) ≡ key
key_of-change_by key None = refl
key_of-change_by key (Some row) = refl

pub last_of_changes : (H : History) (key : List ℕ) (r : ℕ) → option_map entry_of (last key r (recorded_changes H)) ≡ last_change H key r
last_of_changes H key r =
    ap (option_map entry_of) (last_alike (is_up_to key r) (λ x. is_past key r (entry_of x)) (recorded_changes H)
    (all_each (λ (x : Recorded). is_up_to key r x ≡ is_past key r (entry_of x)) (λ x. ap (λ k. bytes_eq k key && nat_le x.revision r) (sym (key_of-change_by x.key x.row))) (recorded_changes H)))
    ∙ last_map entry_of (is_past key r) (recorded_changes H) ∙ ap (last_by (is_past key r)) (changes_are_entries H) ∙ last_filter (is_past key r) (entries H)

-- ---- rows

pub rows_of_changes : (H : History) (interval : List ℕ → Bool) (r : ℕ) → rows interval r (recorded_changes H) ≡ history.history_rows H interval r
rows_of_changes H interval r =
    let xs = recorded_changes H in
    let own = changes_own_their_rows H in
    rows_inside xs own r interval
    ∙ ap (filter (λ (row : KeyValue). interval row.key))
    (rows_by_their_keys (rows every_key r xs) (history.history_rows H every_key r) (rows_rise xs own r every_key) (rows_ascend H every_key r) (λ key. row_found xs own r key ∙ live_of_changes H key r ∙ sym (row_among H key r)))
    ∙ sym (rows-interval H interval r)
