-- What one more revision makes of a history, and of a key in it.
use Rattle.std.proofs.Common.{◌≡◌, ℕ, ◌+◌, ◌≤◌, List, [], ◌∷◌, ◌++◌, length, refl, ap, ◌∙◌, sym, arith, append_assoc, length-append, map, subst}
use Rattle.std.specs.Prelude.{ℤ, Bool, true, false, cond, ◌&&◌, fold, filter, Option, Some, None, IfSome, nat_le}
use Rattle.std.specs.List.{All}
use Rattle.std.specs.Str.{bytes_eq}
use Rattle.std.proofs.lemmas.Bool.{and_parts, le-leb, leb-true}
use Rattle.std.proofs.lemmas.List.{append-nil, length_push}
use Rattle.std.proofs.lemmas.List.Elements.{filter-append, filter_passes, All-nil, All-head, All-tail, All-append, All-map}
use Rattle.std.proofs.lemmas.List.Folds.{fold-map}
use Rattle.std.proofs.lemmas.List.Sums.{fold-append}
use Rattle.std.specs.Cmp.Lexicographic.{bytes_decides}
use Rattle.etcd_types.specs.declared.key_value.KeyValue.{KeyValue}
pub use Rattle.etcd_model.specs.Changes.{entry_at, version_of, created_at, next_row}
use Rattle.etcd_model.specs.History.{History, Change, Set, Del, Entry, key_of, value_of, lease_of, current, entries, entries_after, history_after, past, go_on, latest, shown_by, kv}

-- a change of this key, up to a revision
abbrev pub is_past : List ℕ → ℕ → Entry → Bool
is_past key r e = bytes_eq (key_of e.change) key && nat_le e.revision r

-- the changes of a key, of some that make up one revision
abbrev pub changes_of : List ℕ → List Change → List Change
changes_of key cs = filter (λ c. bytes_eq (key_of c) key) cs

-- ---- revisions

pub current-after : (H : History) (c : Change) (cs : List Change) → current (history_after H (c ∷ cs)) ≡ current H + 1
current-after H c cs = omega (arith, length-append H.revisions ((c ∷ cs) ∷ []))

pub entries_after-append : (r : ℕ) (xs ys : List (List Change)) → entries_after r (xs ++ ys) ≡ entries_after r xs ++ entries_after (r + length xs) ys
entries_after-append r [] ys = ap (λ n. entries_after n ys) (omega arith)
entries_after-append r (x ∷ xs) ys =
    let numbered : (r + 1) + length xs ≡ r + length (x ∷ xs) = omega arith in
    ap (λ es. map (entry_at (r + 1)) x ++ es) (entries_after-append (r + 1) xs ys ∙ ap (λ n. entries_after (r + 1) xs ++ entries_after n ys) numbered)
    ∙ sym (append_assoc (map (entry_at (r + 1)) x) (entries_after (r + 1) xs) (entries_after (r + length (x ∷ xs)) ys))

-- the changes of one more revision come last
pub entries-after : (H : History) (cs : List Change) → entries (history_after H cs) ≡ entries H ++ map (entry_at (current H + 1)) cs
entries-after H [] = sym (append-nil (entries H))
entries-after H (c ∷ cs) = entries_after-append H.first H.revisions ((c ∷ cs) ∷ []) ∙ ap (λ es. entries H ++ es) (append-nil (map (entry_at (current H + 1)) (c ∷ cs)))

all_up_to : (r n : ℕ) (revisions : List (List Change)) → r + length revisions ≤ n → All (λ (e : Entry). e.revision ≤ n) (entries_after r revisions)
all_up_to r n [] h = All-nil (λ (e : Entry). e.revision ≤ n)
all_up_to r n (cs ∷ more) h =
    let here : r + 1 ≤ n = omega (arith, h) in
    All-append (λ (e : Entry). e.revision ≤ n) (map (entry_at (r + 1)) cs) (entries_after (r + 1) more)
    (All-map (λ (e : Entry). e.revision ≤ n) (entry_at (r + 1)) cs (λ k d l. here))
    (all_up_to (r + 1) n more (omega (arith, h)))

-- no revision is above the current one
pub all_current : (H : History) → All (λ (e : Entry). e.revision ≤ current H) (entries H)
all_current H = all_up_to H.first (current H) H.revisions (omega arith)

-- ---- the changes of a key

same_past : (key : List ℕ) (n m : ℕ) (es : List Entry) → n ≤ m → All (λ (e : Entry). e.revision ≤ n) es → filter (is_past key m) es ≡ filter (is_past key n) es
same_past key n m [] h all = refl
same_past key n m (e ∷ es) h all =
    let low : e.revision ≤ n = All-head (λ (e : Entry). e.revision ≤ n) e es all in
    let here : nat_le e.revision m ≡ nat_le e.revision n = le-leb e.revision m (omega (arith, low, h)) ∙ sym (le-leb e.revision n low) in
    ap (λ b. cond (bytes_eq (key_of e.change) key && b) (e ∷ filter (is_past key m) es) (filter (is_past key m) es)) here
    ∙ ap (λ zs. cond (is_past key n e) (e ∷ zs) zs) (same_past key n m es h (All-tail (λ (e : Entry). e.revision ≤ n) e es all))

-- a revision that is still to come shows what the current one shows
pub past_ahead : (H : History) (key : List ℕ) (r : ℕ) → current H ≤ r → past H key r ≡ past H key (current H)
past_ahead H key r h = same_past key (current H) r (entries H) h (all_current H)

newest : (key : List ℕ) (r : ℕ) (cs : List Change) → filter (is_past key r) (map (entry_at r) cs) ≡ map (entry_at r) (changes_of key cs)
newest key r [] = refl
newest key r (c ∷ cs) = step (bytes_eq (key_of c) key) (nat_le r r) (le-leb r r (omega arith)) (newest key r cs)
  where
    step : (b t : Bool) → t ≡ true → filter (is_past key r) (map (entry_at r) cs) ≡ map (entry_at r) (changes_of key cs) →
        cond (b && t) (entry_at r c ∷ filter (is_past key r) (map (entry_at r) cs)) (filter (is_past key r) (map (entry_at r) cs)) ≡ map (entry_at r) (cond b (c ∷ changes_of key cs) (changes_of key cs))
    step true t is more = ap (λ b. cond b (entry_at r c ∷ filter (is_past key r) (map (entry_at r) cs)) (filter (is_past key r) (map (entry_at r) cs))) is ∙ ap (λ es. entry_at r c ∷ es) more
    step false t is more = more

pub past-after : (H : History) (cs : List Change) (key : List ℕ) → past (history_after H cs) key (current H + 1) ≡ past H key (current H) ++ map (entry_at (current H + 1)) (changes_of key cs)
past-after H cs key =
    let p = is_past key (current H + 1) in
    ap (filter p) (entries-after H cs) ∙ filter-append p (entries H) (map (entry_at (current H + 1)) cs)
    ∙ ap (λ es. es ++ filter p (map (entry_at (current H + 1)) cs)) (past_ahead H key (current H + 1) (omega arith))
    ∙ ap (λ es. past H key (current H) ++ es) (newest key (current H + 1) cs)

-- ---- the rule of versions

latest_push : (e : Entry) (es : List Entry) (f : Entry) → latest e (es ++ f ∷ []) ≡ f
latest_push e [] f = refl
latest_push e (g ∷ es) f = latest_push g es f

shown_by-push : (es : List Entry) (r : ℕ) (key value : List ℕ) (lease : ℤ) → shown_by (es ++ entry_at r (Set key value lease) ∷ []) ≡ next_row r (shown_by es) (Set key value lease)
shown_by-push [] r key value lease = refl
shown_by-push (e ∷ es) r key value lease =
    let last = latest_push e es (entry_at r (Set key value lease)) in
    let many : length (e ∷ (es ++ entry_at r (Set key value lease) ∷ [])) ≡ length (e ∷ es) + 1 = omega (arith, length_push es (entry_at r (Set key value lease))) in
    λ i. Some (record { key = key_of (last i).change; create_revision = e.revision; mod_revision = (last i).revision; version = many i; value = value_of (last i).change; lease = lease_of (last i).change })

shown_by-go_on : (puts : List Entry) (r : ℕ) (c : Change) → shown_by (go_on puts (entry_at r c) c) ≡ next_row r (shown_by puts) c
shown_by-go_on puts r (Set key value lease) = shown_by-push puts r key value lease
shown_by-go_on puts r (Del key) = refl

abbrev pub next_by : Option KeyValue → Entry → Option KeyValue
next_by row e = next_row e.revision row e.change

shown_fold : (es puts : List Entry) → shown_by (fold (λ ps e. go_on ps e e.change) puts es) ≡ fold next_by (shown_by puts) es
shown_fold [] puts = refl
shown_fold (e ∷ es) puts = shown_fold es (go_on puts e e.change) ∙ ap (λ row. fold next_by row es) (shown_by-go_on puts e.revision e.change)

-- a key is what its changes made of it, one after another
pub kv_by_changes : (H : History) (key : List ℕ) (r : ℕ) → kv H key r ≡ fold next_by None (past H key r)
kv_by_changes H key r = shown_fold (past H key r) []

-- after one more revision a key is what that revision's changes of it make of it
pub kv-after : (H : History) (cs : List Change) (key : List ℕ) → kv (history_after H cs) key (current H + 1) ≡ fold (next_row (current H + 1)) (kv H key (current H)) (changes_of key cs)
kv-after H cs key =
    kv_by_changes (history_after H cs) key (current H + 1) ∙ ap (fold next_by None) (past-after H cs key)
    ∙ fold-append next_by None (past H key (current H)) (map (entry_at (current H + 1)) (changes_of key cs))
    ∙ ap (λ row. fold next_by row (map (entry_at (current H + 1)) (changes_of key cs))) (sym (kv_by_changes H key (current H)))
    ∙ fold-map next_by (entry_at (current H + 1)) (kv H key (current H)) (changes_of key cs)

-- at the current revision, also where there is no change and so no revision
pub kv-current_after : (H : History) (cs : List Change) (key : List ℕ) → kv (history_after H cs) key (current (history_after H cs)) ≡ fold (next_row (current H + 1)) (kv H key (current H)) (changes_of key cs)
kv-current_after H [] key = refl
kv-current_after H (c ∷ cs) key = ap (kv (history_after H (c ∷ cs)) key) (current-after H c cs) ∙ kv-after H (c ∷ cs) key

-- ---- what a row shows

fold_holds : {A B : Type 0} (f : B → A → B) (P : B → Type 0) (Q : A → Type 0) → ((b : B) (a : A) → P b → Q a → P (f b a)) → (b : B) (xs : List A) → P b → All Q xs → P (fold f b xs)
fold_holds f P Q step b [] h all = h
fold_holds f P Q step b (x ∷ xs) h all = fold_holds f P Q step (f b x) xs (step b x h (All-head Q x xs all)) (All-tail Q x xs all)

-- what holds of the row that each put of the key up to the revision gives
kv_holds : (P : KeyValue → Type 0) (H : History) (key : List ℕ) (r : ℕ) → ((row : Option KeyValue) (e : Entry) → is_past key r e ≡ true → IfSome (next_by row e) P) → (row : KeyValue) → kv H key r ≡ Some row → P row
kv_holds P H key r each row e =
    let held = fold_holds next_by (λ o. IfSome o P) (λ (f : Entry). is_past key r f ≡ true) (λ o f h p. each o f p) None (past H key r) tt (filter_passes (is_past key r) (entries H)) in
    subst (λ o. IfSome o P) (sym (kv_by_changes H key r) ∙ e) held

-- the row of a key has that key
pub kv-key : (H : History) (key : List ℕ) (r : ℕ) (row : KeyValue) → kv H key r ≡ Some row → row.key ≡ key
kv-key H key r = kv_holds (λ row. row.key ≡ key) H key r (λ o e p. each o e.revision e.change (and_parts (bytes_eq (key_of e.change) key) (nat_le e.revision r) p).0)
  where
    each : (o : Option KeyValue) (n : ℕ) (c : Change) → bytes_eq (key_of c) key ≡ true → IfSome (next_row n o c) (λ row. row.key ≡ key)
    each o n (Set k value lease) h = (bytes_decides k key).0 h
    each o n (Del k) h = tt

-- a row that is shown at a revision was written by then
pub kv-mod_revision : (H : History) (key : List ℕ) (r : ℕ) (row : KeyValue) → kv H key r ≡ Some row → row.mod_revision ≤ r
kv-mod_revision H key r = kv_holds (λ row. row.mod_revision ≤ r) H key r (λ o e p. each o e.revision e.change (leb-true e.revision r (and_parts (bytes_eq (key_of e.change) key) (nat_le e.revision r) p).1))
  where
    each : (o : Option KeyValue) (n : ℕ) (c : Change) → n ≤ r → IfSome (next_row n o c) (λ row. row.mod_revision ≤ r)
    each o n (Set k value lease) h = h
    each o n (Del k) h = tt

-- a version is at most the number of the key's changes
version_fold : (o : Option KeyValue) (es : List Entry) → version_of (fold next_by o es) ≤ version_of o + length es
version_fold o [] = omega arith
version_fold o (e ∷ es) = omega (arith, version_fold (next_by o e) es, one_more o e.revision e.change)
  where
    one_more : (o : Option KeyValue) (n : ℕ) (c : Change) → version_of (next_row n o c) ≤ version_of o + 1
    one_more o n (Set key value lease) = omega arith
    one_more o n (Del key) = omega arith

pub version-past : (H : History) (key : List ℕ) (r : ℕ) → version_of (kv H key r) ≤ length (past H key r)
version-past H key r = rw kv_by_changes (omega (arith, version_fold None (past H key r)))
