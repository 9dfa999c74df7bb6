-- The rows of a history, and what one more put or delete makes of them.
use Rattle.std.proofs.Common.{◌≡◌, ℕ, ◌+◌, ◌≤◌, List, [], ◌∷◌, length, refl, ap, ◌∙◌, sym, arith, length-append, map}
use Rattle.std.proofs.lemmas.Bool.{or_parts}
use Rattle.std.proofs.lemmas.List.{map-append}
use Rattle.std.proofs.lemmas.List.Elements.{filter-append, All-head, All-tail, All-push}
use Rattle.std.proofs.lemmas.List.Kept.{IsStrictlySortedBy-filter}
use Rattle.std.proofs.lemmas.List.Sums.{fold-append}
use Rattle.std.specs.Prelude.{ℤ, Bool, true, false, cond, ◌&&◌, fold, filter, filter_map, find, Some, None, nat_le}
use Rattle.std.specs.Option.{option_to_list}
use Rattle.std.specs.Str.{bytes_eq}
use Rattle.std.specs.List.{All, list_any}
use Rattle.std.specs.List.Sorted.{IsStrictlySortedBy}
use Rattle.std.specs.Cmp.Lexicographic.{bytes_decides}
use Rattle.etcd_types.specs.declared.key_value.KeyValue.{KeyValue}
use Rattle.etcd_model.specs.Order.{put_in, in_order, key_cmp, by_key}
use Rattle.etcd_model.specs.History.{History, Change, Set, Del, Entry, key_of, current, entries, entries_after, history_after, generation, shown_by, kv, history_keys, history_rows}
pub use Rattle.etcd_model.specs.Changes.{ChangesOnce}
use Rattle.etcd_model.specs.Interval.{is_in, every_key}
use Rattle.etcd_model.proofs.OrderLaws.{keys_in_order, any-keys_in_order}
use Rattle.etcd_model.proofs.RowLaws.{all_rows, sorted-rows, filter-rows, rows_of_one, find-rows, rows-put_in}
use Rattle.etcd_model.proofs.HistoryLaws.{entry_at, is_past, changes_of, entries-after, kv-after, kv-key, kv-mod_revision, version-past, version_of, created_at, next_row}

-- ---- the rows of a history

pub every_one : (ks : List (List ℕ)) → filter every_key ks ≡ ks
every_one [] = refl
every_one (k ∷ ks) = ap (λ xs. k ∷ xs) (every_one ks)

pub keys_ascend : (H : History) → IsStrictlySortedBy key_cmp (history_keys H)
keys_ascend H = keys_in_order (map (λ (e : Entry). key_of e.change) (entries H))

-- the rows of an interval ascend by their keys
pub rows_ascend : (H : History) (interval : List ℕ → Bool) (r : ℕ) → IsStrictlySortedBy by_key (history_rows H interval r)
rows_ascend H interval r = sorted-rows (λ k. kv H k r) (λ k row. kv-key H k r row) (filter interval (history_keys H)) (IsStrictlySortedBy-filter key_cmp interval (history_keys H) (keys_ascend H))

-- the rows of an interval are those of all rows whose keys lie in it
pub rows-interval : (H : History) (interval : List ℕ → Bool) (r : ℕ) → history_rows H interval r ≡ filter (λ row. interval row.key) (history_rows H every_key r)
rows-interval H interval r =
    sym (ap (λ ks. filter (λ (row : KeyValue). interval row.key) (filter_map (λ k. kv H k r) ks)) (every_one (history_keys H)) ∙ filter-rows (λ k. kv H k r) (λ k row. kv-key H k r row) interval (history_keys H))

-- a key that was never changed has no row
pub never_changed : (H : History) (key : List ℕ) (r : ℕ) → list_any (λ k. bytes_eq k key) (history_keys H) ≡ false → kv H key r ≡ None
never_changed H key r h = ap (λ es. shown_by (generation es)) (none_past (entries H) (sym (any-keys_in_order (λ k. bytes_eq k key) (map (λ (e : Entry). key_of e.change) (entries H))) ∙ h))
  where
    none_past : (es : List Entry) → list_any (λ k. bytes_eq k key) (map (λ (e : Entry). key_of e.change) es) ≡ false → filter (is_past key r) es ≡ []
    none_past [] h = refl
    none_past (e ∷ es) h =
        let parts = or_parts (bytes_eq (key_of e.change) key) (list_any (λ k. bytes_eq k key) (map (λ (x : Entry). key_of x.change) es)) h in
        ap (λ b. cond (b && nat_le e.revision r) (e ∷ filter (is_past key r) es) (filter (is_past key r) es)) parts.0 ∙ none_past es parts.1

-- the row of a key stands among the rows
pub row_among : (H : History) (key : List ℕ) (r : ℕ) → find (λ row. bytes_eq row.key key) (history_rows H every_key r) ≡ kv H key r
row_among H key r =
    ap (λ ks. find (λ (row : KeyValue). bytes_eq row.key key) (filter_map (λ k. kv H k r) ks)) (every_one (history_keys H))
    ∙ find-rows (λ k. kv H k r) (λ k row. kv-key H k r row) key (history_keys H) (keys_ascend H) (never_changed H key r)

-- the rows of one key are its row, if it is live
pub rows-one_key : (H : History) (key : List ℕ) (r : ℕ) → history_rows H (is_in key []) r ≡ option_to_list (kv H key r)
rows-one_key H key r = rows_of_one (λ k. kv H k r) (λ k row. kv-key H k r row) key (history_keys H) (keys_ascend H) (never_changed H key r)

-- ---- one put or delete

pub keys-put : (H : History) (c : Change) → history_keys (history_after H (c ∷ [])) ≡ put_in key_cmp (history_keys H) (key_of c)
keys-put H c =
    let e : Entry = record { revision = current H + 1; change = c } in
    ap (λ es. in_order key_cmp (map (λ (x : Entry). key_of x.change) es)) (entries-after H (c ∷ []))
    ∙ ap (in_order key_cmp) (map-append (λ (x : Entry). key_of x.change) (entries H) (e ∷ []))
    ∙ fold-append (put_in key_cmp) [] (map (λ (x : Entry). key_of x.change) (entries H)) (key_of c ∷ [])

-- another key stays as it was
pub kv-other : (H : History) (c : Change) (key : List ℕ) → bytes_eq (key_of c) key ≡ false → kv (history_after H (c ∷ [])) key (current H + 1) ≡ kv H key (current H)
kv-other H c key h = kv-after H (c ∷ []) key ∙ ap (λ b. fold (next_row (current H + 1)) (kv H key (current H)) (cond b (c ∷ []) [])) h

-- the key that is written is what the change makes of it
pub kv-own : (H : History) (c : Change) → kv (history_after H (c ∷ [])) (key_of c) (current H + 1) ≡ next_row (current H + 1) (kv H (key_of c) (current H)) c
kv-own H c = kv-after H (c ∷ []) (key_of c) ∙ ap (λ b. fold (next_row (current H + 1)) (kv H (key_of c) (current H)) (cond b (c ∷ []) [])) ((bytes_decides (key_of c) (key_of c)).1 refl)

pub kv-put : (H : History) (key value : List ℕ) (lease : ℤ) → kv (history_after H (Set key value lease ∷ [])) key (current H + 1) ≡ Some (record {
  key = key;
  create_revision = created_at (current H + 1) (kv H key (current H));
  mod_revision = current H + 1;
  version = version_of (kv H key (current H)) + 1;
  value = value;
  lease = lease;
})
kv-put H key value lease = kv-own H (Set key value lease)

-- a deleted key is not there
pub kv-delete : (H : History) (key : List ℕ) → kv (history_after H (Del key ∷ [])) key (current H + 1) ≡ None
kv-delete H key = kv-own H (Del key)

-- the rows after a put are those before, with the new row in the place of its key
pub rows-put : (H : History) (c : Change) (x : KeyValue) → key_of c ≡ x.key → kv (history_after H (c ∷ [])) x.key (current H + 1) ≡ Some x →
    history_rows (history_after H (c ∷ [])) every_key (current H + 1) ≡ put_in by_key (history_rows H every_key (current H)) x
rows-put H c x is shown =
    let T = history_after H (c ∷ []) in
    ap (filter_map (λ k. kv T k (current H + 1))) (every_one (history_keys T) ∙ keys-put H c ∙ ap (put_in key_cmp (history_keys H)) is)
    ∙ rows-put_in (λ k. kv H k (current H)) (λ k. kv T k (current H + 1)) x (λ k row. kv-key H k (current H) row) shown
    (λ k h. kv-other H c k (ap (λ a. bytes_eq a k) is ∙ h))
    (history_keys H) (keys_ascend H)
    ∙ ap (λ ks. put_in by_key (filter_map (λ k. kv H k (current H)) ks) x) (sym (every_one (history_keys H)))

-- ---- versions

pub one_change : (key : List ℕ) (c : Change) → length (changes_of key (c ∷ [])) ≤ 1
one_change key c = elim (bytes_eq (key_of c) key) as (λ b. length (cond b (c ∷ []) []) ≤ 1) [ true ↦ omega arith | false ↦ omega arith ]

-- a revision of one change is none that changes a key twice
pub ChangesOnce-after : (H : History) (c : Change) → ChangesOnce H → ChangesOnce (history_after H (c ∷ []))
ChangesOnce-after H c once key = All-push (λ cs. length (changes_of key cs) ≤ 1) H.revisions (c ∷ []) (once key) (one_change key c)

no_more : (key : List ℕ) (r n : ℕ) (cs : List Change) → length (filter (is_past key r) (map (entry_at n) cs)) ≤ length (changes_of key cs)
no_more key r n [] = omega arith
no_more key r n (c ∷ cs) = step (bytes_eq (key_of c) key) (nat_le n r) (no_more key r n cs)
  where
    step : (b t : Bool) → length (filter (is_past key r) (map (entry_at n) cs)) ≤ length (changes_of key cs) →
        length (cond (b && t) (entry_at n c ∷ filter (is_past key r) (map (entry_at n) cs)) (filter (is_past key r) (map (entry_at n) cs))) ≤ length (cond b (c ∷ changes_of key cs) (changes_of key cs))
    step true true h = omega (arith, h)
    step true false h = omega (arith, h)
    step false t h = h

once_past : (key : List ℕ) (r n : ℕ) (revisions : List (List Change)) → All (λ cs. length (changes_of key cs) ≤ 1) revisions → length (filter (is_past key r) (entries_after n revisions)) ≤ length revisions
once_past key r n [] once = omega arith
once_past key r n (cs ∷ more) once =
    let P : List Change → Type 0 = λ cs. length (changes_of key cs) ≤ 1 in
    let here = filter (is_past key r) (map (entry_at (n + 1)) cs) in
    let later = filter (is_past key r) (entries_after (n + 1) more) in
    let first : length here ≤ 1 = omega (arith, no_more key r (n + 1) cs, All-head P cs more once) in
    rw (filter-append (is_past key r) (map (entry_at (n + 1)) cs) (entries_after (n + 1) more))
    (omega (arith, length-append here later, first, once_past key r (n + 1) more (All-tail P cs more once)))

-- where no revision changes a key twice, a version is at most the number of revisions
pub version-revisions : (H : History) → ChangesOnce H → (key : List ℕ) (r : ℕ) → version_of (kv H key r) ≤ length H.revisions
version-revisions H once key r = omega (arith, version-past H key r, once_past key r H.first H.revisions (once key))

pub versions : (H : History) → ChangesOnce H → (interval : List ℕ → Bool) (r : ℕ) → All (λ row. row.version ≤ length H.revisions) (history_rows H interval r)
versions H once interval r =
    all_rows (λ k. kv H k r) (λ k row. kv-key H k r row) (λ row. row.version ≤ length H.revisions)
    (λ k row e. omega (arith, version-revisions H once k r, ap version_of e)) (filter interval (history_keys H))

-- no row was written after the revision that is read
pub mod_revisions : (H : History) (interval : List ℕ → Bool) (r : ℕ) → All (λ row. row.mod_revision ≤ r) (history_rows H interval r)
mod_revisions H interval r = all_rows (λ k. kv H k r) (λ k row. kv-key H k r row) (λ row. row.mod_revision ≤ r) (λ k row. kv-mod_revision H k r row) (filter interval (history_keys H))
