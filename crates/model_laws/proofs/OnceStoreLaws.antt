-- A step's writes over what is kept change no key twice.
use Rattle.std.proofs.Common.{◌≡◌, ℕ, ◌+◌, ◌≤◌, List, [], ◌∷◌, ◌++◌, length, refl, ap, ◌∙◌, sym, arith, subst, map, ℤ}
use Rattle.std.specs.Prelude.{Bool, true, false, cond, ◌&&◌, ◌||◌, fold, filter, find, Some, None, nat_le, if◌then◌else◌}
use Rattle.std.specs.List.{AllByRecursion, list_any}
use Rattle.std.specs.Ordering.{int_eq}
use Rattle.std.specs.Str.{bytes_eq}
use Rattle.std.specs.Cmp.Lexicographic.{bytes_decides}
use Rattle.std.proofs.lemmas.Bool.{or_parts, or_from, true≢false, false_from_ne_true}
use Rattle.std.proofs.Common.{append_assoc}
use Rattle.std.proofs.lemmas.Bool.Decides.{nat_tests}
use Rattle.std.proofs.lemmas.List.{append-nil}
use Rattle.std.proofs.lemmas.List.Elements.{filter-append}
use Rattle.std.proofs.lemmas.List.Kept.{IsStrictlySortedBy-filter}
use Rattle.std.proofs.lemmas.Map.Views.{any-filter_same}
use Rattle.std.proofs.lemmas.Simd.{map-map}
use Rattle.etcd_types.specs.declared.txn.Op.{Op}
use Rattle.etcd_types.specs.declared.key_value.KeyValue.{KeyValue}
use Rattle.etcd_model.specs.declared.state.Change.{Change}
use Rattle.etcd_model.specs.Operations.{pending_after}
use Rattle.etcd_model.specs.Fields.{has_duplicate}
use Rattle.etcd_model.specs.declared.state.Change.TheVariants.{Delete as Del}
use Rattle.etcd_model.specs.History.{key_of}
use Rattle.etcd_model.specs.Interval.{is_in, every_key}
use Rattle.etcd_model.specs.Leases.{attached}
use Rattle.etcd_model.specs.Changes.{Recorded, entry_at, next_row, live, rows, recorded, record_revision, since}
use Rattle.etcd_model.specs.Store.{Store, IsStore, after, reads_of, kept_store}
use Rattle.etcd_model.proofs.HistoryLaws.{changes_of}
use Rattle.etcd_model.proofs.OnceLaws.{Shows, branch_once, no_delete, one_delete, at_most_one, IsDeleteAtMost}
use Rattle.etcd_model.specs.Order.{by_key}
use Rattle.model_laws.specs.Once.{IsOnce}
use Rattle.model_laws.proofs.RowLaws.{has_key, row_found, rows_inside, rows_rise}
use Rattle.model_laws.proofs.RecordedLaws.{live_push, live_push_up_to}
use Rattle.model_laws.proofs.HistoryKeptLaws.{no_more, fewer}
use Rattle.model_laws.proofs.SpaceLaws.{row_pending, after_is_store}

-- ---- a key with changes pending

-- the changes of a revision, one after another, make a key's row
pub live_revision : (key : List ℕ) (n : ℕ) (xs : List Recorded) (cs : List Change) → live key n (record_revision n xs cs) ≡ fold (next_row n) (live key n xs) (changes_of key cs)
live_revision key n xs [] = refl
live_revision key n xs (c ∷ cs) =
    let y = recorded xs (entry_at n c) in
    live_revision key n (xs ++ y ∷ []) cs
    ∙ ap (λ o. fold (next_row n) o (changes_of key cs)) (live_push_up_to key n xs y (omega arith))
    ∙ elim (bytes_eq (key_of c) key) as (λ b. bytes_eq (key_of c) key ≡ b → fold (next_row n) (if b then y.row else live key n xs) (changes_of key cs) ≡ fold (next_row n) (live key n xs) (cond b (c ∷ changes_of key cs) (changes_of key cs))) [
      | true ↦ λ e. ap (λ k. fold (next_row n) (next_row n (live k n xs) c) (changes_of key cs)) ((bytes_decides (key_of c) key).0 e)
      | false ↦ λ e. refl
    ] refl

-- a key that is not found is at none of the rows
pub none_found : (key : List ℕ) (rs : List KeyValue) → find (has_key key) rs ≡ None → list_any (has_key key) rs ≡ false
none_found key [] h = refl
none_found key (r ∷ rs) h = step (none_found key rs) (bytes_eq r.key key) h
  where
    step : (find (has_key key) rs ≡ None → list_any (has_key key) rs ≡ false) → (b : Bool) → cond b (Some r) (find (has_key key) rs) ≡ None → (b || list_any (has_key key) rs) ≡ false
    step rest true e = let bad : ⊥ = cc in absurd bad
    step rest false e = rest e

none_passing : (key : List ℕ) (q : KeyValue → Bool) (rs : List KeyValue) → list_any (has_key key) rs ≡ false → list_any (has_key key) (filter q rs) ≡ false
none_passing key q [] h = refl
none_passing key q (r ∷ rs) h =
    let parts = or_parts (bytes_eq r.key key) (list_any (has_key key) rs) h in
    let rest = none_passing key q rs parts.1 in
    elim (q r) as (λ b. list_any (has_key key) (cond b (r ∷ filter q rs) (filter q rs)) ≡ false) [ true ↦ or_from (bytes_eq r.key key) (list_any (has_key key) (filter q rs)) parts.0 rest | false ↦ rest ]

shows : (s : Store) → IsStore s → (key : List ℕ) → Shows (kept_store.look s) key
shows s is key = record {
  gone = λ pending k e. row_pending s pending is key ∙ live_revision key (s.current + 1) s.changes pending ∙ ap (fold (next_row (s.current + 1)) (live key (s.current + 1) s.changes)) e;
  ascend = λ pending first end. let T = after s pending in rows_rise T.changes (after_is_store s pending is).own T.current (is_in first end);
  not_live = λ pending first end h.
      let T = after s pending in
      let own = (after_is_store s pending is).own in
      let all = rows every_key T.current T.changes in
      no_delete key (rows (is_in first end) T.current T.changes)
      (ap (list_any (has_key key)) (rows_inside T.changes own T.current (is_in first end))
      ∙ none_passing key (λ row. is_in first end row.key) all (none_found key all (row_found T.changes own T.current key ∙ h)));
  not_inside = λ pending first end h.
      let T = after s pending in
      let own = (after_is_store s pending is).own in
      let all = rows every_key T.current T.changes in
      no_delete key (rows (is_in first end) T.current T.changes)
      (ap (list_any (has_key key)) (rows_inside T.changes own T.current (is_in first end))
      ∙ any-filter_same (has_key key) (λ (row : KeyValue). is_in first end row.key) false (λ row t. ap (is_in first end) ((bytes_decides row.key key).0 t) ∙ h) all);
}

pub branch_changes_once : (s : Store) (ops : List Op) → IsStore s → has_duplicate ops ≡ false → IsOnce (pending_after (kept_store.look s) [] ops)
branch_changes_once s ops is distinct key = branch_once (kept_store.look s) key (shows s is key) ops distinct

pub finish_changes_once : (s : Store) (id : ℤ) → IsStore s → IsOnce (map Del (attached (reads_of s) id))
finish_changes_once s id is key =
    let held : KeyValue → Bool = λ row. int_eq row.lease id in
    let rs = rows (is_in [] (0 ∷ [])) s.current s.changes in
    at_most_one (changes_of key (map Del (attached (reads_of s) id)))
    (subst (λ cs. IsDeleteAtMost (changes_of key cs)) (sym (map-map Del (λ (row : KeyValue). row.key) (filter held rs)))
    (one_delete key (filter held rs) (IsStrictlySortedBy-filter by_key held rs (rows_rise s.changes is.own s.current (is_in [] (0 ∷ []))))))

-- ---- where each key is there once

pub keys_apart : (key : List ℕ) (cs : List Change) → length (changes_of key cs) ≤ 0 → AllByRecursion (λ d. bytes_eq (key_of d) key ≡ false) cs
keys_apart key [] few = tt
keys_apart key (d ∷ ds) few = elim (bytes_eq (key_of d) key) as (λ b. bytes_eq (key_of d) key ≡ b → length (cond b (d ∷ changes_of key ds) (changes_of key ds)) ≤ 0 → AllByRecursion (λ c. bytes_eq (key_of c) key ≡ false) (d ∷ ds)) [
  | true ↦ λ e h. absurd (omega (arith, h))
  | false ↦ λ e h. (e, keys_apart key ds h)
] refl few

-- a change of another key is recorded as before
recorded_other : (n : ℕ) (xs : List Recorded) (y : Recorded) (c : Change) → bytes_eq (key_of c) y.key ≡ false → recorded (xs ++ y ∷ []) (entry_at n c) ≡ recorded xs (entry_at n c)
recorded_other n xs y c apart =
    let other : bytes_eq y.key (key_of c) ≡ false = false_from_ne_true (bytes_eq y.key (key_of c)) (λ t. true≢false (sym ((bytes_decides (key_of c) y.key).1 (sym ((bytes_decides y.key (key_of c)).0 t))) ∙ apart)) in
    ap (λ o. record { key = key_of c; revision = n; row = next_row n o c }) (live_push (key_of c) n xs y ∙ ap (λ (b : Bool). if b && nat_le y.revision n then y.row else live (key_of c) n xs) other)

others_recorded : (n : ℕ) (xs : List Recorded) (y : Recorded) (cs : List Change) → AllByRecursion (λ d. bytes_eq (key_of d) y.key ≡ false) cs → map (λ c. recorded (xs ++ y ∷ []) (entry_at n c)) cs ≡ map (λ c. recorded xs (entry_at n c)) cs
others_recorded n xs y [] apart = refl
others_recorded n xs y (c ∷ cs) apart =
    ap (λ (x : Recorded). x ∷ map (λ d. recorded (xs ++ y ∷ []) (entry_at n d)) cs) (recorded_other n xs y c apart.0)
    ∙ ap (λ ys. recorded xs (entry_at n c) ∷ ys) (others_recorded n xs y cs apart.1)

pub recorded_where_once : (n : ℕ) (xs : List Recorded) (cs : List Change) → IsOnce cs → record_revision n xs cs ≡ xs ++ map (λ c. recorded xs (entry_at n c)) cs
recorded_where_once n xs [] once = sym (append-nil xs)
recorded_where_once n xs (c ∷ cs) once =
    let y = recorded xs (entry_at n c) in
    let apart = keys_apart (key_of c) cs (no_more c cs (once (key_of c))) in
    recorded_where_once n (xs ++ y ∷ []) cs (λ key. fewer (bytes_eq (key_of c) key) c (changes_of key cs) (once key))
    ∙ ap (λ ys. (xs ++ y ∷ []) ++ ys) (others_recorded n xs y cs apart)
    ∙ append_assoc xs (y ∷ []) (map (λ d. recorded xs (entry_at n d)) cs)

none_since : (n : ℕ) (xs : List Recorded) → AllByRecursion (λ x. x.revision ≤ n) xs → since (n + 1) xs ≡ []
none_since n [] up = refl
none_since n (x ∷ xs) up = ap (λ b. cond b (x ∷ since (n + 1) xs) (since (n + 1) xs)) (earlier x.revision up.0) ∙ none_since n xs up.1
  where
    earlier : (r : ℕ) → r ≤ n → nat_le (n + 1) r ≡ false
    earlier r le = grind (arith, nat_tests)

all_since : (n : ℕ) (xs : List Recorded) (cs : List Change) → since n (map (λ c. recorded xs (entry_at n c)) cs) ≡ map (λ c. recorded xs (entry_at n c)) cs
all_since n xs [] = refl
all_since n xs (c ∷ cs) =
    let rest = map (λ c. recorded xs (entry_at n c)) cs in
    ap (λ b. cond b (recorded xs (entry_at n c) ∷ since n rest) (since n rest)) (here n) ∙ ap (λ ys. recorded xs (entry_at n c) ∷ ys) (all_since n xs cs)
  where
    here : (r : ℕ) → nat_le r r ≡ true
    here r = grind (arith, nat_tests)

pub since_where_once : (s : Store) (cs : List Change) → IsStore s → IsOnce cs → since (s.current + 1) (after s cs).changes ≡ map (λ c. recorded s.changes (entry_at (s.current + 1) c)) cs
since_where_once s [] is once = none_since s.current s.changes is.up
since_where_once s (c ∷ cs) is once =
    let n = s.current + 1 in
    let new = map (λ d. recorded s.changes (entry_at n d)) (c ∷ cs) in
    ap (since n) (recorded_where_once n s.changes (c ∷ cs) once)
    ∙ filter-append (λ (x : Recorded). nat_le n x.revision) s.changes new
    ∙ ap (λ ys. ys ++ since n new) (none_since s.current s.changes is.up)
    ∙ all_since n s.changes (c ∷ cs)
