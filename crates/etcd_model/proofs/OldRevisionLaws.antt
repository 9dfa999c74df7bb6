-- What a key or an interval is at a revision never changes later.
use Rattle.std.proofs.Common.{◌≡◌, ℕ, ◌+◌, ◌<◌, ◌≤◌, List, [], ◌∷◌, ◌++◌, refl, ap, ◌∙◌, sym, arith, map}
use Rattle.std.specs.Prelude.{Bool, cond, fold, filter, filter_map, Option, nat_le}
use Rattle.std.specs.Str.{bytes_eq}
use Rattle.std.proofs.lemmas.Bool.{lt-leb, and_right}
use Rattle.std.proofs.lemmas.List.{append-nil, map-append}
use Rattle.std.proofs.lemmas.List.Elements.{filter-append}
use Rattle.std.proofs.lemmas.List.Sums.{fold-append}
use Rattle.etcd_types.specs.declared.step.Step.{Step}
use Rattle.etcd_types.specs.declared.key_value.KeyValue.{KeyValue}
use Rattle.etcd_model.specs.Order.{put_in, in_order, key_cmp}
use Rattle.etcd_model.specs.History.{History, Change, Entry, key_of, current, entries, entries_after, past, generation, shown_by, kv, history_keys, history_rows}
use Rattle.etcd_model.specs.Interval.{every_key}
use Rattle.etcd_model.specs.Machine.{State, machine}
use Rattle.etcd_model.proofs.RowLaws.{rows-more_keys}
use Rattle.etcd_model.proofs.HistoryLaws.{entry_at, is_past, entries_after-append}
use Rattle.etcd_model.proofs.PutLaws.{every_one, keys_ascend, rows-interval, never_changed}
use Rattle.etcd_model.proofs.GrowthLaws.{Extends, machine_extends}

none_of_one : (key : List ℕ) (n r : ℕ) (cs : List Change) → r < n → filter (is_past key r) (map (entry_at n) cs) ≡ []
none_of_one key n r [] h = refl
none_of_one key n r (c ∷ cs) h =
    ap (λ b. cond b (entry_at n c ∷ filter (is_past key r) (map (entry_at n) cs)) (filter (is_past key r) (map (entry_at n) cs))) (and_right (bytes_eq (key_of c) key) (nat_le n r) (lt-leb n r h))
    ∙ none_of_one key n r cs h

-- no change of a later revision is past
none_later : (key : List ℕ) (n r : ℕ) (more : List (List Change)) → r ≤ n → filter (is_past key r) (entries_after n more) ≡ []
none_later key n r [] h = refl
none_later key n r (cs ∷ more) h =
    let up : r ≤ n + 1 = omega (arith, h) in
    let new : r < n + 1 = omega (arith, h) in
    filter-append (is_past key r) (map (entry_at (n + 1)) cs) (entries_after (n + 1) more)
    ∙ ap (λ xs. xs ++ filter (is_past key r) (entries_after (n + 1) more)) (none_of_one key (n + 1) r cs new) ∙ none_later key (n + 1) r more up

module _ (H K : History) (e : Extends H K) where
  entries-extends : entries K ≡ entries H ++ entries_after (current H) e.more
  entries-extends = ap (λ n. entries_after n K.revisions) e.first ∙ ap (entries_after H.first) e.revisions ∙ entries_after-append H.first H.revisions e.more

  pub past_stays : (key : List ℕ) (r : ℕ) → r ≤ current H → past K key r ≡ past H key r
  past_stays key r h =
      let p = is_past key r in
      ap (filter p) entries-extends ∙ filter-append p (entries H) (entries_after (current H) e.more)
      ∙ ap (λ xs. past H key r ++ xs) (none_later key (current H) r e.more h) ∙ append-nil (past H key r)

  -- the row of a key at a revision stays
  pub kv_stays : (key : List ℕ) (r : ℕ) → r ≤ current H → kv K key r ≡ kv H key r
  kv_stays key r h = ap (λ es. shown_by (generation es)) (past_stays key r h)

  keys-extends : history_keys K ≡ fold (put_in key_cmp) (history_keys H) (map (λ (x : Entry). key_of x.change) (entries_after (current H) e.more))
  keys-extends =
      let key_at : Entry → List ℕ = λ x. key_of x.change in
      let later = entries_after (current H) e.more in
      ap (λ es. in_order key_cmp (map key_at es)) entries-extends ∙ ap (in_order key_cmp) (map-append key_at (entries H) later)
      ∙ fold-append (put_in key_cmp) [] (map key_at (entries H)) (map key_at later)

  every_row_stays : (r : ℕ) → r ≤ current H → history_rows K every_key r ≡ history_rows H every_key r
  every_row_stays r h =
      let look : List ℕ → Option KeyValue = λ k. kv H k r in
      ap (filter_map (λ k. kv K k r)) (every_one (history_keys K)) ∙ (λ i. filter_map (λ k. kv_stays k r h i) (history_keys K)) ∙ ap (filter_map look) keys-extends
      ∙ rows-more_keys look (map (λ (x : Entry). key_of x.change) (entries_after (current H) e.more)) (history_keys H) (keys_ascend H) (λ key none. never_changed H key r none)
      ∙ ap (filter_map look) (sym (every_one (history_keys H)))

  -- the rows of an interval at a revision stay
  pub rows_stay : (interval : List ℕ → Bool) (r : ℕ) → r ≤ current H → history_rows K interval r ≡ history_rows H interval r
  rows_stay interval r h = rows-interval K interval r ∙ ap (filter (λ (row : KeyValue). interval row.key)) (every_row_stays r h) ∙ sym (rows-interval H interval r)

-- whatever the step
pub kv-machine : (S : State History) (step : Step) (key : List ℕ) (r : ℕ) → r ≤ current S.store → kv (machine S step).state.store key r ≡ kv S.store key r
kv-machine S step = kv_stays S.store (machine S step).state.store (machine_extends S step)

pub rows-machine : (S : State History) (step : Step) (interval : List ℕ → Bool) (r : ℕ) → r ≤ current S.store → history_rows (machine S step).state.store interval r ≡ history_rows S.store interval r
rows-machine S step = rows_stay S.store (machine S step).state.store (machine_extends S step)
