-- Which keys a lease holds, and what writes, ends of leases and compactions make of them.
use Rattle.std.proofs.Common.{◌≡◌, ℕ, ◌+◌, ◌≤◌, List, [], ◌∷◌, ◌++◌, refl, ap, ◌∙◌, sym, subst, inl, inr, append_assoc, map}
use Rattle.std.specs.Prelude.{ℤ, Bool, true, false, not, cond, ◌||◌, fold, filter, nat_le, Some, if◌then◌else◌}
use Rattle.std.specs.List.{AllByRecursion, list_any}
use Rattle.std.specs.List.Sorted.{IsStrictlySortedBy}
use Rattle.std.specs.Ordering.{int_cmp, int_eq, is_eq, ordering_reverse}
use Rattle.std.specs.Str.{bytes_eq}
use Rattle.std.specs.Cmp.Lexicographic.{bytes_decides, nat_list_cmp_total}
use Rattle.std.specs.declared.cmp.Ordering.{Ordering}
use Rattle.std.specs.declared.cmp.Ordering.TheVariants.{Less, Equal, Greater}
use Rattle.std.proofs.lemmas.Bool.{true≢false, or_from}
use Rattle.std.proofs.lemmas.Cmp.{int_cmp_total}
use Rattle.std.proofs.lemmas.List.{append-nil}
use Rattle.std.proofs.lemmas.List.Kept.{IsStrictlySortedBy-filter}
use Rattle.etcd_types.specs.declared.key_value.KeyValue.{KeyValue}
use Rattle.etcd_model.specs.declared.state.Change.{Change}
use Rattle.etcd_model.specs.declared.state.Change.TheVariants.{Put as Set, Delete as Del}
use Rattle.etcd_model.specs.declared.state.Lease.{Lease}
use Rattle.etcd_model.specs.declared.state.State.{State}
use Rattle.etcd_model.specs.Order.{beside, put_in, by_key}
use Rattle.etcd_model.specs.Interval.{every_key, is_in}
use Rattle.etcd_model.specs.Operations.{has_lease}
use Rattle.etcd_model.specs.Leases.{attached, finish, run_out}
use Rattle.etcd_model.specs.Store.{Store, IsStore, after, compact, reads_of, kept_store}
use Rattle.etcd_model.specs.Held.{by_id}
use Rattle.etcd_model.proofs.OrderLaws.{below_less, below_tied, bytes_eq-key_cmp, tied_keys}
use Rattle.etcd_model.proofs.RowLaws.{later_key}
use Rattle.model_laws.specs.Attached.{leased_rows, without_key}
use Rattle.model_laws.specs.Leases.{ends}
use Rattle.model_laws.specs.Pending.{rows_next}
use Rattle.model_laws.specs.Recording.{IsIn}
use Rattle.model_laws.specs.Space.{finished}
use Rattle.model_laws.proofs.EndsLaws.{among, filter_all, filter_twice, in_order_among, is_among}
use Rattle.model_laws.proofs.HistoryKeptLaws.{rows_kept}
use Rattle.model_laws.proofs.LastIsLaws.{all_in}
use Rattle.model_laws.proofs.LeaseLaws.{filter-swap, put_first, same_id}
use Rattle.model_laws.proofs.LeasedLaws.{among_all}
use Rattle.model_laws.proofs.PendingLaws.{rows_after_delete, rows_after_put, rows_at_next}
use Rattle.model_laws.proofs.RowLaws.{by_key_total, live-key, rows_inside, rows_rise}
use Rattle.model_laws.proofs.SpaceLaws.{after_is_store}

-- ---- rows in order

pub put_in_gap : (before behind : List KeyValue) (row : KeyValue) → AllByRecursion (λ r. by_key row r ≡ Greater) before → AllByRecursion (λ r. by_key row r ≡ Less) behind
    → put_in by_key (before ++ behind) row ≡ before ++ row ∷ behind
put_in_gap [] behind row above below = put_first by_key row behind below
put_in_gap (r ∷ rs) behind row above below =
    ap (λ o. beside o row r (rs ++ behind) (put_in by_key (rs ++ behind) row)) above.0 ∙ ap (λ zs. r ∷ zs) (put_in_gap rs behind row above.1 below)

pub put_in_place : (before behind : List KeyValue) (old row : KeyValue) → AllByRecursion (λ r. by_key row r ≡ Greater) before → by_key row old ≡ Equal
    → put_in by_key (before ++ old ∷ behind) row ≡ before ++ row ∷ behind
put_in_place [] behind old row above tie = ap (λ o. beside o row old behind (put_in by_key behind row)) tie
put_in_place (r ∷ rs) behind old row above tie =
    ap (λ o. beside o row r (rs ++ old ∷ behind) (put_in by_key (rs ++ old ∷ behind) row)) above.0 ∙ ap (λ zs. r ∷ zs) (put_in_place rs behind old row above.1 tie)

pub all_passing : {X : Type 0} (P : X → Type 0) (p : X → Bool) (xs : List X) → AllByRecursion P xs → AllByRecursion P (filter p xs)
all_passing P p [] all = tt
all_passing P p (x ∷ xs) all = elim (p x) as (λ b. AllByRecursion P (cond b (x ∷ filter p xs) (filter p xs))) [ true ↦ (all.0, all_passing P p xs all.1) | false ↦ all_passing P p xs all.1 ]

-- rows of greater keys are of other keys
none_of_key : (row : KeyValue) (rows : List KeyValue) → AllByRecursion (λ r. by_key row r ≡ Less) rows → without_key row.key rows ≡ rows
none_of_key row [] below = refl
none_of_key row (r ∷ rs) below =
    ap (λ b. cond (not b) (r ∷ without_key row.key rs) (without_key row.key rs)) (later_key row.key r.key below.0) ∙ ap (λ zs. r ∷ zs) (none_of_key row rs below.1)

-- how keys that are compared are told apart
same_key : (row r : KeyValue) → by_key row r ≡ Equal → bytes_eq r.key row.key ≡ true
same_key row r e = (bytes_decides r.key row.key).1 (sym (tied_keys row.key r.key e))

other_key : (row r : KeyValue) → by_key row r ≡ Greater → bytes_eq r.key row.key ≡ false
other_key row r e = bytes_eq-key_cmp r.key row.key ∙ ap is_eq (nat_list_cmp_total.antisymm r.key row.key ∙ ap ordering_reverse e)

module _ (p : KeyValue → Bool) (row : KeyValue) where
  -- a row that passes is put among those that pass
  passing_put : p row ≡ true → (rows : List KeyValue) → IsStrictlySortedBy by_key rows → filter p (put_in by_key rows row) ≡ put_in by_key (filter p rows) row
  unfolding IsStrictlySortedBy
  passing_put passes [] up = ap (λ b. cond b (row ∷ []) []) passes
  passing_put passes (r ∷ rs) up = elim (by_key row r) as (λ o. by_key row r ≡ o → filter p (beside o row r rs (put_in by_key rs row)) ≡ put_in by_key (filter p (r ∷ rs)) row) [
    | Less ↦ λ e. ap (λ b. cond b (row ∷ filter p (r ∷ rs)) (filter p (r ∷ rs))) passes ∙ sym (put_first by_key row (filter p (r ∷ rs)) (all_passing (λ z. by_key row z ≡ Less) p (r ∷ rs) (e, below_less by_key by_key_total row r e rs up.0)))
    | Equal ↦ λ e. ap (λ b. cond b (row ∷ filter p rs) (filter p rs)) passes ∙ tied e (all_passing (λ z. by_key row z ≡ Less) p rs (below_tied by_key by_key_total row r e rs up.0)) (p r)
    | Greater ↦ λ e. ap (λ zs. cond (p r) (r ∷ zs) zs) (passing_put passes rs up.1) ∙ later e (p r)
  ] refl
    where
      tied : by_key row r ≡ Equal → AllByRecursion (λ z. by_key row z ≡ Less) (filter p rs) → (b : Bool) → row ∷ filter p rs ≡ put_in by_key (cond b (r ∷ filter p rs) (filter p rs)) row
      tied e below true = sym (ap (λ o. beside o row r (filter p rs) (put_in by_key (filter p rs) row)) e)
      tied e below false = sym (put_first by_key row (filter p rs) below)

      later : by_key row r ≡ Greater → (b : Bool) → cond b (r ∷ put_in by_key (filter p rs) row) (put_in by_key (filter p rs) row) ≡ put_in by_key (cond b (r ∷ filter p rs) (filter p rs)) row
      later e true = sym (ap (λ o. beside o row r (filter p rs) (put_in by_key (filter p rs) row)) e)
      later e false = refl

  -- one that does not takes the row of its key from them
  failing_put : p row ≡ false → (rows : List KeyValue) → IsStrictlySortedBy by_key rows → filter p (put_in by_key rows row) ≡ without_key row.key (filter p rows)
  unfolding IsStrictlySortedBy
  failing_put fails [] up = ap (λ b. cond b (row ∷ []) []) fails
  failing_put fails (r ∷ rs) up = elim (by_key row r) as (λ o. by_key row r ≡ o → filter p (beside o row r rs (put_in by_key rs row)) ≡ without_key row.key (filter p (r ∷ rs))) [
    | Less ↦ λ e. ap (λ b. cond b (row ∷ filter p (r ∷ rs)) (filter p (r ∷ rs))) fails ∙ sym (none_of_key row (filter p (r ∷ rs)) (all_passing (λ z. by_key row z ≡ Less) p (r ∷ rs) (e, below_less by_key by_key_total row r e rs up.0)))
    | Equal ↦ λ e. ap (λ b. cond b (row ∷ filter p rs) (filter p rs)) fails ∙ tied e (all_passing (λ z. by_key row z ≡ Less) p rs (below_tied by_key by_key_total row r e rs up.0)) (p r)
    | Greater ↦ λ e. ap (λ zs. cond (p r) (r ∷ zs) zs) (failing_put fails rs up.1) ∙ later e (p r)
  ] refl
    where
      tied : by_key row r ≡ Equal → AllByRecursion (λ z. by_key row z ≡ Less) (filter p rs) → (b : Bool) → filter p rs ≡ without_key row.key (cond b (r ∷ filter p rs) (filter p rs))
      tied e below true = sym (ap (λ b. cond (not b) (r ∷ without_key row.key (filter p rs)) (without_key row.key (filter p rs))) (same_key row r e) ∙ none_of_key row (filter p rs) below)
      tied e below false = sym (none_of_key row (filter p rs) below)

      later : by_key row r ≡ Greater → (b : Bool) → cond b (r ∷ without_key row.key (filter p rs)) (without_key row.key (filter p rs)) ≡ without_key row.key (cond b (r ∷ filter p rs) (filter p rs))
      later e true = sym (ap (λ b. cond (not b) (r ∷ without_key row.key (filter p rs)) (without_key row.key (filter p rs))) (other_key row r e))
      later e false = refl

-- ---- the rows that a lease holds

abbrev has : ℤ → KeyValue → Bool
has id row = int_eq row.lease id

-- any key
abbrev inside : KeyValue → Bool
inside row = is_in [] (0 ∷ []) row.key

leased_of : (s : Store) (cs : List Change) (id : ℤ) → IsStore s → leased_rows (after s cs) id ≡ filter (has id) (filter inside (rows_next s cs))
leased_of s cs id is =
    ap (filter (has id)) (sym (rows_at_next s cs (is_in [] (0 ∷ [])) is) ∙ rows_inside (after s cs).changes (after_is_store s cs is).own (s.current + 1) (is_in [] (0 ∷ [])))

pub leased_ascend : (s : Store) (id : ℤ) → IsStore s → IsStrictlySortedBy by_key (leased_rows s id)
leased_ascend s id is =
    IsStrictlySortedBy-filter by_key (has id) ((reads_of s).rows [] (0 ∷ [])) (rows_rise s.changes is.own s.current (is_in [] (0 ∷ [])))

pub leased_after_put : (s : Store) (cs : List Change) (key value : List ℕ) (lease id : ℤ) (row : KeyValue) → IsStore s
    → (reads_of (after s (cs ++ Set key value lease ∷ []))).row key ≡ Some row
    → leased_rows (after s (cs ++ Set key value lease ∷ [])) id
    ≡ (if int_eq row.lease id then put_in by_key (leased_rows (after s cs) id) row else without_key key (leased_rows (after s cs) id))
leased_after_put s cs key value lease id row is shown =
    leased_of s (cs ++ Set key value lease ∷ []) id is
    ∙ ap (λ rs. filter (has id) (filter inside rs)) (rows_after_put s cs key value lease row is shown)
    ∙ ap (filter (has id)) (passing_put inside row (among_all row.key) (rows_next s cs) up)
    ∙ by (int_eq row.lease id) refl
  where
    own : row.key ≡ key
    own =
        let T = after s (cs ++ Set key value lease ∷ []) in
        live-key T.changes (after_is_store s (cs ++ Set key value lease ∷ []) is).own key T.current row shown

    up : IsStrictlySortedBy by_key (rows_next s cs)
    up = rows_rise (after s cs).changes (after_is_store s cs is).own (s.current + 1) every_key

    up_inside : IsStrictlySortedBy by_key (filter inside (rows_next s cs))
    up_inside = IsStrictlySortedBy-filter by_key inside (rows_next s cs) up

    by : (b : Bool) → int_eq row.lease id ≡ b → filter (has id) (put_in by_key (filter inside (rows_next s cs)) row)
        ≡ (if b then put_in by_key (leased_rows (after s cs) id) row else without_key key (leased_rows (after s cs) id))
    by true e = passing_put (has id) row e (filter inside (rows_next s cs)) up_inside ∙ ap (λ rs. put_in by_key rs row) (sym (leased_of s cs id is))
    by false e =
        failing_put (has id) row e (filter inside (rows_next s cs)) up_inside
        ∙ ap (λ k. without_key k (filter (has id) (filter inside (rows_next s cs)))) own
        ∙ ap (without_key key) (sym (leased_of s cs id is))

pub leased_after_delete : (s : Store) (cs : List Change) (key : List ℕ) (id : ℤ) → IsStore s → leased_rows (after s (cs ++ Del key ∷ [])) id ≡ without_key key (leased_rows (after s cs) id)
leased_after_delete s cs key id is =
    let other : KeyValue → Bool = λ row. not (bytes_eq row.key key) in
    leased_of s (cs ++ Del key ∷ []) id is
    ∙ ap (λ rs. filter (has id) (filter inside rs)) (rows_after_delete s cs key is)
    ∙ ap (filter (has id)) (filter-swap inside other (rows_next s cs))
    ∙ filter-swap (has id) other (filter inside (rows_next s cs))
    ∙ ap (filter other) (sym (leased_of s cs id is))

-- ---- the end of a lease

-- deletes take their keys from the rows
deletes_leave : (s : Store) (cs : List Change) (keys : List (List ℕ)) (id : ℤ) → IsStore s
    → leased_rows (after s (cs ++ map Del keys)) id ≡ filter (λ row. not (list_any (bytes_eq row.key) keys)) (leased_rows (after s cs) id)
deletes_leave s cs [] id is = ap (λ ds. leased_rows (after s ds) id) (append-nil cs) ∙ sym (filter_all (leased_rows (after s cs) id))
deletes_leave s cs (k ∷ ks) id is =
    ap (λ ds. leased_rows (after s ds) id) (sym (append_assoc cs (Del k ∷ []) (map Del ks)))
    ∙ deletes_leave s (cs ++ Del k ∷ []) ks id is
    ∙ ap (filter (λ (row : KeyValue). not (list_any (bytes_eq row.key) ks))) (leased_after_delete s cs k id is)
    ∙ filter_twice (λ (row : KeyValue). bytes_eq row.key k) (λ (row : KeyValue). list_any (bytes_eq row.key) ks) (leased_rows (after s cs) id)

-- the keys of the rows that pass
abbrev keys_of : (KeyValue → Bool) → List KeyValue → List (List ℕ)
keys_of q rows = map (λ (row : KeyValue). row.key) (filter q rows)

none_later : (q : KeyValue → Bool) (row : KeyValue) (rows : List KeyValue) → AllByRecursion (λ r. by_key row r ≡ Less) rows → list_any (bytes_eq row.key) (keys_of q rows) ≡ false
none_later q row [] below = refl
none_later q row (r ∷ rs) below = step (q r) (none_later q row rs below.1)
  where
    step : (b : Bool) → list_any (bytes_eq row.key) (keys_of q rs) ≡ false → list_any (bytes_eq row.key) (map (λ (z : KeyValue). z.key) (cond b (r ∷ filter q rs) (filter q rs))) ≡ false
    step true rest = or_from (bytes_eq row.key r.key) (list_any (bytes_eq row.key) (keys_of q rs)) (bytes_eq-key_cmp row.key r.key ∙ ap is_eq below.0) rest
    step false rest = rest

-- of ascending rows a key is among those of the rows that pass where its own row does
key_among : (q : KeyValue → Bool) (rows : List KeyValue) (row : KeyValue) → IsStrictlySortedBy by_key rows → IsIn row rows → list_any (bytes_eq row.key) (keys_of q rows) ≡ q row
unfolding IsStrictlySortedBy
key_among q [] row up there = absurd there
key_among q (r ∷ rs) row up there = elim there [
  | inl is ↦ subst (λ z. list_any (bytes_eq z.key) (keys_of q (r ∷ rs)) ≡ q z) (sym is) (first (q r) (none_later q r rs up.0))
  | inr later ↦ rest (q r) (later_key r.key row.key (all_in (λ z. by_key r z ≡ Less) rs row up.0 later)) (key_among q rs row up.1 later)
]
  where
    first : (b : Bool) → list_any (bytes_eq r.key) (keys_of q rs) ≡ false → list_any (bytes_eq r.key) (map (λ (z : KeyValue). z.key) (cond b (r ∷ filter q rs) (filter q rs))) ≡ b
    first true none = ap (λ b. b || list_any (bytes_eq r.key) (keys_of q rs)) ((bytes_decides r.key r.key).1 refl)
    first false none = none

    rest : (b : Bool) → bytes_eq row.key r.key ≡ false → list_any (bytes_eq row.key) (keys_of q rs) ≡ q row → list_any (bytes_eq row.key) (map (λ (z : KeyValue). z.key) (cond b (r ∷ filter q rs) (filter q rs))) ≡ q row
    rest true apart same = ap (λ b. b || list_any (bytes_eq row.key) (keys_of q rs)) apart ∙ same
    rest false apart same = same

-- tests that say the same of each member keep the same
filter_alike : {X : Type 0} (p q : X → Bool) (xs : List X) → ((x : X) → IsIn x xs → p x ≡ q x) → filter p xs ≡ filter q xs
filter_alike p q [] same = refl
filter_alike p q (x ∷ xs) same =
    ap (λ b. cond b (x ∷ filter p xs) (filter p xs)) (same x (inl refl)) ∙ ap (λ ys. cond (q x) (x ∷ ys) ys) (filter_alike p q xs (λ y there. same y (inr there)))

filter_neither : {X : Type 0} (p q : X → Bool) (xs : List X) → ((x : X) → q x ≡ true → p x ≡ false) → filter p (filter q xs) ≡ []
filter_neither p q [] never = refl
filter_neither p q (x ∷ xs) never = step (q x) refl (filter_neither p q xs never)
  where
    step : (b : Bool) → q x ≡ b → filter p (filter q xs) ≡ [] → filter p (cond b (x ∷ filter q xs) (filter q xs)) ≡ []
    step true e rest = ap (λ b. cond b (x ∷ filter p (filter q xs)) (filter p (filter q xs))) (never x e) ∙ rest
    step false e rest = rest

filter_within : {X : Type 0} (p q : X → Bool) (xs : List X) → ((x : X) → p x ≡ true → q x ≡ true) → filter p (filter q xs) ≡ filter p xs
filter_within p q [] within = refl
filter_within p q (x ∷ xs) within = step (p x) (q x) refl refl (filter_within p q xs within)
  where
    step : (b c : Bool) → p x ≡ b → q x ≡ c → filter p (filter q xs) ≡ filter p xs → filter p (cond c (x ∷ filter q xs) (filter q xs)) ≡ cond b (x ∷ filter p xs) (filter p xs)
    step b true e f rest = ap (λ a. cond a (x ∷ filter p (filter q xs)) (filter p (filter q xs))) e ∙ ap (λ ys. cond b (x ∷ ys) ys) rest
    step false false e f rest = rest
    step true false e f rest = absurd (true≢false (sym (within x e) ∙ f))

-- the end of a lease takes its rows
finish_leaves : (s : Store) (id other : ℤ) → IsStore s → leased_rows (finished s id) other ≡ filter (has other) (filter (λ row. not (has id row)) ((reads_of s).rows [] (0 ∷ [])))
finish_leaves s id other is =
    let rows = (reads_of s).rows [] (0 ∷ []) in
    let stays : KeyValue → Bool = λ row. not (list_any (bytes_eq row.key) (keys_of (has id) rows)) in
    deletes_leave s [] (attached (reads_of s) id) other is
    ∙ filter-swap stays (has other) rows
    ∙ ap (filter (has other)) (filter_alike stays (λ row. not (has id row)) rows (λ row there. ap not (key_among (has id) rows row (rows_rise s.changes is.own s.current (is_in [] (0 ∷ []))) there)))

pub leased_by_ended : (s : Store) (id : ℤ) → IsStore s → leased_rows (finished s id) id ≡ []
leased_by_ended s id is =
    finish_leaves s id id is ∙ filter_neither (has id) (λ row. not (has id row)) ((reads_of s).rows [] (0 ∷ [])) (λ row. turned (has id row))
  where
    turned : (b : Bool) → not b ≡ true → b ≡ false
    turned true e = absurd (true≢false (sym e))
    turned false e = refl

pub leased_by_others : (s : Store) (id other : ℤ) → IsStore s → int_eq other id ≡ false → leased_rows (finished s id) other ≡ leased_rows s other
leased_by_others s id other is apart =
    finish_leaves s id other is ∙ filter_within (has other) (λ row. not (has id row)) ((reads_of s).rows [] (0 ∷ []))
    (λ row mine. ap not (ap (λ z. int_eq z id) (same_id row.lease other mine) ∙ apart))

-- ---- the ends of all that have run out

same_either_way : (a b : ℤ) → int_eq a b ≡ int_eq b a
same_either_way a b = ap is_eq (int_cmp_total.antisymm a b) ∙ reversed (int_cmp b a)
  where
    reversed : (o : Ordering) → is_eq (ordering_reverse o) ≡ is_eq o
    reversed Less = refl
    reversed Equal = refl
    reversed Greater = refl

ends_leave_rows : (es : List Lease) (t : State Store) (id : ℤ) → IsStore t.store
    → leased_rows (fold (λ u l. finish kept_store u l.id) t es).store id ≡ (if has_lease es id then [] else leased_rows t.store id)
ends_leave_rows [] t id is = refl
ends_leave_rows (e ∷ es) t id is =
    ends_leave_rows es (finish kept_store t e.id) id (after_is_store t.store (map Del (attached (reads_of t.store) e.id)) is) ∙ step (int_eq e.id id) refl
  where
    either : (b : Bool) → (if b then [] else []) ≡ (let none : List KeyValue = [] in none)
    either true = refl
    either false = refl

    step : (b : Bool) → int_eq e.id id ≡ b → (if has_lease es id then [] else leased_rows (finished t.store e.id) id) ≡ (if b || has_lease es id then [] else leased_rows t.store id)
    step true same = ap (λ rs. if has_lease es id then [] else rs) (ap (λ i. leased_rows (finished t.store i) id) (same_id e.id id same) ∙ leased_by_ended t.store id is) ∙ either (has_lease es id)
    step false apart = ap (λ rs. if has_lease es id then [] else rs) (leased_by_others t.store e.id id is (same_either_way id e.id ∙ apart))

pub leased_after_ends : (t : State Store) (id : ℤ) → IsStore t.store → leased_rows (ends t).store id ≡ (if has_lease (run_out t.moment t.leases) id then [] else leased_rows t.store id)
leased_after_ends t id is = ends_leave_rows (run_out t.moment t.leases) t id is

pub run_out_has : (moment : ℕ) (leases : List Lease) (l : Lease) → IsStrictlySortedBy by_id leases → IsIn l leases → has_lease (run_out moment leases) l.id ≡ nat_le l.end moment
run_out_has moment leases l up there = turned (run_out moment leases) ∙ in_order_among moment leases l ∙ among moment leases l up there
  where
    turned : (es : List Lease) → has_lease es l.id ≡ is_among es l
    turned [] = refl
    turned (e ∷ es) = ap (λ b. b || has_lease es l.id) (same_either_way e.id l.id) ∙ ap (λ b. int_eq l.id e.id || b) (turned es)

-- ---- a compaction

pub leased_after_compaction : (s : Store) (r : ℕ) (id : ℤ) → IsStore s → r ≤ s.current → leased_rows (compact s r) id ≡ leased_rows s id
leased_after_compaction s r id is le = ap (filter (has id)) (rows_kept (is_in [] (0 ∷ [])) r s.current s.changes le is.rises is.own)
