-- No revision changes a key twice: a branch that would is refused, and a delete finds no key that is deleted already.
use Rattle.std.proofs.Common.{◌≡◌, ℕ, ◌+◌, ◌≤◌, List, [], ◌∷◌, ◌++◌, length, refl, ap, ◌∙◌, sym, arith, subst, length-append, map, ◌⊎◌, inl, inr}
use Rattle.std.specs.Prelude.{ℤ, Bool, true, false, cond, ◌||◌, fold, filter, Option, Some, None, max, min, if◌then◌else◌}
use Rattle.std.specs.List.{All, AllByRecursion, list_any}
use Rattle.std.specs.List.Sorted.{IsStrictlySortedBy}
use Rattle.std.specs.Ordering.{int_eq}
use Rattle.std.specs.Str.{bytes_eq}
use Rattle.std.specs.Cmp.Lexicographic.{bytes_decides}
use Rattle.std.specs.declared.cmp.Ordering.TheVariants.{Less}
use Rattle.std.proofs.lemmas.Bool.{true≢false, or_parts, or_from, false_from_ne_true}
use Rattle.std.proofs.lemmas.Simd.{map-map}
use Rattle.std.proofs.lemmas.List.Folds.{list_any_none}
use Rattle.std.proofs.lemmas.List.Elements.{All-push, All-nil, All-weaker, filter-append, filter_passes}
use Rattle.std.proofs.lemmas.List.Kept.{IsStrictlySortedBy-filter}
use Rattle.etcd_types.specs.declared.key_value.KeyValue.{KeyValue}
use Rattle.etcd_types.specs.declared.kv.PutReq.{PutReq}
use Rattle.etcd_types.specs.declared.kv.DeleteReq.{DeleteReq}
use Rattle.etcd_types.specs.declared.txn.TxnReq.{TxnReq}
use Rattle.etcd_types.specs.declared.txn.Op.{Op}
use Rattle.etcd_types.specs.declared.txn.Op.TheVariants.{Range as RangeOp, Put as PutOp, Delete as DeleteOp, Nested}
use Rattle.etcd_types.specs.declared.step.Step.{Step}
use Rattle.etcd_types.specs.declared.step.Step.TheVariants.{Put, Delete, Txn, Compact, Revoke, Tick}
use Rattle.etcd_types.specs.declared.refusal.Refusal.{Refusal}
use Rattle.etcd_types.specs.declared.refusal.Refusal.TheVariants.{NoKey, ValueGiven, LeaseGiven, TooManyOps, DuplicateKey, NotOffered}
use Rattle.etcd_types.specs.declared.txn.Compare.{Compare}
use Rattle.etcd_types.specs.Limits.{max_ops, last_moment}
use Rattle.etcd_model.specs.declared.state.Lease.{Lease}
use Rattle.etcd_model.specs.Order.{key_cmp, by_key}
use Rattle.etcd_model.specs.History.{History, Change, Del, key_of, current, history_after, kv, history_keys, history_rows}
use Rattle.etcd_model.specs.Interval.{is_in, every_key}
use Rattle.etcd_model.specs.Reads.{Reads, Look}
use Rattle.etcd_model.specs.Compares.{all_hold}
use Rattle.etcd_model.specs.Fields.{fields, refused_if, is_empty, op_lacks_key, gives_value, gives_lease, has_over, is_nested, puts, deletes, has_twice, has_duplicate}
use Rattle.etcd_model.specs.Operations.{put_change, pending_after, branch, first_refusal}
use Rattle.etcd_model.specs.Tenant.{reads}
use Rattle.etcd_model.specs.Leases.{attached, finish, run_out}
use Rattle.etcd_model.specs.Stepping.{outcome, pending}
use Rattle.etcd_model.specs.Machine.{State, history, machine, opening, state_after, history_reads}
use Rattle.etcd_model.proofs.RowLaws.{filter-none, later_key, all_rows}
use Rattle.etcd_model.proofs.HistoryLaws.{changes_of, next_row, kv-current_after, kv-key}
use Rattle.etcd_model.proofs.PutLaws.{rows_ascend, rows-interval, ChangesOnce, one_change}
use Rattle.etcd_model.proofs.GrowthLaws.{after_step, first_none, store_stays}

-- ---- deletes of ascending rows

abbrev pub deletes_of : List KeyValue → List Change
deletes_of rs = map (λ row. Del row.key) rs

pub no_delete : (key : List ℕ) (rs : List KeyValue) → list_any (λ row. bytes_eq row.key key) rs ≡ false → changes_of key (deletes_of rs) ≡ []
no_delete key [] h = refl
no_delete key (r ∷ rs) h =
    let parts = or_parts (bytes_eq r.key key) (list_any (λ row. bytes_eq row.key key) rs) h in
    ap (λ b. cond b (Del r.key ∷ changes_of key (deletes_of rs)) (changes_of key (deletes_of rs))) parts.0 ∙ no_delete key rs parts.1

no_later_row : (r : KeyValue) (key : List ℕ) → r.key ≡ key → (rs : List KeyValue) → AllByRecursion (λ z. by_key r z ≡ Less) rs → list_any (λ row. bytes_eq row.key key) rs ≡ false
no_later_row r key is [] h = refl
no_later_row r key is (z ∷ zs) h = or_from (bytes_eq z.key key) (list_any (λ row. bytes_eq row.key key) zs) (later_key key z.key (ap (λ k. key_cmp k z.key) (sym is) ∙ h.0)) (no_later_row r key is zs h.1)

-- none of some changes, or the one delete of a key
abbrev pub IsDeleteAtMost : List Change → Type 0
IsDeleteAtMost cs = (cs ≡ []) ⊎ ((k : List ℕ) × (cs ≡ Del k ∷ []))

-- of the deletes of ascending rows one at most is of a key
pub one_delete : (key : List ℕ) (rs : List KeyValue) → IsStrictlySortedBy by_key rs → IsDeleteAtMost (changes_of key (deletes_of rs))
unfolding IsStrictlySortedBy
one_delete key [] h = inl refl
one_delete key (r ∷ rs) h = elim (bytes_eq r.key key) as (λ b. bytes_eq r.key key ≡ b → IsDeleteAtMost (cond b (Del r.key ∷ changes_of key (deletes_of rs)) (changes_of key (deletes_of rs)))) [
  | true ↦ λ e. inr (r.key, ap (λ cs. Del r.key ∷ cs) (no_delete key rs (no_later_row r key ((bytes_decides r.key key).0 e) rs h.0)))
  | false ↦ λ e. one_delete key rs h.1
] refl

pub at_most_one : (cs : List Change) → IsDeleteAtMost cs → length cs ≤ 1
at_most_one cs (inl e) = omega (arith, ap length e)
at_most_one cs (inr (k, e)) = omega (arith, ap length e)

-- ---- the operations of a branch, for one key

-- what is read of a key with some changes pending: once it is deleted it is not live, and a delete finds each live key of its interval once
pub record Shows (look : Look) (key : List ℕ) : Type 0 where
  pub gone : (pending : List Change) (k : List ℕ) → changes_of key pending ≡ Del k ∷ [] → (look pending).row key ≡ None
  pub ascend : (pending : List Change) (first end : List ℕ) → IsStrictlySortedBy by_key ((look pending).rows first end)
  pub not_live : (pending : List Change) (first end : List ℕ) → (look pending).row key ≡ None → changes_of key (deletes_of ((look pending).rows first end)) ≡ []
  pub not_inside : (pending : List Change) (first end : List ℕ) → is_in first end key ≡ false → changes_of key (deletes_of ((look pending).rows first end)) ≡ []

module _ (look : Look) (key : List ℕ) (shows : Shows look key) where
  -- where the pending changes of the key are a delete at most, and so are those that follow, which are none if the key is not live
  settled_append : (pending cs : List Change) → IsDeleteAtMost (changes_of key pending) → IsDeleteAtMost (changes_of key cs) → ((look pending).row key ≡ None → changes_of key cs ≡ []) → IsDeleteAtMost (changes_of key (pending ++ cs))
  settled_append pending cs (inl e) d none =
      subst IsDeleteAtMost (sym (filter-append (λ (c : Change). bytes_eq (key_of c) key) pending cs ∙ ap (λ xs. xs ++ changes_of key cs) e)) d
  settled_append pending cs (inr (k, e)) d none =
      let gone = none (shows.gone pending k e) in
      inr (k, filter-append (λ (c : Change). bytes_eq (key_of c) key) pending cs ∙ ap (λ xs. xs ++ changes_of key cs) e ∙ ap (λ xs. Del k ∷ xs) gone)

  -- where no put is of the key
  settled : (ops : List Op) (pending : List Change) → list_any (λ p. bytes_eq p.key key) (puts ops) ≡ false → IsDeleteAtMost (changes_of key pending) → IsDeleteAtMost (changes_of key (pending_after look pending ops))
  settled [] pending h d = d
  settled (RangeOp q ∷ ops) pending h d = settled ops (pending ++ []) h (settled_append pending [] d (inl refl) (λ e. refl))
  settled (PutOp p ∷ ops) pending h d =
      let c = put_change p ((look pending).row p.key) in
      let parts = or_parts (bytes_eq p.key key) (list_any (λ (o : PutReq). bytes_eq o.key key) (puts ops)) h in
      let other : changes_of key (c ∷ []) ≡ [] = ap (λ b. cond b (c ∷ []) []) parts.0 in
      settled ops (pending ++ c ∷ []) parts.1 (settled_append pending (c ∷ []) d (inl other) (λ e. other))
  settled (DeleteOp o ∷ ops) pending h d =
      let rs = (look pending).rows o.key o.range_end in
      settled ops (pending ++ deletes_of rs) h (settled_append pending (deletes_of rs) d (one_delete key rs (shows.ascend pending o.key o.range_end)) (shows.not_live pending o.key o.range_end))
  settled (Nested ∷ ops) pending h d = settled ops (pending ++ []) h (settled_append pending [] d (inl refl) (λ e. refl))

  longer : (pending cs : List Change) → length (changes_of key (pending ++ cs)) ≡ length (changes_of key pending) + length (changes_of key cs)
  longer pending cs = ap length (filter-append (λ (c : Change). bytes_eq (key_of c) key) pending cs) ∙ length-append (changes_of key pending) (changes_of key cs)

  -- where no delete covers the key, each put of it is one change
  counted : (ops : List Op) (pending : List Change) → list_any (λ d. is_in d.key d.range_end key) (deletes ops) ≡ false → length (changes_of key (pending_after look pending ops)) ≡ length (changes_of key pending) + length (filter (λ p. bytes_eq p.key key) (puts ops))
  counted [] pending h = omega arith
  counted (RangeOp q ∷ ops) pending h = omega (arith, counted ops (pending ++ []) h, longer pending [])
  counted (PutOp p ∷ ops) pending h =
      let c = put_change p ((look pending).row p.key) in
      omega (arith, counted ops (pending ++ c ∷ []) h, longer pending (c ∷ []), one c (bytes_eq p.key key) (filter (λ (o : PutReq). bytes_eq o.key key) (puts ops)))
    where
      one : (c : Change) (b : Bool) (ps : List PutReq) → length (cond b (p ∷ ps) ps) ≡ length (cond b (c ∷ []) []) + length ps
      one c true ps = omega arith
      one c false ps = omega arith
  counted (DeleteOp o ∷ ops) pending h =
      let rs = (look pending).rows o.key o.range_end in
      let parts = or_parts (is_in o.key o.range_end key) (list_any (λ (d : DeleteReq). is_in d.key d.range_end key) (deletes ops)) h in
      omega (arith, counted ops (pending ++ deletes_of rs) parts.1, longer pending (deletes_of rs), ap length (shows.not_inside pending o.key o.range_end parts.0))
  counted (Nested ∷ ops) pending h = omega (arith, counted ops (pending ++ []) h, longer pending [])

  put_once : (ps : List PutReq) → has_twice ps ≡ false → length (filter (λ p. bytes_eq p.key key) ps) ≤ 1
  put_once [] h = omega arith
  put_once (p ∷ ps) h =
      let parts = or_parts (list_any (λ (q : PutReq). bytes_eq q.key p.key) ps) (has_twice ps) h in
      elim (bytes_eq p.key key) as (λ b. bytes_eq p.key key ≡ b → length (cond b (p ∷ filter (λ (q : PutReq). bytes_eq q.key key) ps) (filter (λ (q : PutReq). bytes_eq q.key key) ps)) ≤ 1) [
        | true ↦ λ e.
            let no_other : list_any (λ (q : PutReq). bytes_eq q.key key) ps ≡ false = ap (λ k. list_any (λ (q : PutReq). bytes_eq q.key k) ps) (sym ((bytes_decides p.key key).0 e)) ∙ parts.0 in
            omega (arith, ap length (filter-none (λ (q : PutReq). bytes_eq q.key key) ps no_other))
        | false ↦ λ e. put_once ps parts.1
      ] refl

  -- a key that a delete covers is not put
  not_put : (ps : List PutReq) (ds : List DeleteReq) → list_any (λ p. list_any (λ d. is_in d.key d.range_end p.key) ds) ps ≡ false → list_any (λ d. is_in d.key d.range_end key) ds ≡ true → list_any (λ p. bytes_eq p.key key) ps ≡ false
  not_put [] ds h covered = refl
  not_put (p ∷ ps) ds h covered =
      let covers : List ℕ → Bool = λ k. list_any (λ (d : DeleteReq). is_in d.key d.range_end k) ds in
      let parts = or_parts (covers p.key) (list_any (λ (q : PutReq). covers q.key) ps) h in
      or_from (bytes_eq p.key key) (list_any (λ (q : PutReq). bytes_eq q.key key) ps)
      (false_from_ne_true (bytes_eq p.key key) (λ t. true≢false (sym covered ∙ ap covers (sym ((bytes_decides p.key key).0 t)) ∙ parts.0)))
      (not_put ps ds parts.1 covered)

  -- a branch with no duplicate changes the key once at most
  pub branch_once : (ops : List Op) → has_duplicate ops ≡ false → length (changes_of key (pending_after look [] ops)) ≤ 1
  branch_once ops h =
      let covers : List ℕ → Bool = λ k. list_any (λ (d : DeleteReq). is_in d.key d.range_end k) (deletes ops) in
      let parts = or_parts (has_twice (puts ops)) (list_any (λ (p : PutReq). covers p.key) (puts ops)) h in
      elim (covers key) as (λ b. covers key ≡ b → length (changes_of key (pending_after look [] ops)) ≤ 1) [
        | true ↦ λ e. at_most_one (changes_of key (pending_after look [] ops)) (settled ops [] (not_put (puts ops) (deletes ops) parts.1 e) (inl refl))
        | false ↦ λ e. omega (arith, counted ops [] e, put_once (puts ops) parts.0)
      ] refl

-- ---- the reads of a history

module _ (H : History) (key : List ℕ) where
  apart_rows : (rs : List KeyValue) → All (λ row. bytes_eq row.key key ≡ false) rs → changes_of key (deletes_of rs) ≡ []
  apart_rows rs all = no_delete key rs (list_any_none (λ (row : KeyValue). bytes_eq row.key key) rs all)

  -- a key that is not live is not deleted
  not_live : (T : History) (interval : List ℕ → Bool) (r : ℕ) → kv T key r ≡ None → changes_of key (deletes_of (history_rows T interval r)) ≡ []
  not_live T interval r h = apart_rows (history_rows T interval r) (all_rows (λ k. kv T k r) (λ k row. kv-key T k r row) (λ row. bytes_eq row.key key ≡ false) apart (filter interval (history_keys T)))
    where
      apart : (k : List ℕ) (row : KeyValue) → kv T k r ≡ Some row → bytes_eq row.key key ≡ false
      apart k row e = false_from_ne_true (bytes_eq row.key key) (λ t.
          let own : row.key ≡ k = kv-key T k r row e in
          let none : kv T k r ≡ None = ap (λ a. kv T a r) (sym own ∙ (bytes_decides row.key key).0 t) ∙ h in
          cc)

  -- a delete of an interval without the key
  not_inside : (T : History) (interval : List ℕ → Bool) (r : ℕ) → interval key ≡ false → changes_of key (deletes_of (history_rows T interval r)) ≡ []
  not_inside T interval r h =
      let passes : KeyValue → Bool = λ row. interval row.key in
      let all = history_rows T every_key r in
      ap (λ (rs : List KeyValue). changes_of key (deletes_of rs)) (rows-interval T interval r)
      ∙ apart_rows (filter passes all) (All-weaker (λ (row : KeyValue). interval row.key ≡ true) (λ row. bytes_eq row.key key ≡ false)
      (λ row t. false_from_ne_true (bytes_eq row.key key) (λ s. true≢false (sym t ∙ ap interval ((bytes_decides row.key key).0 s) ∙ h)))
      (filter passes all) (filter_passes passes all))

  pub shows : Shows (λ pending. history_reads (history_after H pending)) key
  shows = record {
    gone = λ pending k e. kv-current_after H pending key ∙ ap (fold (next_row (current H + 1)) (kv H key (current H))) e;
    ascend = λ pending first end. rows_ascend (history_after H pending) (is_in first end) (current (history_after H pending));
    not_live = λ pending first end. not_live (history_after H pending) (is_in first end) (current (history_after H pending));
    not_inside = λ pending first end. not_inside (history_after H pending) (is_in first end) (current (history_after H pending));
  }

-- ---- every step

once_after : (H : History) (cs : List Change) → ChangesOnce H → ((key : List ℕ) → length (changes_of key cs) ≤ 1) → ChangesOnce (history_after H cs)
once_after H [] once h = once
once_after H (c ∷ cs) once h = λ key. All-push (λ xs. length (changes_of key xs) ≤ 1) H.revisions (c ∷ cs) (once key) (h key)

-- a lease that ends deletes each of its keys once
pub finish_once : (S : State History) (id : ℤ) → ChangesOnce S.store → ChangesOnce (finish history S id).store
finish_once S id once =
    let H = S.store in
    let inside : List ℕ → Bool = is_in [] (0 ∷ []) in
    let held : KeyValue → Bool = λ row. int_eq row.lease id in
    let rs = filter held (history_rows H inside (current H)) in
    once_after H (map Del (attached (reads history S) id)) once (λ key.
    at_most_one (changes_of key (map Del (attached (reads history S) id)))
    (subst (λ cs. IsDeleteAtMost (changes_of key cs)) (sym (map-map Del (λ (row : KeyValue). row.key) rs))
    (one_delete key rs (IsStrictlySortedBy-filter by_key held (history_rows H inside (current H)) (rows_ascend H inside (current H))))))

finish_all : (S : State History) (ls : List Lease) → ChangesOnce S.store → ChangesOnce (fold (λ T l. finish history T l.id) S ls).store
finish_all S [] once = once
finish_all S (l ∷ ls) once = finish_all (finish history S l.id) ls (finish_once S l.id once)

all_none : (rs : List (Option Refusal)) → first_refusal rs ≡ None → AllByRecursion (λ r. r ≡ None) rs
all_none [] h = tt
all_none (r ∷ rs) h = let parts = first_none r rs h in (parts.0, all_none rs parts.1)

pub not_refused : (b : Bool) (r : Refusal) → refused_if b r ≡ None → b ≡ false
not_refused true r h = cc
not_refused false r h = refl

-- the branch that is taken has no duplicate, since neither has
pub taken_branch : (R : Reads) (t : TxnReq) → fields (Txn t) ≡ None → has_duplicate (branch R t) ≡ false
taken_branch R t h =
    let ops = t.success ++ t.failure in
    let duplicate = has_duplicate t.success || has_duplicate t.failure in
    let refusals : List (Option Refusal) =
    refused_if (list_any (λ (c : Compare). is_empty c.key) t.compare || list_any op_lacks_key ops) NoKey
    ∷ refused_if (list_any gives_value (puts ops)) ValueGiven
    ∷ refused_if (list_any gives_lease (puts ops)) LeaseGiven
    ∷ refused_if (has_over max_ops t.compare || (has_over max_ops t.success || has_over max_ops t.failure)) TooManyOps
    ∷ refused_if duplicate DuplicateKey
    ∷ refused_if (list_any is_nested ops) NotOffered
    ∷ [] in
    let parts = or_parts (has_duplicate t.success) (has_duplicate t.failure) (not_refused duplicate DuplicateKey (all_none refusals h).1.1.1.1.0) in
    elim (all_hold R t.compare) as (λ b. has_duplicate (if b then t.success else t.failure) ≡ false) [ true ↦ parts.0 | false ↦ parts.1 ]

pub outcome_once : (S : State History) (step : Step) → ChangesOnce S.store → fields step ≡ None → ChangesOnce (outcome history S step).state.store
outcome_once S (Put p) once h = once_after S.store (pending history S (PutOp p ∷ [])) once (λ key. one_change key (put_change p (kv S.store p.key (current S.store))))
outcome_once S (Delete d) once h =
    let H = S.store in
    let inside : List ℕ → Bool = is_in d.key d.range_end in
    once_after H (pending history S (DeleteOp d ∷ [])) once (λ key. at_most_one (changes_of key (deletes_of (history_rows H inside (current H)))) (one_delete key (history_rows H inside (current H)) (rows_ascend H inside (current H))))
outcome_once S (Txn t) once h =
    let ops = branch (reads history S) t in
    once_after S.store (pending history S ops) once (λ key. branch_once (history.look S.store) key (shows S.store key) ops (taken_branch (reads history S) t h))
outcome_once S (Compact r) once h = once
outcome_once S (Revoke id) once h = finish_once S id once
outcome_once S (Tick m) once h =
    let later = record S { moment = max S.moment (min m last_moment) } in
    finish_all later (run_out later.moment later.leases) once
outcome_once S step once h = subst ChangesOnce (sym (store_stays S step refl)) once

pub ChangesOnce-machine : (S : State History) (step : Step) → ChangesOnce S.store → ChangesOnce (machine S step).state.store
ChangesOnce-machine S step once = after_step (λ T. ChangesOnce T.store) S step once (λ e. once) (outcome_once S step once)

pub ChangesOnce-opening : (cluster quota first : ℕ) → ChangesOnce (opening cluster quota first).store
ChangesOnce-opening cluster quota first key = All-nil (λ cs. length (changes_of key cs) ≤ 1)

-- so no run from an opening comes to a history that does
pub ChangesOnce-run : (S : State History) (steps : List Step) → ChangesOnce S.store → ChangesOnce (state_after S steps).store
ChangesOnce-run S [] once = once
ChangesOnce-run S (step ∷ steps) once = ChangesOnce-run (machine S step).state steps (ChangesOnce-machine S step once)
