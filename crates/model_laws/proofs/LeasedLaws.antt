-- No change is of the empty key, and the lease of each live key is there.
use Rattle.std.proofs.Common.{◌≡◌, ℕ, zero, suc, ◌+◌, List, [], ◌∷◌, ◌++◌, refl, ap, ◌∙◌, sym, arith, subst, map, inl, inr, ◌⊎◌}
use Rattle.std.specs.Prelude.{ℤ, pos, Bool, true, false, not, cond, ◌&&◌, ◌||◌, fold, filter, find, Option, Some, None, IfSome, max, min, nat_le, is_none, if◌then◌else◌}
use Rattle.std.specs.List.{AllByRecursion, list_any}
use Rattle.std.specs.Ordering.{int_eq, is_eq}
use Rattle.std.specs.Str.{bytes_eq}
use Rattle.std.proofs.lemmas.Bool.{true≢false, or_parts, or_from, or_right, false_from_ne_true}
use Rattle.std.proofs.lemmas.Bool.Decides.{nat_tests}
use Rattle.std.proofs.lemmas.List.{append-nil}
use Rattle.std.proofs.lemmas.List.Elements.{recursion_from_All}
use Rattle.std.proofs.lemmas.List.Folds.{list_any-append}
use Rattle.std.proofs.lemmas.Map.Views.{any-filter_same}
use Rattle.etcd_types.specs.declared.key_value.KeyValue.{KeyValue}
use Rattle.etcd_types.specs.declared.kv.PutReq.{PutReq}
use Rattle.etcd_types.specs.declared.txn.Compare.{Compare}
use Rattle.etcd_types.specs.declared.txn.TxnReq.{TxnReq}
use Rattle.etcd_types.specs.declared.txn.Op.{Op}
use Rattle.etcd_types.specs.declared.txn.Op.TheVariants.{Range as RangeOp, Put as PutOp, Delete as DeleteOp, Nested}
use Rattle.etcd_types.specs.declared.step.Step.{Step}
use Rattle.etcd_types.specs.declared.step.Step.TheVariants.{Put, Delete, Txn, Compact, Grant, Revoke, KeepAlive, Tick}
use Rattle.etcd_types.specs.declared.refusal.Refusal.{Refusal}
use Rattle.etcd_types.specs.declared.refusal.Refusal.TheVariants.{NoKey, LeaseNotFound, KeyNotFound}
use Rattle.etcd_types.specs.Limits.{last_moment}
use Rattle.etcd_model.specs.declared.state.Lease.{Lease}
use Rattle.etcd_model.specs.declared.state.History.{History}
use Rattle.etcd_model.specs.declared.state.Change.{Change}
use Rattle.etcd_model.specs.declared.state.Change.TheVariants.{Put as Set, Delete as Del}
use Rattle.etcd_model.specs.declared.state.Entry.{Entry}
use Rattle.etcd_model.specs.declared.state.State.{State}
use Rattle.std.specs.declared.cmp.Ordering.TheVariants.{Equal}
use Rattle.etcd_model.specs.Order.{put_in}
use Rattle.etcd_model.specs.History.{key_of, current, entries_after, kv, history_rows, history_keys, generation, shown_by, history_after}
use Rattle.etcd_model.specs.Interval.{is_in, every_key}
use Rattle.etcd_model.specs.Reads.{Reads}
use Rattle.etcd_model.specs.Compares.{all_hold}
use Rattle.etcd_model.specs.Operations.{put_change, kept_lease, op_refusal, ops_refusal, pending_after, branch, has_lease, first_refusal}
use Rattle.etcd_model.specs.Tenant.{reads}
use Rattle.etcd_model.specs.Leases.{lease_at, attached, finish, run_out, granted_ttl}
use Rattle.etcd_model.specs.Fields.{fields, refused_if, is_empty, op_lacks_key}
use Rattle.etcd_model.specs.Stepping.{look_up, outcome, pending, kept_alive, grant_id}
use Rattle.etcd_model.specs.Machine as machine
use Rattle.etcd_model.specs.Machine.{opening, history_reads}
use Rattle.etcd_model.specs.Changes.{entry_at, next_row}
use Rattle.etcd_model.specs.Held.{HasKeys, HoldsLeased, is_leased, by_id}
use Rattle.etcd_model.proofs.OrderLaws.{any-put_in}
use Rattle.etcd_model.proofs.RowLaws.{all_rows}
use Rattle.etcd_model.proofs.HistoryLaws.{is_past, changes_of, kv-current_after, kv-key}
use Rattle.etcd_model.proofs.PutLaws.{rows-interval, row_among}
use Rattle.etcd_model.proofs.GrowthLaws.{first_none, store_stays}
use Rattle.etcd_model.proofs.OnceLaws.{not_refused}
use Rattle.model_laws.proofs.RecordedLaws.{all_push, all_append}
use Rattle.model_laws.proofs.HeldLaws.{after_allowed, after_machine}
use Rattle.model_laws.proofs.LeaseLaws.{same_id}
use Rattle.model_laws.proofs.RunLaws.{quiet_outcome}

-- ---- keys

abbrev Keyed : List Change → Type 0
Keyed cs = AllByRecursion (λ c. is_empty (key_of c) ≡ false) cs

not_empty : (key : List ℕ) → is_empty key ≡ false → bytes_eq key [] ≡ false
not_empty [] h = absurd (true≢false h)
not_empty (b ∷ bs) h = refl

no_past_at : (n r : ℕ) (cs : List Change) (es : List Entry) → Keyed cs → filter (is_past [] r) es ≡ [] → filter (is_past [] r) (map (entry_at n) cs ++ es) ≡ []
no_past_at n r [] es keyed rest = rest
no_past_at n r (c ∷ cs) es keyed rest =
    ap (λ b. cond (b && nat_le n r) (entry_at n c ∷ filter (is_past [] r) (map (entry_at n) cs ++ es)) (filter (is_past [] r) (map (entry_at n) cs ++ es))) (not_empty (key_of c) keyed.0)
    ∙ no_past_at n r cs es keyed.1 rest

no_past : (n r : ℕ) (revisions : List (List Change)) → AllByRecursion Keyed revisions → filter (is_past [] r) (entries_after n revisions) ≡ []
no_past n r [] all = refl
no_past n r (cs ∷ more) all = no_past_at (n + 1) r cs (entries_after (n + 1) more) all.0 (no_past (n + 1) r more all.1)

no_empty_row : (H : History) → HasKeys H → (r : ℕ) → kv H [] r ≡ None
no_empty_row H has r = ap (λ es. shown_by (generation es)) (no_past H.first r H.revisions has)

-- a row has a key
row_has_key : (H : History) → HasKeys H → (key : List ℕ) (r : ℕ) (row : KeyValue) → kv H key r ≡ Some row → is_empty row.key ≡ false
row_has_key H has key r row e = given key (kv-key H key r row e) e
  where
    given : (k : List ℕ) → row.key ≡ k → kv H k r ≡ Some row → is_empty row.key ≡ false
    given [] is shown = let none : None ≡ Some row = sym (no_empty_row H has r) ∙ shown in let bad : ⊥ = cc in absurd bad
    given (b ∷ bs) is shown = ap is_empty is

rows_have_keys : (H : History) → HasKeys H → (interval : List ℕ → Bool) (r : ℕ) → AllByRecursion (λ row. is_empty row.key ≡ false) (history_rows H interval r)
rows_have_keys H has interval r =
    recursion_from_All (λ (row : KeyValue). is_empty row.key ≡ false) (history_rows H interval r)
    (all_rows (λ k. kv H k r) (λ k row. kv-key H k r row) (λ row. is_empty row.key ≡ false) (λ k row e. row_has_key H has k r row e) (filter interval (history_keys H)))

keyed_deletes : (rs : List KeyValue) → AllByRecursion (λ row. is_empty row.key ≡ false) rs → Keyed (map (λ row. Del row.key) rs)
keyed_deletes [] all = tt
keyed_deletes (r ∷ rs) all = (all.0, keyed_deletes rs all.1)

keys_after : (H : History) (cs : List Change) → HasKeys H → Keyed cs → HasKeys (history_after H cs)
keys_after H [] has keyed = has
keys_after H (c ∷ cs) has keyed = all_push Keyed H.revisions (c ∷ cs) has keyed

keyed_ops : (H : History) → HasKeys H → (ops : List Op) (pending : List Change) → list_any op_lacks_key ops ≡ false → Keyed pending → Keyed (pending_after (machine.history.look H) pending ops)
keyed_ops H has [] pending h keyed = keyed
keyed_ops H has (RangeOp q ∷ ops) pending h keyed = keyed_ops H has ops (pending ++ []) (or_parts (is_empty q.key) (list_any op_lacks_key ops) h).1 (subst Keyed (sym (append-nil pending)) keyed)
keyed_ops H has (PutOp p ∷ ops) pending h keyed =
    let parts = or_parts (is_empty p.key) (list_any op_lacks_key ops) h in
    let c = put_change p ((machine.history.look H pending).row p.key) in
    keyed_ops H has ops (pending ++ c ∷ []) parts.1 (all_push (λ (d : Change). is_empty (key_of d) ≡ false) pending c keyed parts.0)
keyed_ops H has (DeleteOp d ∷ ops) pending h keyed =
    let T = history_after H pending in
    let rs = history_rows T (is_in d.key d.range_end) (current T) in
    let parts = or_parts (is_empty d.key) (list_any op_lacks_key ops) h in
    keyed_ops H has ops (pending ++ map (λ row. Del row.key) rs) parts.1
    (all_append (λ (c : Change). is_empty (key_of c) ≡ false) pending (map (λ (row : KeyValue). Del row.key) rs) keyed (keyed_deletes rs (rows_have_keys T (keys_after H pending has keyed) (is_in d.key d.range_end) (current T))))
keyed_ops H has (Nested ∷ ops) pending h keyed = keyed_ops H has ops (pending ++ []) h (subst Keyed (sym (append-nil pending)) keyed)

keyed_attached : (H : History) → HasKeys H → (id : ℤ) → Keyed (map Del (attached (history_reads H) id))
keyed_attached H has id = from (history_rows H (is_in [] (0 ∷ [])) (current H)) (rows_have_keys H has (is_in [] (0 ∷ [])) (current H))
  where
    from : (rs : List KeyValue) → AllByRecursion (λ row. is_empty row.key ≡ false) rs → Keyed (map Del (map (λ row. row.key) (filter (λ row. int_eq row.lease id) rs)))
    from [] all = tt
    from (r ∷ rs) all = elim (int_eq r.lease id) as (λ b. Keyed (map Del (map (λ row. row.key) (cond b (r ∷ filter (λ row. int_eq row.lease id) rs) (filter (λ row. int_eq row.lease id) rs))))) [ true ↦ (all.0, from rs all.1) | false ↦ from rs all.1 ]

keys_ends : (ls : List Lease) (S : State History) → HasKeys S.store → HasKeys (fold (λ T l. finish machine.history T l.id) S ls).store
keys_ends [] S has = has
keys_ends (l ∷ ls) S has = keys_ends ls (finish machine.history S l.id) (keys_after S.store (map Del (attached (reads machine.history S) l.id)) has (keyed_attached S.store has l.id))

put_has_key : (p : PutReq) → fields (Put p) ≡ None → is_empty p.key ≡ false
put_has_key p h = not_refused (is_empty p.key) NoKey (first_none (refused_if (is_empty p.key) NoKey) _ h).0

branch_has_keys : (R : Reads) (t : TxnReq) → fields (Txn t) ≡ None → list_any op_lacks_key (branch R t) ≡ false
branch_has_keys R t h =
    let lacks = list_any (λ (c : Compare). is_empty c.key) t.compare in
    let all = list_any op_lacks_key (t.success ++ t.failure) in
    let no = (or_parts lacks all (not_refused (lacks || all) NoKey (first_none (refused_if (lacks || all) NoKey) _ h).0)).1 in
    let parts = or_parts (list_any op_lacks_key t.success) (list_any op_lacks_key t.failure) (sym (list_any-append op_lacks_key t.success t.failure) ∙ no) in
    elim (all_hold R t.compare) as (λ b. list_any op_lacks_key (if b then t.success else t.failure) ≡ false) [ true ↦ parts.0 | false ↦ parts.1 ]

keys_outcome : (S : State History) (step : Step) → HasKeys S.store → fields step ≡ None → HasKeys (outcome machine.history S step).state.store
keys_outcome S (Put p) has f = keys_after S.store (pending machine.history S (PutOp p ∷ [])) has (keyed_ops S.store has (PutOp p ∷ []) [] (or_from (is_empty p.key) false (put_has_key p f) refl) tt)
keys_outcome S (Delete d) has f = keys_after S.store (pending machine.history S (DeleteOp d ∷ [])) has (keyed_ops S.store has (DeleteOp d ∷ []) [] (or_from (is_empty d.key) false (not_refused (is_empty d.key) NoKey f) refl) tt)
keys_outcome S (Txn t) has f = let ops = branch (reads machine.history S) t in keys_after S.store (pending machine.history S ops) has (keyed_ops S.store has ops [] (branch_has_keys (reads machine.history S) t f) tt)
keys_outcome S (Compact r) has f = has
keys_outcome S (Revoke id) has f = keys_after S.store (map Del (attached (reads machine.history S) id)) has (keyed_attached S.store has id)
keys_outcome S (Tick m) has f = let later = record S { moment = max S.moment (min m last_moment) } in keys_ends (run_out later.moment later.leases) later has
keys_outcome S step has f = subst HasKeys (sym (store_stays S step refl)) has

before_has_keys : (S : State History) (step : Step) → HasKeys S.store → HasKeys (machine.before_space S step).state.store
before_has_keys S step has = after_allowed (λ T. HasKeys T.store) S step has (λ f e. keys_outcome S step has f)

pub step_has_keys : (S : State History) (step : Step) → HasKeys S.store → HasKeys (machine.machine S step).state.store
step_has_keys S step has = after_machine (λ T. HasKeys T.store) S step has has (before_has_keys S step has)

pub opening_has_keys : (cluster quota first : ℕ) → HasKeys (opening cluster quota first).store
opening_has_keys cluster quota first = tt

-- ---- the rows of a step's writes

abbrev RowLeased : List Lease → Option KeyValue → Type 0
RowLeased leases o = IfSome o (λ row. is_leased leases row.lease ≡ true)

abbrev ChangeLeased : List Lease → Change → Type 0
ChangeLeased leases (Set key value lease) = is_leased leases lease ≡ true
ChangeLeased leases (Del key) = Unit {0}

leased_next : (leases : List Lease) (r : ℕ) (o : Option KeyValue) (c : Change) → ChangeLeased leases c → RowLeased leases (next_row r o c)
leased_next leases r o (Set key value lease) h = h
leased_next leases r o (Del key) h = tt

leased_fold : (leases : List Lease) (r : ℕ) (key : List ℕ) (o : Option KeyValue) (cs : List Change) → RowLeased leases o → AllByRecursion (ChangeLeased leases) cs → RowLeased leases (fold (next_row r) o (changes_of key cs))
leased_fold leases r key o [] h all = h
leased_fold leases r key o (c ∷ cs) h all = elim (bytes_eq (key_of c) key) as (λ b. RowLeased leases (fold (next_row r) o (cond b (c ∷ changes_of key cs) (changes_of key cs)))) [
  | true ↦ leased_fold leases r key (next_row r o c) cs (leased_next leases r o c all.0) all.1
  | false ↦ leased_fold leases r key o cs h all.1
]

leased_after : (S : State History) (cs : List Change) → HoldsLeased S → AllByRecursion (ChangeLeased S.leases) cs → (key : List ℕ) → RowLeased S.leases (kv (history_after S.store cs) key (current (history_after S.store cs)))
leased_after S cs has all key = subst (RowLeased S.leases) (sym (kv-current_after S.store cs key)) (leased_fold S.leases (current S.store + 1) key (kv S.store key (current S.store)) cs (has key) all)

-- a put whose lease is there
put_lease : (b c : Bool) (r : Refusal) (more : Option Refusal) → (if not b && not c then Some r else more) ≡ None → (b || c) ≡ true
put_lease true c r more h = refl
put_lease false true r more h = refl
put_lease false false r more h = let bad : ⊥ = cc in absurd bad

leased_kept : (leases : List Lease) (o : Option KeyValue) → RowLeased leases o → is_leased leases (kept_lease o) ≡ true
leased_kept leases None h = refl
leased_kept leases (Some row) h = h

leased_put : (leases : List Lease) (b : Bool) (lease kept : ℤ) → is_leased leases lease ≡ true → is_leased leases kept ≡ true → is_leased leases (if b then kept else lease) ≡ true
leased_put leases true lease kept h k = k
leased_put leases false lease kept h k = h

leased_deletes : (leases : List Lease) (rs : List KeyValue) → AllByRecursion (ChangeLeased leases) (map (λ row. Del row.key) rs)
leased_deletes leases [] = tt
leased_deletes leases (r ∷ rs) = (tt, leased_deletes leases rs)

leased_ops : (S : State History) → HoldsLeased S → (ops : List Op) (pending : List Change) → ops_refusal S.leases (reads machine.history S) ops ≡ None → AllByRecursion (ChangeLeased S.leases) pending
    → AllByRecursion (ChangeLeased S.leases) (pending_after (machine.history.look S.store) pending ops)
leased_ops S has [] pending e all = all
leased_ops S has (RangeOp q ∷ ops) pending e all =
    let parts = first_none (op_refusal S.leases (reads machine.history S) (RangeOp q)) (map (op_refusal S.leases (reads machine.history S)) ops) e in
    leased_ops S has ops (pending ++ []) parts.1 (subst (AllByRecursion (ChangeLeased S.leases)) (sym (append-nil pending)) all)
leased_ops S has (PutOp p ∷ ops) pending e all =
    let R = reads machine.history S in
    let parts = first_none (op_refusal S.leases R (PutOp p)) (map (op_refusal S.leases R) ops) e in
    let now = (machine.history.look S.store pending).row p.key in
    let c = put_change p now in
    let own : is_leased S.leases p.lease ≡ true = put_lease (int_eq p.lease (pos 0)) (has_lease S.leases p.lease) LeaseNotFound (if (p.ignore_value || p.ignore_lease) && is_none (R.row p.key) then Some KeyNotFound else None) parts.0 in
    leased_ops S has ops (pending ++ c ∷ []) parts.1
    (all_push (ChangeLeased S.leases) pending c all (leased_put S.leases p.ignore_lease p.lease (kept_lease now) own (leased_kept S.leases now (leased_after S pending has all p.key))))
leased_ops S has (DeleteOp d ∷ ops) pending e all =
    let T = history_after S.store pending in
    let rs = history_rows T (is_in d.key d.range_end) (current T) in
    let parts = first_none (op_refusal S.leases (reads machine.history S) (DeleteOp d)) (map (op_refusal S.leases (reads machine.history S)) ops) e in
    leased_ops S has ops (pending ++ map (λ row. Del row.key) rs) parts.1 (all_append (ChangeLeased S.leases) pending (map (λ (row : KeyValue). Del row.key) rs) all (leased_deletes S.leases rs))
leased_ops S has (Nested ∷ ops) pending e all =
    let parts = first_none (op_refusal S.leases (reads machine.history S) Nested) (map (op_refusal S.leases (reads machine.history S)) ops) e in
    leased_ops S has ops (pending ++ []) parts.1 (subst (AllByRecursion (ChangeLeased S.leases)) (sym (append-nil pending)) all)

-- ---- more leases

leased_more : (leases : List Lease) (x : Lease) (o : Option KeyValue) → RowLeased leases o → RowLeased (put_in by_id leases x) o
leased_more leases x None h = tt
leased_more leases x (Some row) h = more (int_eq row.lease (pos 0)) (has_lease leases row.lease) (has_lease (put_in by_id leases x) row.lease) (any-put_in by_id (λ l. int_eq l.id row.lease) (λ a b e. ap (λ z. int_eq z row.lease) (sym (tied a b e))) x leases) h
  where
    tied : (a b : Lease) → by_id a b ≡ Equal → a.id ≡ b.id
    tied a b e = same_id a.id b.id (ap is_eq e)

    more : (z c d : Bool) → d ≡ (int_eq x.id row.lease || c) → (z || c) ≡ true → (z || d) ≡ true
    more true c d is h = refl
    more false c d is h = is ∙ or_right (int_eq x.id row.lease) c h

-- ---- fewer leases

-- deletes end a row
fold_deletes : (r : ℕ) (key : List ℕ) (o : Option KeyValue) (ks : List (List ℕ)) → (fold (next_row r) o (changes_of key (map Del ks)) ≡ None) ⊎ ((list_any (λ k. bytes_eq k key) ks ≡ false) × (fold (next_row r) o (changes_of key (map Del ks)) ≡ o))
fold_deletes r key o [] = inr (refl, refl)
fold_deletes r key o (k ∷ ks) = elim (bytes_eq k key) as (λ b. (fold (next_row r) o (cond b (Del k ∷ changes_of key (map Del ks)) (changes_of key (map Del ks))) ≡ None) ⊎ (((b || list_any (λ k. bytes_eq k key) ks) ≡ false) × (fold (next_row r) o (cond b (Del k ∷ changes_of key (map Del ks)) (changes_of key (map Del ks))) ≡ o))) [
  | true ↦ inl (elim (fold_deletes r key None ks) [ inl e ↦ e | inr e ↦ e.1 ])
  | false ↦ fold_deletes r key o ks
]

-- the first that passes one test, and passes another, is found among those that pass the other
find_filtered : (p q : KeyValue → Bool) (rs : List KeyValue) (row : KeyValue) → q row ≡ true → find p rs ≡ Some row → find p (filter q rs) ≡ Some row
find_filtered p q [] row h is = is
find_filtered p q (r ∷ rs) row h is = step (find_filtered p q rs row h) (p r) (q r) refl refl is
  where
    step : (find p rs ≡ Some row → find p (filter q rs) ≡ Some row) → (b c : Bool) → p r ≡ b → q r ≡ c → cond b (Some r) (find p rs) ≡ Some row → find p (cond c (r ∷ filter q rs) (filter q rs)) ≡ Some row
    step rest true true e f g = ap (λ b. cond b (Some r) (find p (filter q rs))) e ∙ g
    step rest true false e f g = let same : r ≡ row = cc in absurd (true≢false (sym h ∙ sym (ap q same) ∙ f))
    step rest false true e f g = ap (λ b. cond b (Some r) (find p (filter q rs))) e ∙ rest g
    step rest false false e f g = rest g

found_key : (key : List ℕ) (rs : List KeyValue) (row : KeyValue) → find (λ r. bytes_eq r.key key) rs ≡ Some row → list_any (λ k. bytes_eq k key) (map (λ r. r.key) rs) ≡ true
found_key key [] row is = let bad : ⊥ = cc in absurd bad
found_key key (r ∷ rs) row is = step (found_key key rs row) (bytes_eq r.key key) is
  where
    step : (find (λ r. bytes_eq r.key key) rs ≡ Some row → list_any (λ k. bytes_eq k key) (map (λ r. r.key) rs) ≡ true) → (b : Bool) → cond b (Some r) (find (λ r. bytes_eq r.key key) rs) ≡ Some row → (b || list_any (λ k. bytes_eq k key) (map (λ r. r.key) rs)) ≡ true
    step rest true g = refl
    step rest false g = rest g

-- every key is from the empty one on
pub among_all : (key : List ℕ) → is_in [] (0 ∷ []) key ≡ true
among_all [] = refl
among_all (b ∷ bs) = refl

-- a live key with a lease is among those that the lease holds
held_key : (H : History) (id : ℤ) (key : List ℕ) (row : KeyValue) → kv H key (current H) ≡ Some row → int_eq row.lease id ≡ true → list_any (λ k. bytes_eq k key) (attached (history_reads H) id) ≡ true
held_key H id key row is held =
    let n = current H in
    let every : List ℕ → Bool = is_in [] (0 ∷ []) in
    let mine : KeyValue → Bool = λ r. bytes_eq r.key key in
    let inside : KeyValue → Bool = λ r. every r.key in
    let there : find mine (filter inside (history_rows H every_key n)) ≡ Some row = find_filtered mine inside (history_rows H every_key n) row (among_all row.key) (row_among H key n ∙ is) in
    found_key key (filter (λ r. int_eq r.lease id) (history_rows H every n)) row
    (find_filtered mine (λ r. int_eq r.lease id) (history_rows H every n) row held (ap (find mine) (rows-interval H every n) ∙ there))

other_lease : (leases : List Lease) (id lease : ℤ) → int_eq lease id ≡ false → is_leased leases lease ≡ true → is_leased (filter (λ l. not (int_eq l.id id)) leases) lease ≡ true
other_lease leases id lease apart h = ap (λ b. int_eq lease (pos 0) || b) (any-filter_same (λ (l : Lease). int_eq l.id lease) (λ (l : Lease). not (int_eq l.id id)) true (λ l t. ap not (ap (λ z. int_eq z id) (same_id l.id lease t) ∙ apart)) leases) ∙ h

finish_leased : (S : State History) (id : ℤ) → HoldsLeased S → HoldsLeased (finish machine.history S id)
finish_leased S id has key =
    let H = S.store in
    let ids = attached (history_reads H) id in
    let left = filter (λ (l : Lease). not (int_eq l.id id)) S.leases in
    elim (fold_deletes (current H + 1) key (kv H key (current H)) ids) [
      | inl gone ↦ subst (RowLeased left) (sym (kv-current_after H (map Del ids) key ∙ gone)) tt
      | inr stays ↦ subst (RowLeased left) (sym (kv-current_after H (map Del ids) key ∙ stays.1)) (still (kv H key (current H)) refl (has key) stays.0)
    ]
  where
    still : (o : Option KeyValue) → kv S.store key (current S.store) ≡ o → RowLeased S.leases o → list_any (λ k. bytes_eq k key) (attached (history_reads S.store) id) ≡ false → RowLeased (filter (λ (l : Lease). not (int_eq l.id id)) S.leases) o
    still None is h none = tt
    still (Some row) is h none = other_lease S.leases id row.lease (false_from_ne_true (int_eq row.lease id) (λ t. true≢false (sym (held_key S.store id key row is t) ∙ none))) h

ends_leased : (ls : List Lease) (S : State History) → HoldsLeased S → HoldsLeased (fold (λ T l. finish machine.history T l.id) S ls)
ends_leased [] S has = has
ends_leased (l ∷ ls) S has = ends_leased ls (finish machine.history S l.id) (finish_leased S l.id has)

-- ---- each step

alive_leased : (S : State History) (id : ℤ) (o : Option Lease) → HoldsLeased S → HoldsLeased (kept_alive machine.history S id o).state
alive_leased S id None has = has
alive_leased S id (Some l) has = λ key. leased_more S.leases (record { id = id; ttl = l.ttl; end = S.moment + l.ttl }) (kv S.store key (current S.store)) (has key)

leased_outcome : (S : State History) (step : Step) → HasKeys S.store → HoldsLeased S → look_up machine.history S step ≡ None → HoldsLeased (outcome machine.history S step).state
leased_outcome S (Put p) given has e = leased_after S (pending machine.history S (PutOp p ∷ [])) has (leased_ops S has (PutOp p ∷ []) [] (ap (λ o. first_refusal (o ∷ [])) e) tt)
leased_outcome S (Delete d) given has e = leased_after S (pending machine.history S (DeleteOp d ∷ [])) has (leased_ops S has (DeleteOp d ∷ []) [] refl tt)
leased_outcome S (Txn t) given has e = let ops = branch (reads machine.history S) t in leased_after S (pending machine.history S ops) has (leased_ops S has ops [] e tt)
leased_outcome S (Compact r) given has e = has
leased_outcome S (Grant g) given has e =
    let id = grant_id S.counter S.leases g.id in
    λ key. leased_more S.leases (record { id = id; ttl = granted_ttl g.ttl; end = S.moment + granted_ttl g.ttl }) (kv S.store key (current S.store)) (has key)
leased_outcome S (Revoke id) given has e = finish_leased S id has
leased_outcome S (KeepAlive id) given has e = alive_leased S id (lease_at S.leases id) has
leased_outcome S (Tick m) given has e = let later = record S { moment = max S.moment (min m last_moment) } in ends_leased (run_out later.moment later.leases) later has
leased_outcome S step given has e = quiet_outcome HoldsLeased S has (λ i w. has) (λ on. has) step refl

before_holds_leased : (S : State History) (step : Step) → HasKeys S.store → HoldsLeased S → HoldsLeased (machine.before_space S step).state
before_holds_leased S step given has = after_allowed HoldsLeased S step has (λ f e. leased_outcome S step given has e)

pub step_holds_leased : (S : State History) (step : Step) → HasKeys S.store → HoldsLeased S → HoldsLeased (machine.machine S step).state
step_holds_leased S step given has = after_machine HoldsLeased S step has has (before_holds_leased S step given has)

pub opening_holds_leased : (cluster quota first : ℕ) → HoldsLeased (opening cluster quota first)
opening_holds_leased cluster quota first key = tt
