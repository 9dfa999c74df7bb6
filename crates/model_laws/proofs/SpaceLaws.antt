-- What a change makes of the counted_cells in use.
use Rattle.std.proofs.Common.{◌≡◌, ℕ, ◌+◌, ◌≤◌, List, [], ◌∷◌, ◌++◌, length, refl, ap, ◌∙◌, sym, arith, subst, map, append_assoc, inl, inr}
use Rattle.std.specs.Prelude.{Bool, true, false, not, cond, fold, filter, filter_map, find, sum_by, Option, Some, None, if◌then◌else◌, ℤ, ◌-◌}
use Rattle.std.specs.Str.{bytes_eq}
use Rattle.std.specs.List.{AllByRecursion, cons_option}
use Rattle.std.specs.Ordering.{is_eq, int_eq}
use Rattle.std.proofs.lemmas.Simd.{map-map}
use Rattle.std.specs.List.Sorted.{IsStrictlySortedBy}
use Rattle.std.specs.Cmp.Lexicographic.{bytes_decides}
use Rattle.std.specs.declared.cmp.Ordering.TheVariants.{Less}
use Rattle.std.proofs.lemmas.Bool.{cases_Bool, false_from_ne_true, true≢false}
use Rattle.std.proofs.lemmas.List.{append-nil, map-append, length-map}
use Rattle.std.proofs.lemmas.List.Kept.{IsStrictlySortedBy-filter}
use Rattle.std.proofs.lemmas.List.Sums.{fold-append, sum_by-cons, sum_by_push}
use Rattle.etcd_types.specs.declared.kv.DeleteReq.{DeleteReq}
use Rattle.etcd_types.specs.declared.key_value.KeyValue.{KeyValue}
use Rattle.etcd_types.specs.declared.txn.Op.{Op}
use Rattle.etcd_types.specs.declared.txn.Op.TheVariants.{Range as RangeOp, Put as PutOp, Delete as DeleteOp, Nested}
use Rattle.etcd_types.specs.Steps.{adds_any}
use Rattle.etcd_model.specs.declared.state.Change.{Change}
use Rattle.etcd_model.specs.declared.state.State.{State}
use Rattle.etcd_model.specs.declared.state.History.{History}
use Rattle.etcd_model.specs.Tenant.{used}
use Rattle.etcd_model.specs.declared.state.Change.TheVariants.{Put as Set, Delete as Del}
use Rattle.etcd_model.specs.History.{key_of, current}
use Rattle.etcd_model.specs.Order.{key_cmp, by_key}
use Rattle.etcd_model.specs.Interval.{is_in, every_key}
use Rattle.etcd_model.specs.Kept.{cost, cost_delete, cost_put}
use Rattle.etcd_model.specs.Operations.{kept_value, kept_lease, and_changes, pending_after}
use Rattle.etcd_model.specs.Leases.{attached}
use Rattle.etcd_model.specs.Changes.{Recorded, OwnRow, keys, Rises, entry_at, change_by, change_of, recorded_changes, next_row, live, rows, recorded, record_change, record_revision, kept, keeps}
use Rattle.etcd_model.specs.Store.{Store, IsStore, after, reads_of, record_cells, reserved_cells, counted_cells, kept_store, compact}
use Rattle.etcd_model.specs.Held.{keep, IsHistory}
use Rattle.etcd_model.proofs.OrderLaws.{bytes_eq-key_cmp}
use Rattle.etcd_model.proofs.OnceLaws.{deletes_of}
use Rattle.model_laws.specs.Space.{if_row, room, given_by, taken_by}
use Rattle.model_laws.proofs.KeptLaws.{all_kept, kept_rises, kept_true, kept_false}
use Rattle.model_laws.proofs.RowLaws.{has_key, rows_by_their_keys, not_found, row_found, rows_rise, same_rows, live-key}
use Rattle.model_laws.proofs.RecordedLaws.{all_push, all_weaker, live_later, live_push_up_to, own_fold, own_recorded, changes_rise, changes_up_to_current, changes_own_their_rows}
use Rattle.model_laws.proofs.HistoryKeptLaws.{rows_kept}
use Rattle.model_laws.proofs.HeldLaws.{rises_push}

-- ---- rows but for one key

abbrev without : List ℕ → List KeyValue → List KeyValue
without key rs = filter (λ row. not (bytes_eq row.key key)) rs

rows_without : (f : KeyValue → ℕ) (key : List ℕ) (rs : List KeyValue) → IsStrictlySortedBy by_key rs → sum_by f rs ≡ sum_by f (without key rs) + if_row f (find (has_key key) rs)
unfolding IsStrictlySortedBy
rows_without f key [] h = refl
rows_without f key (r ∷ rs) h =
    let rest = rows_without f key rs h.1 in
    let whole = sum_by-cons f r rs in
    elim (bytes_eq r.key key) as (λ b. bytes_eq r.key key ≡ b → sum_by f (r ∷ rs) ≡ sum_by f (cond (not b) (r ∷ without key rs) (without key rs)) + if_row f (cond b (Some r) (find (has_key key) rs))) [
      | true ↦ λ t.
          let gone : find (has_key key) rs ≡ None = not_found key rs (subst (λ k. AllByRecursion (λ z. key_cmp k z.key ≡ Less) rs) ((bytes_decides r.key key).0 t) h.0) in
          omega (arith, whole, rest, ap (if_row f) gone)
      | false ↦ λ t. omega (arith, whole, rest, sum_by-cons f r (without key rs))
    ] refl

same_either : (b : Bool) (o : Option KeyValue) → o ≡ (if b then o else o)
same_either true o = refl
same_either false o = refl

pub find_without : (key other : List ℕ) (rs : List KeyValue) → find (has_key other) (without key rs) ≡ (if bytes_eq other key then None else find (has_key other) rs)
find_without key other [] = same_either (bytes_eq other key) None
find_without key other (r ∷ rs) =
    elim (bytes_eq r.key key) as (λ b. bytes_eq r.key key ≡ b → find (has_key other) (cond (not b) (r ∷ without key rs) (without key rs)) ≡ (if bytes_eq other key then None else cond (bytes_eq r.key other) (Some r) (find (has_key other) rs))) [
      | true ↦ λ t.
          find_without key other rs
          ∙ elim (bytes_eq other key) as (λ c. bytes_eq other key ≡ c → (if c then None else find (has_key other) rs) ≡ (if c then None else cond (bytes_eq r.key other) (Some r) (find (has_key other) rs))) [
            | true ↦ λ u. refl
            | false ↦ λ u.
                let apart : bytes_eq r.key other ≡ false = false_from_ne_true (bytes_eq r.key other) (λ s. true≢false (sym ((bytes_decides other key).1 (sym ((bytes_decides r.key other).0 s) ∙ (bytes_decides r.key key).0 t)) ∙ u)) in
                ap (λ d. cond d (Some r) (find (has_key other) rs)) (sym apart)
          ] refl
      | false ↦ λ t.
          elim (bytes_eq r.key other) as (λ d. bytes_eq r.key other ≡ d → cond d (Some r) (find (has_key other) (without key rs)) ≡ (if bytes_eq other key then None else cond d (Some r) (find (has_key other) rs))) [
            | true ↦ λ s.
                let apart : bytes_eq other key ≡ false = ap (λ k. bytes_eq k key) (sym ((bytes_decides r.key other).0 s)) ∙ t in
                ap (λ c. if c then None else Some r) (sym apart)
            | false ↦ λ s. find_without key other rs
          ] refl
    ] refl

-- where two lists of rows differ at one key alone, their sums differ by the rows of that key
rows_differ : (f : KeyValue → ℕ) (key : List ℕ) (rs qs : List KeyValue) → IsStrictlySortedBy by_key rs → IsStrictlySortedBy by_key qs
    → ((other : List ℕ) → bytes_eq other key ≡ false → find (has_key other) rs ≡ find (has_key other) qs)
    → sum_by f rs + if_row f (find (has_key key) qs) ≡ sum_by f qs + if_row f (find (has_key key) rs)
rows_differ f key rs qs sr sq same =
    let p : KeyValue → Bool = λ row. not (bytes_eq row.key key) in
    let alike : without key rs ≡ without key qs =
    rows_by_their_keys (without key rs) (without key qs) (IsStrictlySortedBy-filter by_key p rs sr) (IsStrictlySortedBy-filter by_key p qs sq)
    (λ other. find_without key other rs ∙ both (bytes_eq other key) (find (has_key other) rs) (find (has_key other) qs) (same other) ∙ sym (find_without key other qs)) in
    omega (arith, rows_without f key rs sr, rows_without f key qs sq, ap (sum_by f) alike)
  where
    both : (b : Bool) (o q : Option KeyValue) → (b ≡ false → o ≡ q) → (if b then None else o) ≡ (if b then None else q)
    both true o q h = refl
    both false o q h = h refl

-- ---- one more recorded change

pub rows_push : (f : KeyValue → ℕ) (n : ℕ) (xs : List Recorded) (y : Recorded) → AllByRecursion OwnRow xs → OwnRow y → y.revision ≤ n
    → sum_by f (rows every_key n (xs ++ y ∷ [])) + if_row f (live y.key n xs) ≡ sum_by f (rows every_key n xs) + if_row f y.row
rows_push f n xs y own oy low =
    let ys = xs ++ y ∷ [] in
    let all = all_push OwnRow xs y own oy in
    let shown : (key : List ℕ) → live key n ys ≡ (if bytes_eq y.key key then y.row else live key n xs) = λ key. live_push_up_to key n xs y low in
    let here : live y.key n ys ≡ y.row = shown y.key ∙ ap (λ (b : Bool). if b then y.row else live y.key n xs) ((bytes_decides y.key y.key).1 refl) in
    let differ = rows_differ f y.key (rows every_key n ys) (rows every_key n xs) (rows_rise ys all n every_key) (rows_rise xs own n every_key)
    (λ other h. row_found ys all n other ∙ shown other ∙ ap (λ (b : Bool). if b then y.row else live other n xs) (swapped other h) ∙ sym (row_found xs own n other)) in
    omega (arith, differ, ap (if_row f) (row_found xs own n y.key), ap (if_row f) (row_found ys all n y.key ∙ here))
  where
    swapped : (other : List ℕ) → bytes_eq other y.key ≡ false → bytes_eq y.key other ≡ false
    swapped other h = false_from_ne_true (bytes_eq y.key other) (λ s. true≢false (sym ((bytes_decides other y.key).1 (sym ((bytes_decides y.key other).0 s))) ∙ h))

abbrev pub cells_of : ℕ → List Recorded → ℕ
cells_of n xs = record_cells xs + reserved_cells n xs

cells_push : (n : ℕ) (xs : List Recorded) (y : Recorded) → AllByRecursion OwnRow xs → OwnRow y → y.revision ≤ n
    → cells_of n (xs ++ y ∷ []) + room (live y.key n xs) ≡ cells_of n xs + (cost (change_of y) + room y.row)
cells_push n xs y own oy low = omega (arith, rows_push (λ row. cost_delete row.key) n xs y own oy low, sum_by_push (λ (x : Recorded). cost (change_of x)) xs y)

-- ---- pending changes

-- the records with some changes pending
abbrev pub pend : Store → List Change → List Recorded
pend s cs = record_revision (s.current + 1) s.changes cs

pub own_pend : (s : Store) (cs : List Change) → IsStore s → AllByRecursion OwnRow (pend s cs)
own_pend s cs is = own_fold s.changes (map (entry_at (s.current + 1)) cs) is.own

-- the next revision shows what the current one does
live_next : (s : Store) → IsStore s → (key : List ℕ) → live key s.current s.changes ≡ live key (s.current + 1) s.changes
live_next s is key = live_later key s.current (s.current + 1) s.changes is.up (omega arith)

pub row_pending : (s : Store) (cs : List Change) → IsStore s → (key : List ℕ) → (reads_of (after s cs)).row key ≡ live key (s.current + 1) (pend s cs)
row_pending s [] is key = live_next s is key
row_pending s (c ∷ cs) is key = refl

pub rows_pending : (s : Store) (cs : List Change) → IsStore s → (interval : List ℕ → Bool) → rows interval (after s cs).current (after s cs).changes ≡ rows interval (s.current + 1) (pend s cs)
rows_pending s [] is interval = same_rows s.changes s.changes is.own is.own s.current (s.current + 1) (live_next s is) interval
rows_pending s (c ∷ cs) is interval = refl

cells_pending : (s : Store) (cs : List Change) → IsStore s → counted_cells (after s cs) ≡ cells_of (s.current + 1) (pend s cs)
cells_pending s [] is = ap (λ (rs : List KeyValue). record_cells s.changes + sum_by (λ (row : KeyValue). cost_delete row.key) rs) (rows_pending s [] is every_key)
cells_pending s (c ∷ cs) is = refl

pub pend_push : (s : Store) (cs : List Change) (c : Change) → pend s (cs ++ c ∷ []) ≡ pend s cs ++ recorded (pend s cs) (entry_at (s.current + 1) c) ∷ []
pend_push s cs c =
    ap (fold record_change s.changes) (map-append (entry_at (s.current + 1)) cs (c ∷ []))
    ∙ fold-append record_change s.changes (map (entry_at (s.current + 1)) cs) (entry_at (s.current + 1) c ∷ [])

-- a change costs what the row that it makes costs
pub same_cost : (r : ℕ) (row : Option KeyValue) (c : Change) → cost (change_by (key_of c) (next_row r row c)) ≡ cost c
same_cost r row (Set key value lease) = refl
same_cost r row (Del key) = refl

-- what a change takes, and what it gives back
change_cells : (s : Store) (cs : List Change) (c : Change) → IsStore s
    → counted_cells (after s (cs ++ c ∷ [])) + room ((reads_of (after s cs)).row (key_of c)) ≡ counted_cells (after s cs) + (cost c + room (next_row (s.current + 1) (live (key_of c) (s.current + 1) (pend s cs)) c))
change_cells s cs c is =
    let n = s.current + 1 in
    let y = recorded (pend s cs) (entry_at n c) in
    let own = own_pend s cs is in
    let one = cells_push n (pend s cs) y own (own_recorded n (live (key_of c) n (pend s cs)) c) (omega arith) in
    omega (arith, one, cells_pending s (cs ++ c ∷ []) is, ap (cells_of n) (pend_push s cs c), cells_pending s cs is, ap room (row_pending s cs is (key_of c)), same_cost n (live (key_of c) n (pend s cs)) c)

pub put_takes_cells : (s : Store) (cs : List Change) (key value : List ℕ) (lease : ℤ) → IsStore s
    → counted_cells (after s (cs ++ Set key value lease ∷ [])) + room ((reads_of (after s cs)).row key) ≡ counted_cells (after s cs) + (cost_put key value + cost_delete key)
put_takes_cells s cs key value lease is = change_cells s cs (Set key value lease) is

pub delete_takes_its_room : (s : Store) (cs : List Change) (key : List ℕ) → IsStore s
    → counted_cells (after s (cs ++ Del key ∷ [])) + room ((reads_of (after s cs)).row key) ≡ counted_cells (after s cs) + cost_delete key
delete_takes_its_room s cs key is = omega (arith, change_cells s cs (Del key) is)

-- ---- deletes of live keys

-- each of some ascending rows is live with some changes pending
abbrev AllLive : Store → List Change → List KeyValue → Type 0
AllLive s cs rs = AllByRecursion (λ row. live row.key (s.current + 1) (pend s cs) ≡ Some row) rs

still_live : (s : Store) (cs : List Change) (r : KeyValue) (rs : List KeyValue) → AllByRecursion (λ z. by_key r z ≡ Less) rs → AllLive s cs rs → AllLive s (cs ++ Del r.key ∷ []) rs
still_live s cs r [] above all = tt
still_live s cs r (z ∷ zs) above all =
    let n = s.current + 1 in
    let y = recorded (pend s cs) (entry_at n (Del r.key)) in
    let apart : bytes_eq r.key z.key ≡ false = earlier r.key z.key above.0 in (
      ap (live z.key n) (pend_push s cs (Del r.key)) ∙ live_push_up_to z.key n (pend s cs) y (omega arith) ∙ ap (λ (b : Bool). if b then y.row else live z.key n (pend s cs)) apart ∙ all.0,
      still_live s cs r zs above.1 all.1,
    )
  where
    earlier : (a b : List ℕ) → key_cmp a b ≡ Less → bytes_eq a b ≡ false
    earlier a b e = bytes_eq-key_cmp a b ∙ ap is_eq e

deletes_take_none : (s : Store) (cs : List Change) (rs : List KeyValue) → IsStore s → IsStrictlySortedBy by_key rs → AllLive s cs rs → counted_cells (after s (cs ++ deletes_of rs)) ≡ counted_cells (after s cs)
unfolding IsStrictlySortedBy
deletes_take_none s cs [] is h all = ap (λ ds. counted_cells (after s ds)) (append-nil cs)
deletes_take_none s cs (r ∷ rs) is h all =
    ap (λ ds. counted_cells (after s ds)) (sym (append_assoc cs (Del r.key ∷ []) (deletes_of rs)))
    ∙ deletes_take_none s (cs ++ Del r.key ∷ []) rs is h.1 (still_live s cs r rs h.0 all.1)
    ∙ one
  where
    one : counted_cells (after s (cs ++ Del r.key ∷ [])) ≡ counted_cells (after s cs)
    one = omega (arith, delete_takes_its_room s cs r.key is, ap room (row_pending s cs is r.key ∙ all.0))

-- the rows of an interval are live
all_live : (s : Store) (cs : List Change) → IsStore s → (ks : List (List ℕ)) → AllLive s cs (filter_map (λ k. live k (s.current + 1) (pend s cs)) ks)
all_live s cs is [] = tt
all_live s cs is (k ∷ ks) =
    let n = s.current + 1 in
    elim (live k n (pend s cs)) as (λ o. live k n (pend s cs) ≡ o → AllLive s cs (cons_option o (filter_map (λ k. live k n (pend s cs)) ks))) [
      | None ↦ λ e. all_live s cs is ks
      | Some row ↦ λ e. (ap (λ a. live a n (pend s cs)) (live-key (pend s cs) (own_pend s cs is) k n row e) ∙ e, all_live s cs is ks)
    ] refl

pub delete_takes_none : (s : Store) (cs : List Change) (d : DeleteReq) → IsStore s → counted_cells (after s (and_changes (kept_store.look s) cs (DeleteOp d))) ≡ counted_cells (after s cs)
delete_takes_none s cs d is =
    let inside : List ℕ → Bool = is_in d.key d.range_end in
    let n = s.current + 1 in
    let rs = rows inside n (pend s cs) in
    ap (λ (qs : List KeyValue). counted_cells (after s (cs ++ deletes_of qs))) (rows_pending s cs is inside)
    ∙ deletes_take_none s cs rs is (rows_rise (pend s cs) (own_pend s cs is) n inside) (all_live s cs is (filter inside (keys (pend s cs))))

all_passed : (s : Store) (cs : List Change) (p : KeyValue → Bool) (rs : List KeyValue) → AllLive s cs rs → AllLive s cs (filter p rs)
all_passed s cs p [] all = tt
all_passed s cs p (r ∷ rs) all = elim (p r) as (λ b. AllLive s cs (cond b (r ∷ filter p rs) (filter p rs))) [ true ↦ (all.0, all_passed s cs p rs all.1) | false ↦ all_passed s cs p rs all.1 ]

pub finish_takes_none : (s : Store) (id : ℤ) → IsStore s → counted_cells (after s (map Del (attached (reads_of s) id))) ≡ counted_cells s
finish_takes_none s id is =
    let every : List ℕ → Bool = is_in [] (0 ∷ []) in
    let held : KeyValue → Bool = λ row. int_eq row.lease id in
    let n = s.current + 1 in
    let rs = rows every n s.changes in
    ap (λ (qs : List KeyValue). counted_cells (after s (map Del (map (λ (row : KeyValue). row.key) (filter held qs))))) (rows_pending s [] is every)
    ∙ ap (λ cs. counted_cells (after s cs)) (map-map Del (λ (row : KeyValue). row.key) (filter held rs))
    ∙ deletes_take_none s [] (filter held rs) is (IsStrictlySortedBy-filter by_key held rs (rows_rise s.changes is.own n every)) (all_passed s [] held rs (all_live s [] is (filter every (keys s.changes))))

pub op_takes_cells : (s : Store) (cs : List Change) (op : Op) → IsStore s
    → counted_cells (after s (and_changes (kept_store.look s) cs op)) + given_by (kept_store.look s cs) op ≡ counted_cells (after s cs) + taken_by (kept_store.look s cs) op
op_takes_cells s cs (RangeOp q) is = omega (arith, ap (λ ds. counted_cells (after s ds)) (append-nil cs))
op_takes_cells s cs (PutOp p) is =
    let now = (reads_of (after s cs)).row p.key in
    put_takes_cells s cs p.key (if p.ignore_value then kept_value now else p.value) (if p.ignore_lease then kept_lease now else p.lease) is
op_takes_cells s cs (DeleteOp d) is = omega (arith, delete_takes_none s cs d is)
op_takes_cells s cs Nested is = omega (arith, ap (λ ds. counted_cells (after s ds)) (append-nil cs))

no_put : (s : Store) (cs : List Change) (ops : List Op) → IsStore s → adds_any ops ≡ false → counted_cells (after s (pending_after (kept_store.look s) cs ops)) ≡ counted_cells (after s cs)
no_put s cs [] is h = refl
no_put s cs (RangeOp q ∷ ops) is h = no_put s (cs ++ []) ops is h ∙ ap (λ ds. counted_cells (after s ds)) (append-nil cs)
no_put s cs (PutOp p ∷ ops) is h = absurd (true≢false h)
no_put s cs (DeleteOp d ∷ ops) is h = no_put s (and_changes (kept_store.look s) cs (DeleteOp d)) ops is h ∙ delete_takes_none s cs d is
no_put s cs (Nested ∷ ops) is h = no_put s (cs ++ []) ops is h ∙ ap (λ ds. counted_cells (after s ds)) (append-nil cs)

pub no_put_takes_none : (s : Store) (ops : List Op) → IsStore s → adds_any ops ≡ false → counted_cells (after s (pending_after (kept_store.look s) [] ops)) ≡ counted_cells s
no_put_takes_none s ops is h = no_put s [] ops is h

-- ---- how many keys are live

pub count_ones : {X : Type 0} (xs : List X) → sum_by (λ x. 1) xs ≡ length xs
count_ones [] = refl
count_ones (x ∷ xs) = omega (arith, sum_by-cons (λ y. 1) x xs, count_ones xs)

deletes_take_keys : (s : Store) (cs : List Change) (rs : List KeyValue) → IsStore s → IsStrictlySortedBy by_key rs → AllLive s cs rs
    → length (rows every_key (s.current + 1) (pend s (cs ++ deletes_of rs))) + length rs ≡ length (rows every_key (s.current + 1) (pend s cs))
unfolding IsStrictlySortedBy
deletes_take_keys s cs [] is h all = omega (arith, ap (λ ds. length (rows every_key (s.current + 1) (pend s ds))) (append-nil cs))
deletes_take_keys s cs (r ∷ rs) is h all =
    let n = s.current + 1 in
    let y = recorded (pend s cs) (entry_at n (Del r.key)) in
    let rest = deletes_take_keys s (cs ++ Del r.key ∷ []) rs is h.1 (still_live s cs r rs h.0 all.1) in
    let one = rows_push (λ row. 1) n (pend s cs) y (own_pend s cs is) tt (omega arith) in
    let there : if_row (λ row. 1) (live r.key n (pend s cs)) ≡ 1 = ap (if_row (λ row. 1)) all.0 in
    omega (
      arith,
      rest,
      one,
      there,
      count_ones (rows every_key n (pend s cs)),
      count_ones (rows every_key n (pend s cs ++ y ∷ [])),
      ap (λ zs. length (rows every_key n zs)) (pend_push s cs (Del r.key)),
      ap (λ zs. length (rows every_key n (pend s zs))) (append_assoc cs (Del r.key ∷ []) (deletes_of rs)),
    )

pub finish_takes_keys : (s : Store) (id : ℤ) → IsStore s
    → length (rows every_key (after s (map Del (attached (reads_of s) id))).current (after s (map Del (attached (reads_of s) id))).changes) + length (attached (reads_of s) id)
    ≡ length (rows every_key s.current s.changes)
finish_takes_keys s id is =
    let every : List ℕ → Bool = is_in [] (0 ∷ []) in
    let held : KeyValue → Bool = λ row. int_eq row.lease id in
    let n = s.current + 1 in
    let rs = filter held (rows every n s.changes) in
    let ids = attached (reads_of s) id in
    let same : map Del ids ≡ deletes_of rs =
    ap (λ (qs : List KeyValue). map Del (map (λ (row : KeyValue). row.key) (filter held qs))) (rows_pending s [] is every) ∙ map-map Del (λ (row : KeyValue). row.key) (filter held (rows every n s.changes)) in
    omega (
      arith,
      deletes_take_keys s [] rs is (IsStrictlySortedBy-filter by_key held (rows every n s.changes) (rows_rise s.changes is.own n every)) (all_passed s [] held (rows every n s.changes) (all_live s [] is (filter every (keys s.changes)))),
      ap (λ cs. length (rows every_key n (pend s cs))) same,
      ap length (rows_pending s (map Del ids) is every_key),
      ap length (rows_pending s [] is every_key),
      ap length same,
      length-map ids Del,
      length-map rs (λ (row : KeyValue). Del row.key),
    )

-- ---- compaction

-- records are none the more
pub fewer_records : (c : ℕ) (xs : List Recorded) → record_cells (kept c xs) ≤ record_cells xs
fewer_records c [] = omega arith
fewer_records c (x ∷ xs) =
    let f : Recorded → ℕ = λ y. cost (change_of y) in
    elim (cases_Bool (keeps c x xs)) [
      | inl keep ↦ omega (arith, fewer_records c xs, sum_by-cons f x xs, ap record_cells (kept_true c x xs keep), sum_by-cons f x (kept c xs))
      | inr lost ↦ omega (arith, fewer_records c xs, sum_by-cons f x xs, ap record_cells (kept_false c x xs lost))
    ]

pub compaction_takes_none : (s : Store) (r : ℕ) → IsStore s → s.compacted ≤ r → r ≤ s.current → counted_cells (compact s r) ≤ counted_cells s
compaction_takes_none s r is from to = omega (arith, fewer_records r s.changes, ap (sum_by (λ (row : KeyValue). cost_delete row.key)) (rows_kept every_key r s.current s.changes to is.rises is.own))

pub records_are_filled_cells : (t : State Store) → record_cells t.store.changes + length t.leases ≡ used kept_store t - reserved_cells t.store.current t.store.changes
records_are_filled_cells t = omega arith

pub a_cell_each : (rs : List KeyValue) → length rs ≤ sum_by (λ row. cost_delete row.key) rs
a_cell_each [] = omega arith
a_cell_each (r ∷ rs) = omega (arith, sum_by-cons (λ (row : KeyValue). cost_delete row.key) r rs, a_cell_each rs)

pub keys_are_reserved : (s : Store) → length (rows every_key s.current s.changes) ≤ reserved_cells s.current s.changes
keys_are_reserved s = a_cell_each (rows every_key s.current s.changes)

-- ---- stores

pub all_up : (n : ℕ) (xs : List Recorded) (cs : List Change) → AllByRecursion (λ x. x.revision ≤ n) xs → AllByRecursion (λ x. x.revision ≤ n) (record_revision n xs cs)
all_up n xs [] up = up
all_up n xs (c ∷ cs) up = let x = recorded xs (entry_at n c) in all_up n (xs ++ x ∷ []) cs (all_push (λ (y : Recorded). y.revision ≤ n) xs x up (omega arith))

rises_revision : (n : ℕ) (xs : List Recorded) (cs : List Change) → Rises xs → AllByRecursion (λ x. x.revision ≤ n) xs → Rises (record_revision n xs cs)
rises_revision n xs [] rises up = rises
rises_revision n xs (c ∷ cs) rises up =
    let x = recorded xs (entry_at n c) in
    rises_revision n (xs ++ x ∷ []) cs (rises_push xs x rises up) (all_push (λ (y : Recorded). y.revision ≤ n) xs x up (omega arith))

pub after_is_store : (s : Store) (cs : List Change) → IsStore s → IsStore (after s cs)
after_is_store s [] is = is
after_is_store s (c ∷ cs) is =
    let n = s.current + 1 in
    let up = all_weaker (λ (x : Recorded). x.revision ≤ s.current) (λ (x : Recorded). x.revision ≤ n) (λ x h. omega (arith, h)) s.changes is.up in
    record {
      rises = rises_revision n s.changes (c ∷ cs) is.rises up;
      own = own_pend s (c ∷ cs) is;
      up = all_up n s.changes (c ∷ cs) up;
      compacted = omega (arith, is.compacted);
    }

pub compact_is_store : (s : Store) (r : ℕ) → r ≤ s.current → IsStore s → IsStore (compact s r)
compact_is_store s r le is = record {
  rises = kept_rises r s.changes is.rises;
  own = all_kept OwnRow r s.changes is.own;
  up = all_kept (λ x. x.revision ≤ s.current) r s.changes is.up;
  compacted = le;
}

pub keep_is_store : (H : History) → IsHistory H → IsStore (keep H)
keep_is_store H is = record {
  rises = kept_rises H.compacted (recorded_changes H) (changes_rise H);
  own = all_kept OwnRow H.compacted (recorded_changes H) (changes_own_their_rows H);
  up = all_kept (λ x. x.revision ≤ current H) H.compacted (recorded_changes H) (changes_up_to_current H);
  compacted = is.compacted;
}
