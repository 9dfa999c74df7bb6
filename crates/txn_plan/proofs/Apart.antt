-- What is pending stays apart from the operations that are still to come, where no key is in two of them.
use Rattle.std.proofs.Common.{◌≡◌, ℕ, List, [], ◌∷◌, ◌++◌, refl, ap, ◌∙◌, sym}
use Rattle.std.specs.Prelude.{ℤ, Bool, false, ◌&&◌, ◌||◌}
use Rattle.std.specs.List.{list_any}
use Rattle.std.specs.Str.{bytes_eq}
use Rattle.std.specs.Cmp.Lexicographic.{bytes_decides}
use Rattle.std.proofs.lemmas.Bool.{or_parts, or_from, true≢false, false_from_ne_true}
use Rattle.std.proofs.lemmas.List.Folds.{list_any-append}
use Rattle.std.proofs.lemmas.Map.Views.{any-filter_same}
use Rattle.etcd_types.specs.declared.key_value.KeyValue.{KeyValue}
use Rattle.etcd_types.specs.declared.kv.PutReq.{PutReq}
use Rattle.etcd_types.specs.declared.kv.DeleteReq.{DeleteReq}
use Rattle.etcd_types.specs.declared.txn.Op.{Op}
use Rattle.etcd_types.specs.declared.txn.Op.TheVariants.{Range as RangeOp, Put as PutOp, Delete as DeleteOp, Nested}
use Rattle.etcd_model.specs.declared.state.Change.{Change}
use Rattle.etcd_model.specs.declared.state.Change.TheVariants.{Put as Set}
use Rattle.etcd_model.specs.History.{key_of, is_put}
use Rattle.etcd_model.specs.Interval.{is_in, every_key}
use Rattle.etcd_model.specs.Changes.{rows}
use Rattle.etcd_model.specs.Store.{Store, IsStore, after}
use Rattle.etcd_model.specs.Fields.{puts, deletes, has_twice, has_duplicate}
use Rattle.etcd_model.specs.Operations.{changes}
use Rattle.etcd_model.proofs.OnceLaws.{deletes_of}
use Rattle.model_laws.proofs.RowLaws.{has_key, rows_inside}
use Rattle.model_laws.proofs.SpaceLaws.{after_is_store}
use Rattle.revision_store.specs.Stored.{StoreState, look}
use Rattle.txn_plan.specs.Planned.{IsApart}
use Rattle.txn_plan.specs.Folding.{AllApart}

-- ---- more changes

none_more : {X : Type 0} (p : X → Bool) (xs ys : List X) → list_any p xs ≡ false → list_any p ys ≡ false → list_any p (xs ++ ys) ≡ false
none_more p xs ys h k = list_any-append p xs ys ∙ or_from (list_any p xs) (list_any p ys) h k

apart_more : (op : Op) (pending cs : List Change) → IsApart op pending → IsApart op cs → IsApart op (pending ++ cs)
apart_more (RangeOp q) pending cs h k = tt
apart_more (PutOp p) pending cs h k = none_more (λ (c : Change). bytes_eq (key_of c) p.key) pending cs h k
apart_more (DeleteOp d) pending cs h k = none_more (λ (c : Change). is_put c && is_in d.key d.range_end (key_of c)) pending cs h k
apart_more Nested pending cs h k = tt

all_apart_more : (pending cs : List Change) (ops : List Op) → AllApart pending ops → AllApart cs ops → AllApart (pending ++ cs) ops
all_apart_more pending cs [] h k = tt
all_apart_more pending cs (op ∷ ops) h k = (apart_more op pending cs h.0 k.0, all_apart_more pending cs ops h.1 k.1)

none_apart : (op : Op) → IsApart op []
none_apart (RangeOp q) = tt
none_apart (PutOp p) = refl
none_apart (DeleteOp d) = refl
none_apart Nested = tt

-- nothing pending keeps no operation from being done
all_apart_of_none : (ops : List Op) → AllApart [] ops
all_apart_of_none [] = tt
all_apart_of_none (op ∷ ops) = (none_apart op, all_apart_of_none ops)

-- ---- the changes of one operation

other_way : (a b : List ℕ) → bytes_eq a b ≡ false → bytes_eq b a ≡ false
other_way a b h = false_from_ne_true (bytes_eq b a) (λ t. true≢false (sym ((bytes_decides a b).1 (sym ((bytes_decides b a).0 t))) ∙ h))

-- a put is apart from operations that don't put its key, nor delete it
put_apart : (key value : List ℕ) (lease : ℤ) (ops : List Op) → list_any (λ q. bytes_eq q.key key) (puts ops) ≡ false → list_any (λ d. is_in d.key d.range_end key) (deletes ops) ≡ false → AllApart (Set key value lease ∷ []) ops
put_apart key value lease [] h k = tt
put_apart key value lease (RangeOp q ∷ ops) h k = (tt, put_apart key value lease ops h k)
put_apart key value lease (PutOp q ∷ ops) h k =
    let parts = or_parts (bytes_eq q.key key) (list_any (λ (o : PutReq). bytes_eq o.key key) (puts ops)) h in
    (or_from (bytes_eq key q.key) false (other_way q.key key parts.0) refl, put_apart key value lease ops parts.1 k)
put_apart key value lease (DeleteOp d ∷ ops) h k =
    let parts = or_parts (is_in d.key d.range_end key) (list_any (λ (o : DeleteReq). is_in o.key o.range_end key) (deletes ops)) k in
    (or_from (is_in d.key d.range_end key) false parts.0 refl, put_apart key value lease ops h parts.1)
put_apart key value lease (Nested ∷ ops) h k = (tt, put_apart key value lease ops h k)

deletes_of_key : (key : List ℕ) (rs : List KeyValue) → list_any (λ c. bytes_eq (key_of c) key) (deletes_of rs) ≡ list_any (has_key key) rs
deletes_of_key key [] = refl
deletes_of_key key (r ∷ rs) = ap (λ b. bytes_eq r.key key || b) (deletes_of_key key rs)

deletes_put_none : (d : DeleteReq) (rs : List KeyValue) → list_any (λ c. is_put c && is_in d.key d.range_end (key_of c)) (deletes_of rs) ≡ false
deletes_put_none d [] = refl
deletes_put_none d (r ∷ rs) = deletes_put_none d rs

-- deletes of rows of an interval are apart from operations that put none of its keys
delete_apart : (inside : List ℕ → Bool) (rs : List KeyValue) → ((key : List ℕ) → inside key ≡ false → list_any (has_key key) rs ≡ false) → (ops : List Op) → list_any (λ p. inside p.key) (puts ops) ≡ false → AllApart (deletes_of rs) ops
delete_apart inside rs within [] h = tt
delete_apart inside rs within (RangeOp q ∷ ops) h = (tt, delete_apart inside rs within ops h)
delete_apart inside rs within (PutOp p ∷ ops) h =
    let parts = or_parts (inside p.key) (list_any (λ (o : PutReq). inside o.key) (puts ops)) h in
    (deletes_of_key p.key rs ∙ within p.key parts.0, delete_apart inside rs within ops parts.1)
delete_apart inside rs within (DeleteOp d ∷ ops) h = (deletes_put_none d rs, delete_apart inside rs within ops h)
delete_apart inside rs within (Nested ∷ ops) h = (tt, delete_apart inside rs within ops h)

-- the rows of an interval are of its keys
none_outside : (s : Store) → IsStore s → (inside : List ℕ → Bool) (key : List ℕ) → inside key ≡ false → list_any (has_key key) (rows inside s.current s.changes) ≡ false
none_outside s is inside key h =
    ap (list_any (has_key key)) (rows_inside s.changes is.own s.current inside)
    ∙ any-filter_same (has_key key) (λ (row : KeyValue). inside row.key) false (λ row t. ap inside ((bytes_decides row.key key).0 t) ∙ h) (rows every_key s.current s.changes)

-- ---- where no key is in two operations

either_none : {X : Type 0} (p q : X → Bool) (xs : List X) → list_any (λ x. p x || q x) xs ≡ false → (list_any p xs ≡ false) × (list_any q xs ≡ false)
either_none p q [] h = (refl, refl)
either_none p q (x ∷ xs) h =
    let parts = or_parts (p x || q x) (list_any (λ y. p y || q y) xs) h in
    let here = or_parts (p x) (q x) parts.0 in
    let rest = either_none p q xs parts.1 in
    (or_from (p x) (list_any p xs) here.0 rest.0, or_from (q x) (list_any q xs) here.1 rest.1)

pub still_distinct : (op : Op) (ops : List Op) → has_duplicate (op ∷ ops) ≡ false → has_duplicate ops ≡ false
still_distinct (RangeOp q) ops h = h
still_distinct (PutOp p) ops h =
    let covers : List ℕ → Bool = λ k. list_any (λ (d : DeleteReq). is_in d.key d.range_end k) (deletes ops) in
    let parts = or_parts (has_twice (p ∷ puts ops)) (list_any (λ (o : PutReq). covers o.key) (p ∷ puts ops)) h in
    or_from (has_twice (puts ops)) (list_any (λ (o : PutReq). covers o.key) (puts ops))
    (or_parts (list_any (λ (q : PutReq). bytes_eq q.key p.key) (puts ops)) (has_twice (puts ops)) parts.0).1
    (or_parts (covers p.key) (list_any (λ (o : PutReq). covers o.key) (puts ops)) parts.1).1
still_distinct (DeleteOp d) ops h =
    let covers : List ℕ → Bool = λ k. list_any (λ (d : DeleteReq). is_in d.key d.range_end k) (deletes ops) in
    let parts = or_parts (has_twice (puts ops)) (list_any (λ (o : PutReq). is_in d.key d.range_end o.key || covers o.key) (puts ops)) h in
    or_from (has_twice (puts ops)) (list_any (λ (o : PutReq). covers o.key) (puts ops)) parts.0
    (either_none (λ (o : PutReq). is_in d.key d.range_end o.key) (λ (o : PutReq). covers o.key) (puts ops) parts.1).1
still_distinct Nested ops h = h

-- an operation's changes are apart from those that follow
changes_apart : (store : StoreState) → IsStore store.kept → (pending : List Change) (op : Op) (ops : List Op) → has_duplicate (op ∷ ops) ≡ false → AllApart (changes (look store pending) op) ops
changes_apart store is pending (RangeOp q) ops h = all_apart_of_none ops
changes_apart store is pending (PutOp p) ops h =
    let covers : List ℕ → Bool = λ k. list_any (λ (d : DeleteReq). is_in d.key d.range_end k) (deletes ops) in
    let now = (look store pending).row p.key in
    let parts = or_parts (has_twice (p ∷ puts ops)) (list_any (λ (o : PutReq). covers o.key) (p ∷ puts ops)) h in
    put_apart p.key _ _ ops
    (or_parts (list_any (λ (q : PutReq). bytes_eq q.key p.key) (puts ops)) (has_twice (puts ops)) parts.0).0
    (or_parts (covers p.key) (list_any (λ (o : PutReq). covers o.key) (puts ops)) parts.1).0
changes_apart store is pending (DeleteOp d) ops h =
    let covers : List ℕ → Bool = λ k. list_any (λ (d : DeleteReq). is_in d.key d.range_end k) (deletes ops) in
    let inside : List ℕ → Bool = is_in d.key d.range_end in
    let T = after store.kept pending in
    let parts = or_parts (has_twice (puts ops)) (list_any (λ (o : PutReq). inside o.key || covers o.key) (puts ops)) h in
    delete_apart inside (rows inside T.current T.changes) (none_outside T (after_is_store store.kept pending is) inside) ops
    (either_none (λ (o : PutReq). inside o.key) (λ (o : PutReq). covers o.key) (puts ops) parts.1).0
changes_apart store is pending Nested ops h = all_apart_of_none ops

-- so once it is done, what is pending is apart from them still
pub still_apart : (store : StoreState) → IsStore store.kept → (pending : List Change) (op : Op) (ops : List Op) → has_duplicate (op ∷ ops) ≡ false → AllApart pending ops → AllApart (pending ++ changes (look store pending) op) ops
still_apart store is pending op ops h k = all_apart_more pending (changes (look store pending) op) ops k (changes_apart store is pending op ops h)
