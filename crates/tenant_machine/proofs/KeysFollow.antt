-- How attachments follow the changes of a revision.
use Rattle.std.proofs.Common.{◌≡◌, ℕ, ◌≤◌, List, [], ◌∷◌, arith, length, refl, sym, ap, ◌∙◌, subst, of_z, w64}
use Rattle.std.specs.Prelude.{ℤ, pos, ◌-◌, Bool, true, false, not, cond, filter, map, Option, Some, None, IsSome, IfSome, option_and_then}
use Rattle.std.specs.List.{AllByRecursion}
use Rattle.std.specs.List.Sorted.{IsStrictlySortedBy}
use Rattle.std.specs.Ordering.{int_eq, is_eq}
use Rattle.std.specs.declared.cmp.Ordering.{Ordering}
use Rattle.std.specs.declared.cmp.Ordering.TheVariants.{Less, Equal, Greater}
use Rattle.std.proofs.lemmas.Bool.{true≢false}
use Rattle.std.proofs.lemmas.Bool.Decides.{Decides-int_eq}
use Rattle.std.proofs.lemmas.List.Kept.{IsStrictlySortedBy-filter}
use Rattle.etcd_types.specs.declared.key_value.KeyValue.{KeyValue}
use Rattle.etcd_model.specs.Changes.{Recorded, change_of, live}
use Rattle.etcd_model.specs.History.{lease_of}
use Rattle.etcd_model.specs.Order.{beside, by_key, key_cmp, put_in}
use Rattle.key_index.specs.Links.{Cells, Linked, change_at}
use Rattle.key_index.specs.Sought.{entry_key}
use Rattle.lease_book.specs.declared.attachments.Attachment.{Attachment}
use Rattle.lease_book.specs.Attached.{AreAttached, attachment_cmp, HasLease, HoldRows, rows_without, with_attachment, without_attachment}
use Rattle.lease_book.proofs.HeldRows.{attached, detached, same_rows, unattached}
use Rattle.lease_book.proofs.Ordered.{put_over}
use Rattle.model_laws.proofs.AttachedLaws.{all_passing}
use Rattle.model_laws.proofs.RowLaws.{by_key_total, live-key}
use Rattle.revision_store.specs.Stored.{StoreState, cells as cells_in, row_at}
use Rattle.revision_store.specs.Plans.{key_at}
use Rattle.revision_store.proofs.PendingStores.{own_cells, own_change}
use Rattle.tenant_machine.specs.Keyed.{AreKeysOf, AreShown, Follows, IsOff, TakesOff, with_change}

-- ---- rows without one of a key

-- none of them is of the key
none_left : (key : List ℕ) (id : ℤ) (rows : List KeyValue) → HasLease key id (rows_without rows key)
none_left key id [] = tt
none_left key id (x ∷ rows) = step (is_eq (key_cmp x.key key)) refl (none_left key id rows)
  where
    step : (b : Bool) → is_eq (key_cmp x.key key) ≡ b → HasLease key id (rows_without rows key) → HasLease key id (cond (not b) (x ∷ rows_without rows key) (rows_without rows key))
    step true e rest = rest
    step false e rest = (λ is. absurd (true≢false (sym is ∙ e)), rest)

twice_without : (key : List ℕ) (rows : List KeyValue) → rows_without (rows_without rows key) key ≡ rows_without rows key
twice_without key [] = refl
twice_without key (x ∷ rows) = step (is_eq (key_cmp x.key key)) refl (twice_without key rows)
  where
    step : (b : Bool) → is_eq (key_cmp x.key key) ≡ b → rows_without (rows_without rows key) key ≡ rows_without rows key → rows_without (cond (not b) (x ∷ rows_without rows key) (rows_without rows key)) key ≡ cond (not b) (x ∷ rows_without rows key) (rows_without rows key)
    step true e rest = rest
    step false e rest = ap (λ b. cond (not b) (x ∷ rows_without (rows_without rows key) key) (rows_without (rows_without rows key) key)) e ∙ ap (λ ys. x ∷ ys) rest

without_ascend : (key : List ℕ) (rows : List KeyValue) → IsStrictlySortedBy by_key rows → IsStrictlySortedBy by_key (rows_without rows key)
without_ascend key rows up = IsStrictlySortedBy-filter by_key (λ (x : KeyValue). not (is_eq (key_cmp x.key key))) rows up

-- ---- the lease of the row that a key showed

none_shown : (key : List ℕ) (id : ℤ) (rows : List KeyValue) → AreShown key None rows → HasLease key id rows
none_shown key id [] all = tt
none_shown key id (x ∷ rows) all = (λ is. no x (all.0 is), none_shown key id rows all.1)
  where
    no : (y : KeyValue) → Some y ≡ None → x.lease ≡ id
    no y e = let bad : ⊥ = cc in absurd bad

one_shown : (key : List ℕ) (row : KeyValue) (rows : List KeyValue) → AreShown key (Some row) rows → HasLease key row.lease rows
one_shown key row [] all = tt
one_shown key row (x ∷ rows) all = (λ is. same x (all.0 is), one_shown key row rows all.1)
  where
    same : (y : KeyValue) → Some y ≡ Some row → y.lease ≡ row.lease
    same y e = let is : y ≡ row = cc in ap (λ (r : KeyValue). r.lease) is

-- ---- records and their rows

-- the lease of a record of a row
lease_shown : (cells : Cells) (c : ℕ) (row : KeyValue) (lease : ℤ) → row_at cells c ≡ Some row → IfSome (cells c) (λ e. lease ≡ lease_of (change_of e.change)) → lease ≡ row.lease
lease_shown cells c row lease at says = by (cells c) at says
  where
    put : (x : Recorded) → x.row ≡ Some row → lease ≡ lease_of (change_of x) → lease ≡ row.lease
    put x is same = go x.row is same
      where
        go : (o : Option KeyValue) → o ≡ Some row → lease ≡ lease_of (change_of (record x { row = o })) → lease ≡ row.lease
        go None e h = let bad : ⊥ = cc in absurd bad
        go (Some r) e h = let one : r ≡ row = cc in h ∙ ap (λ (r : KeyValue). r.lease) one

    by : (o : Option Linked) → (λ (q : Option Linked). row_at (λ n. q) c) o ≡ Some row → IfSome o (λ e. lease ≡ lease_of (change_of e.change)) → lease ≡ row.lease
    by None e h = let bad : ⊥ = cc in absurd bad
    by (Some l) e h = put l.change e h

-- ---- a key is taken off its lease

module _ (cells : Cells) (own : (c : ℕ) (x : KeyValue) → row_at cells c ≡ Some x → entry_key (cells c) ≡ x.key) (key : List ℕ) (lease : ℤ) (list : List Attachment) (rows : List KeyValue)
    (up : IsStrictlySortedBy by_key rows) (keys : AreKeysOf cells list rows) where
  -- it had none
  pub off_none : AreShown key None rows → IsOff cells list rows key lease
  off_none shown = record { left = rows; keys = keys; ascend = up; has = none_shown key lease rows shown; others = refl }

  -- it keeps the one that it had
  pub off_kept : (row : KeyValue) → AreShown key (Some row) rows → row.lease ≡ lease → IsOff cells list rows key lease
  off_kept row shown is = record { left = rows; keys = keys; ascend = up; has = subst (λ id. HasLease key id rows) is (one_shown key row rows shown); others = refl }

  -- its row had no lease
  pub off_unleased : (row : KeyValue) → AreShown key (Some row) rows → row.lease ≡ pos 0 → IsOff cells list rows key lease
  off_unleased row shown is = record {
    left = rows_without rows key;
    keys = record {
      attached = keys.attached;
      named = keys.named;
      held = λ id used. keys.held id used ∙ ap (map Some) (sym (same_rows key (pos 0) id rows used (subst (λ z. HasLease key z rows) is (one_shown key row rows shown))));
    };
    ascend = without_ascend key rows up;
    has = none_left key lease rows;
    others = twice_without key rows;
  }

  -- it is detached
  pub off_detached : (row : KeyValue) (c : ℕ) → AreShown key (Some row) rows → row_at cells c ≡ Some row → row.key ≡ key → AreAttached cells (without_attachment cells list (record { id = row.lease; head = c }))
      → IsOff cells (without_attachment cells list (record { id = row.lease; head = c })) rows key lease
  off_detached row c shown at is still =
      let a : Attachment = record { id = row.lease; head = c } in
      let head : entry_key (cells c) ≡ key = own c row at ∙ is in
      record {
        left = rows_without rows key;
        keys = record {
          attached = still;
          named = all_passing (λ b. int_eq b.id (pos 0) ≡ false) _ list keys.named;
          held = subst (λ k. HoldRows (row_at cells) (without_attachment cells list a) (rows_without rows k)) head
              (detached cells (row_at cells) own list rows a keys.held (subst (λ k. HasLease k row.lease rows) (sym head) (one_shown key row rows shown)));
        };
        ascend = without_ascend key rows up;
        has = none_left key lease rows;
        others = twice_without key rows;
      }

-- ---- it is attached to the lease that it is put with

pub all_put : {X : Type 0} (P : X → Type 0) (cmp : X → X → Ordering) (x : X) (ys : List X) → P x → AllByRecursion P ys → AllByRecursion P (put_in cmp ys x)
all_put P cmp x [] one all = (one, tt)
all_put P cmp x (y ∷ ys) one all = elim (cmp x y) as (λ o. AllByRecursion P (beside o x y ys (put_in cmp ys x))) [
  | Less ↦ (one, all)
  | Equal ↦ (one, all.1)
  | Greater ↦ (all.0, all_put P cmp x ys one all.1)
]

module _ (cells : Cells) (own : (c : ℕ) (x : KeyValue) → row_at cells c ≡ Some x → entry_key (cells c) ≡ x.key) (key : List ℕ) (lease : ℤ) (list : List Attachment) (rows : List KeyValue)
    (up : IsStrictlySortedBy by_key rows) (off : IsOff cells list rows key lease) where
  -- a row that is put among those that are left is put among all
  put_among : (row : KeyValue) → row.key ≡ key → put_in by_key off.left row ≡ put_in by_key rows row
  put_among row is =
      put_over by_key by_key_total row off.left off.ascend
      ∙ ap (λ k. put_in by_key (rows_without off.left k) row) is
      ∙ ap (λ rs. put_in by_key rs row) off.others
      ∙ ap (λ k. put_in by_key (rows_without rows k) row) (sym is)
      ∙ sym (put_over by_key by_key_total row rows up)

  pub on_lease : (row : KeyValue) (c : ℕ) → row_at cells c ≡ Some row → row.key ≡ key → row.lease ≡ lease → int_eq lease (pos 0) ≡ false → AreAttached cells (with_attachment cells list (record { id = lease; head = c }))
      → AreKeysOf cells (with_attachment cells list (record { id = lease; head = c })) (put_in by_key rows row)
  on_lease row c at is of used now =
      let a : Attachment = record { id = lease; head = c } in
      record {
        attached = now;
        named = all_put (λ (b : Attachment). int_eq b.id (pos 0) ≡ false) _ a list used off.keys.named;
        held = subst (HoldRows (row_at cells) (with_attachment cells list a)) (put_among row is)
            (attached cells (row_at cells) own list off.left a row at of off.keys.attached off.ascend off.keys.held (subst (λ k. HasLease k lease off.left) (sym is) off.has));
      }

  pub on_none : (row : KeyValue) → row.key ≡ key → row.lease ≡ pos 0 → lease ≡ pos 0 → AreKeysOf cells list (put_in by_key rows row)
  on_none row is of none = record {
    attached = off.keys.attached;
    named = off.keys.named;
    held = subst (HoldRows (row_at cells) list) (put_among row is)
        (unattached cells (row_at cells) own list off.left row of off.ascend off.keys.held (subst (λ k. HasLease k (pos 0) off.left) (sym is) (subst (λ id. HasLease key id off.left) none off.has)));
  }

  pub gone : lease ≡ pos 0 → AreKeysOf cells list (rows_without rows key)
  gone none = record {
    attached = off.keys.attached;
    named = off.keys.named;
    held = subst (HoldRows (row_at cells) list) off.others
        (λ id used. off.keys.held id used ∙ ap (map Some) (sym (same_rows key (pos 0) id off.left used (subst (λ z. HasLease key z off.left) none off.has))));
  }

-- ---- the record of a change

pub row_there : (cells : Cells) (c : ℕ) → IsSome (row_at cells c) → IsSome (cells c)
row_there cells c some = by (cells c) some
  where
    by : (o : Option Linked) → IsSome (row_at (λ n. o) c) → IsSome o
    by None h = h
    by (Some e) h = refl

which_row : (o : Option KeyValue) → IsSome o → (row : KeyValue) × (o ≡ Some row)
which_row None some = let bad : ⊥ = cc in absurd bad
which_row (Some row) some = (row, refl)

entry_at : (cells : Cells) (c : ℕ) → entry_key (cells c) ≡ key_at cells c
entry_at cells c = by (cells c)
  where
    by : (o : Option Linked) → entry_key o ≡ key_at (λ n. o) c
    by None = refl
    by (Some e) = refl

pub if_both : {X : Type 0} (o : Option X) (P Q : X → Type 0) → ((x : X) → o ≡ Some x → P x → Q x) → IfSome o P → IfSome o Q
if_both None P Q goes h = tt
if_both (Some x) P Q goes h = goes x refl h

module _ (store : StoreState) where
  pub own_entry : (c : ℕ) (row : KeyValue) → row_at (cells_in store) c ≡ Some row → entry_key (cells_in store c) ≡ row.key
  own_entry c row at = entry_at (cells_in store) c ∙ own_cells store c row at

  module _ (x : Recorded) (kept : ℤ) (list : List Attachment) where
    pub takes_none : None ≡ live x.key (x.revision - 1) store.kept.changes → TakesOff store x kept list list
    takes_none none = λ rows is up shown keys. off_none (cells_in store) own_entry x.key kept list rows up keys (subst (λ o. AreShown x.key o rows) (sym none) shown)

    module _ (c : ℕ) (held : ℤ) (at : row_at (cells_in store) c ≡ live x.key (x.revision - 1) store.kept.changes) (some : IsSome (row_at (cells_in store) c))
        (says : IfSome (cells_in store c) (λ e. held ≡ lease_of (change_of e.change))) where
      row_of : (row : KeyValue) × (row_at (cells_in store) c ≡ Some row)
      row_of = which_row (row_at (cells_in store) c) some

      its_lease : held ≡ row_of.0.lease
      its_lease = lease_shown (cells_in store) c row_of.0 held row_of.1 says

      shown_as : (rows : List KeyValue) → AreShown x.key (live x.key (x.revision - 1) store.kept.changes) rows → AreShown x.key (Some row_of.0) rows
      shown_as rows shown = subst (λ o. AreShown x.key o rows) (sym at ∙ row_of.1) shown

      pub keeps_lease : held ≡ kept → TakesOff store x kept list list
      keeps_lease same = λ rows is up shown keys. off_kept (cells_in store) own_entry x.key kept list rows up keys row_of.0 (shown_as rows shown) (sym its_lease ∙ same)

      pub had_no_lease : held ≡ pos 0 → TakesOff store x kept list list
      had_no_lease none = λ rows is up shown keys. off_unleased (cells_in store) own_entry x.key kept list rows up keys row_of.0 (shown_as rows shown) (sym its_lease ∙ none)

      pub is_detached : (new : List Attachment) → new ≡ without_attachment (cells_in store) list (record { id = held; head = c }) → AreAttached (cells_in store) new → TakesOff store x kept list new
      is_detached new made still = λ rows is up shown keys.
          let made_of : new ≡ without_attachment (cells_in store) list (record { id = row_of.0.lease; head = c }) = made ∙ ap (λ id. without_attachment (cells_in store) list (record { id = id; head = c })) its_lease in
          subst (λ l. IsOff (cells_in store) l rows x.key kept) (sym made_of)
          (off_detached (cells_in store) own_entry x.key kept list rows up keys row_of.0 c (shown_as rows shown) row_of.1
          (live-key store.kept.changes is.own x.key (x.revision - 1) row_of.0 (sym at ∙ row_of.1)) (subst (AreAttached (cells_in store)) made_of still))

  module _ (cell : ℕ) (lease : ℤ) (old mid : List Attachment) (off : IfSome (change_at (cells_in store) cell) (λ x. TakesOff store x lease old mid)) (says : IfSome (cells_in store cell) (λ e. lease ≡ lease_of (change_of e.change))) where
    lease_said : (x : Recorded) → change_at (cells_in store) cell ≡ Some x → lease ≡ lease_of (change_of x)
    lease_said x at = by (cells_in store cell) at says
      where
        by : (o : Option Linked) → change_at (λ n. o) cell ≡ Some x → IfSome o (λ e. lease ≡ lease_of (change_of e.change)) → lease ≡ lease_of (change_of x)
        by None e h = let bad : ⊥ = cc in absurd bad
        by (Some l) e h = let same : l.change ≡ x = cc in h ∙ ap (λ (y : Recorded). lease_of (change_of y)) same

    at_row : (x : Recorded) (row : KeyValue) → change_at (cells_in store) cell ≡ Some x → x.row ≡ Some row → row_at (cells_in store) cell ≡ Some row
    at_row x row at is = ap (λ (o : Option Recorded). option_and_then (λ y. y.row) o) at ∙ is

    its_key : (x : Recorded) (row : KeyValue) → change_at (cells_in store) cell ≡ Some x → x.row ≡ Some row → row.key ≡ x.key
    its_key x row at is = subst (λ o. IfSome o (λ r. r.key ≡ x.key)) is (own_change store.records cell x at)

    pub follows_on : (new : List Attachment) → int_eq lease (pos 0) ≡ false → new ≡ with_attachment (cells_in store) mid (record { id = lease; head = cell }) → AreAttached (cells_in store) new → IfSome (change_at (cells_in store) cell) (λ x. Follows store x old new)
    follows_on new used made now = if_both (change_at (cells_in store) cell) (λ x. TakesOff store x lease old mid) (λ x. Follows store x old new) (λ x at off rows is up shown keys. by x at (off rows is up shown keys) up x.row refl) off
      where
        by : (x : Recorded) → change_at (cells_in store) cell ≡ Some x → {rows : List KeyValue} → IsOff (cells_in store) mid rows x.key lease → IsStrictlySortedBy by_key rows → (o : Option KeyValue) → x.row ≡ o → AreKeysOf (cells_in store) new (with_change rows x.key o)
        by x at {rows} off up None is =
            let none : lease ≡ pos 0 = lease_said x at ∙ ap (λ o. lease_of (change_of (record x { row = o }))) is in
            absurd (true≢false (sym (ap (λ z. int_eq z (pos 0)) none) ∙ used))
        by x at {rows} off up (Some row) is =
            let of : row.lease ≡ lease = sym (lease_said x at ∙ ap (λ o. lease_of (change_of (record x { row = o }))) is) in
            subst (λ l. AreKeysOf (cells_in store) l (put_in by_key rows row)) (sym made)
            (on_lease (cells_in store) own_entry x.key lease mid rows up off row cell (at_row x row at is) (its_key x row at is) of used (subst (AreAttached (cells_in store)) made now))

    pub follows_off : lease ≡ pos 0 → IfSome (change_at (cells_in store) cell) (λ x. Follows store x old mid)
    follows_off none = if_both (change_at (cells_in store) cell) (λ x. TakesOff store x lease old mid) (λ x. Follows store x old mid) (λ x at off rows is up shown keys. by x at (off rows is up shown keys) up x.row refl) off
      where
        by : (x : Recorded) → change_at (cells_in store) cell ≡ Some x → {rows : List KeyValue} → IsOff (cells_in store) mid rows x.key lease → IsStrictlySortedBy by_key rows → (o : Option KeyValue) → x.row ≡ o → AreKeysOf (cells_in store) mid (with_change rows x.key o)
        by x at {rows} off up None is = gone (cells_in store) own_entry x.key lease mid rows up off none
        by x at {rows} off up (Some row) is =
            let of : row.lease ≡ pos 0 = sym (lease_said x at ∙ ap (λ o. lease_of (change_of (record x { row = o }))) is) ∙ none in
            on_none (cells_in store) own_entry x.key lease mid rows up off row (its_key x row at is) of none

-- ---- what readers lend

pub says_same : {old new : Cells} (c : ℕ) (lease : ℤ) → old ≡ new → IfSome (old c) (λ e. lease ≡ lease_of (change_of e.change)) → IfSome (new c) (λ e. lease ≡ lease_of (change_of e.change))
says_same c lease same says = subst (λ (f : Cells). IfSome (f c) (λ e. lease ≡ lease_of (change_of e.change))) same says

pub fewer : {X : Type 0} (p : X → Bool) (xs : List X) → length (filter p xs) ≤ length xs
fewer p [] = omega arith
fewer p (x ∷ xs) = elim (p x) as (λ b. length (cond b (x ∷ filter p xs) (filter p xs)) ≤ length (x ∷ xs)) [
  | true ↦ omega (arith, fewer p xs)
  | false ↦ omega (arith, fewer p xs)
]

pub fewer_left : (cells : Cells) (a : Attachment) (list : List Attachment) → length (without_attachment cells list a) ≤ length list
fewer_left cells a list = fewer (λ b. not (is_eq (attachment_cmp cells b a))) list

pub is_used : (id : ℤ) → (of_z w64 id ≡ 0 → ⊥) → int_eq id (pos 0) ≡ false
is_used id h = by (int_eq id (pos 0)) refl
  where
    by : (b : Bool) → int_eq id (pos 0) ≡ b → int_eq id (pos 0) ≡ false
    by true e = absurd (h (ap (λ z. of_z w64 z) ((Decides-int_eq id (pos 0)).0 e)))
    by false e = e
