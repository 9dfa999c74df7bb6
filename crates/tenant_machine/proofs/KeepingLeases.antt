-- What a book and a store are to one another stays through each effect.
use Rattle.std.proofs.Common.{◌≡◌, ℕ, ◌+◌, ◌<◌, ◌≤◌, List, [], ◌∷◌, arith, map, refl, sym, ap, ◌∙◌, subst}
use Rattle.std.specs.Prelude.{ℤ, pos, Bool, true, false, ◌||◌, cond, filter, Option, Some, None, IfSome, IsSome, is_some, option_and_then}
use Rattle.std.specs.List.{AllByRecursion, insert}
use Rattle.std.specs.List.Sorted.{IsStrictlySortedBy}
use Rattle.std.specs.Ordering.{int_cmp, int_eq, ordering_then}
use Rattle.std.specs.declared.cmp.Ordering.TheVariants.{Less}
use Rattle.std.proofs.lemmas.Bool.Decides.{Decides-int_eq}
use Rattle.std.proofs.lemmas.List.Elements.{recursion_from_All}
use Rattle.etcd_types.specs.Limits.{last_revision, max_quota}
use Rattle.etcd_types.specs.declared.key_value.KeyValue.{KeyValue}
use Rattle.etcd_model.specs.declared.state.Lease.{Lease}
use Rattle.etcd_model.specs.Held.{by_id}
use Rattle.etcd_model.specs.Leases.{lease_at, put_lease}
use Rattle.etcd_model.specs.Operations.{has_lease}
use Rattle.etcd_model.specs.Changes.{Recorded, keys, live}
use Rattle.etcd_model.specs.Interval.{every_key}
use Rattle.etcd_model.specs.Order.{key_cmp, put_in}
use Rattle.etcd_model.specs.Store.{Store, IsStore, after, compact, counted_cells, record_cells}
use Rattle.etcd_model.proofs.RowLaws.{all_rows as each_row}
use Rattle.key_index.specs.Links.{Cells}
use Rattle.key_index.specs.Sought.{entry_key}
use Rattle.lease_book.specs.declared.attachments.Attachment.{Attachment}
use Rattle.lease_book.specs.Attached.{attachment_cmp, heads_of, rows_of}
use Rattle.lease_book.specs.Book.{Book, empty_book, ids_below}
use Rattle.lease_book.specs.declared.granting.NewLease.{NewLease}
use Rattle.lease_book.proofs.Standing.{has_is}
use Rattle.lease_book.proofs.Lent.{attached_still, rows_still}
use Rattle.model_laws.specs.Bounds.{HasRevisions}
use Rattle.model_laws.specs.Once.{IsOnce}
use Rattle.model_laws.proofs.AttachedLaws.{all_passing}
use Rattle.model_laws.proofs.BoundLaws.{compaction_has_revisions, opening_has_revisions, write_has_revisions}
use Rattle.model_laws.proofs.HistoryKeptLaws.{rows_kept}
use Rattle.model_laws.proofs.RowLaws.{live-key}
use Rattle.revision_store.specs.Logged.{AllStay}
use Rattle.revision_store.specs.Recorded.{leases_of, with_lease_cell}
use Rattle.revision_store.specs.Stored.{RowsStay, StoreState, cells as cells_in, changes_of, empty_state, row_at}
use Rattle.revision_store.specs.declared.plan.Write.{Write}
use Rattle.revision_store.proofs.Attached.{shown_rows_stay}
use Rattle.tenant_machine.specs.Keyed.{AreKeysOf, IsNext, IsTimely, KeepsLeases, all_rows, lease_record}
use Rattle.tenant_machine.proofs.KeysFollow.{all_put, own_entry, row_there}
use Rattle.tenant_machine.proofs.RecordsKept.{recorded_renewed, recorded_with}

-- ---- attachments while records stay

pub keys_stay : (old new : Cells) (list : List Attachment) (rs : List KeyValue) → AllStay old new → AreKeysOf old list rs → AreKeysOf new list rs
keys_stay old new list rs stay keys = record {
  attached = attached_still old new stay list keys.attached;
  named = keys.named;
  held = rows_still old new stay (λ o. option_and_then (λ x. x.row) o) list rs keys.attached keys.held;
}

-- what holds of the heads of each lease holds of each head
each_head : (P : ℕ → Type 0) (list : List Attachment) → AllByRecursion (λ a. int_eq a.id (pos 0) ≡ false) list → ((id : ℤ) → int_eq id (pos 0) ≡ false → AllByRecursion P (heads_of list id)) → AllByRecursion (λ a. P a.head) list
each_head P [] named all = tt
each_head P (a ∷ list) named all = (
  (subst (λ b. AllByRecursion P (map (λ (x : Attachment). x.head) (cond b (a ∷ mine) mine))) itself (all a.id named.0)).0,
  each_head P list named.1 (λ id used. rest id (int_eq a.id id) (all id used)),
)
  where
    mine : List Attachment
    mine = filter (λ x. int_eq x.id a.id) list

    itself : int_eq a.id a.id ≡ true
    itself = (Decides-int_eq a.id a.id).1 refl

    rest : (id : ℤ) (b : Bool) → AllByRecursion P (map (λ (x : Attachment). x.head) (cond b (a ∷ filter (λ x. int_eq x.id id) list) (filter (λ x. int_eq x.id id) list))) → AllByRecursion P (heads_of list id)
    rest id true h = h.1
    rest id false h = h

-- ---- a compaction

-- each row is what its key shows
abbrev AreLive : ℕ → List Recorded → List KeyValue → Type 0
AreLive r xs rs = AllByRecursion (λ row. live row.key r xs ≡ Some row) rs

-- under the cell is a row
abbrev HasRow : Cells → ℕ → Type 0
HasRow cells c = (row : KeyValue) × (row_at cells c ≡ Some row)

live_rows : (s : Store) → IsStore s → AreLive s.current s.changes (all_rows s)
live_rows s sound =
    let own : (k : List ℕ) (row : KeyValue) → live k s.current s.changes ≡ Some row → row.key ≡ k = λ k row e. live-key s.changes sound.own k s.current row e in
    recursion_from_All (λ (row : KeyValue). live row.key s.current s.changes ≡ Some row) (all_rows s)
    (each_row (λ k. live k s.current s.changes) own (λ row. live row.key s.current s.changes ≡ Some row)
    (λ k row e. ap (λ a. live a s.current s.changes) (own k row e) ∙ e) (filter every_key (keys s.changes)))

heads_have_rows : (cells : Cells) (cs : List ℕ) (rs : List KeyValue) → map (row_at cells) cs ≡ map Some rs → AllByRecursion (HasRow cells) cs
heads_have_rows cells [] rs are = tt
heads_have_rows cells (c ∷ cs) [] are = let bad : ⊥ = cc in absurd bad
heads_have_rows cells (c ∷ cs) (r ∷ rs) are =
    let first : row_at cells c ≡ Some r = cc in
    let rest : map (row_at cells) cs ≡ map Some rs = cc in
    ((r, first), heads_have_rows cells cs rs rest)

-- attachments whose records keep their keys stay in order
module _ (old new : Cells) where
  abbrev Keeps : ℕ → Type 0
  Keeps c = IsSome (new c) × (entry_key (new c) ≡ entry_key (old c))

  still_some : (list : List Attachment) → AllByRecursion (λ a. Keeps a.head) list → AllByRecursion (λ a. IsSome (new a.head)) list
  still_some [] all = tt
  still_some (a ∷ list) all = (all.0.0, still_some list all.1)

  still_less : (a : Attachment) (list : List Attachment) → Keeps a.head → AllByRecursion (λ b. Keeps b.head) list → AllByRecursion (λ b. attachment_cmp old a b ≡ Less) list → AllByRecursion (λ b. attachment_cmp new a b ≡ Less) list
  still_less a [] keeps all up = tt
  still_less a (b ∷ list) keeps all up = (
    ap (λ k. ordering_then (int_cmp a.id b.id) (key_cmp k (entry_key (new b.head)))) keeps.1
        ∙ ap (λ k. ordering_then (int_cmp a.id b.id) (key_cmp (entry_key (old a.head)) k)) all.0.1
        ∙ up.0,
    still_less a list keeps all.1 up.1,
  )

  still_ascend : (list : List Attachment) → AllByRecursion (λ a. Keeps a.head) list → IsStrictlySortedBy (attachment_cmp old) list → IsStrictlySortedBy (attachment_cmp new) list
  unfolding IsStrictlySortedBy
  still_ascend [] all up = tt
  still_ascend (a ∷ list) all up = (still_less a list all.0 all.1 up.0, still_ascend list all.1 up.1)

module _ (store new : StoreState) (list : List Attachment) (r : ℕ) (sound : IsStore store.kept) (held : AreKeysOf (cells_in store) list (all_rows store.kept))
    (stay : RowsStay (cells_in store) (cells_in new) store.kept.current store.kept.changes) where
  shown_of : (id : ℤ) → AreLive store.kept.current store.kept.changes (rows_of id (all_rows store.kept))
  shown_of id = all_passing (λ row. live row.key store.kept.current store.kept.changes ≡ Some row) (λ x. int_eq x.lease id) (all_rows store.kept) (live_rows store.kept sound)

  -- under the heads of a lease are the same rows
  heads_stay : (id : ℤ) → int_eq id (pos 0) ≡ false → map (row_at (cells_in new)) (heads_of list id) ≡ map Some (rows_of id (all_rows store.kept))
  heads_stay id used = shown_rows_stay (cells_in store) (cells_in new) store.kept.current store.kept.changes (heads_of list id) (rows_of id (all_rows store.kept)) stay (shown_of id) (held.held id used)

  -- so each record keeps its key
  rows_keep : (cs : List ℕ) (rs : List KeyValue) → map (row_at (cells_in store)) cs ≡ map Some rs → map (row_at (cells_in new)) cs ≡ map Some rs → AllByRecursion (Keeps (cells_in store) (cells_in new)) cs
  rows_keep [] rs old_are new_are = tt
  rows_keep (c ∷ cs) [] old_are new_are = let bad : ⊥ = cc in absurd bad
  rows_keep (c ∷ cs) (row ∷ rs) old_are new_are =
      let before : row_at (cells_in store) c ≡ Some row = cc in
      let now : row_at (cells_in new) c ≡ Some row = cc in
      let earlier : map (row_at (cells_in store)) cs ≡ map Some rs = cc in
      let later : map (row_at (cells_in new)) cs ≡ map Some rs = cc in
      ((row_there (cells_in new) c (ap is_some now), own_entry new c row now ∙ sym (own_entry store c row before)), rows_keep cs rs earlier later)

  pub keys_compacted : new.kept ≡ compact store.kept r → r ≤ store.kept.current → AreKeysOf (cells_in new) list (all_rows new.kept)
  keys_compacted kept within =
      let all = each_head (Keeps (cells_in store) (cells_in new)) list held.named (λ id used. rows_keep (heads_of list id) (rows_of id (all_rows store.kept)) (held.held id used) (heads_stay id used)) in
      let same : all_rows new.kept ≡ all_rows store.kept = ap all_rows kept ∙ rows_kept every_key r store.kept.current store.kept.changes within sound.rises sound.own in
      record {
        attached = record { some = still_some (cells_in store) (cells_in new) list all; ascend = still_ascend (cells_in store) (cells_in new) list all held.attached.ascend };
        named = held.named;
        held = λ id used. heads_stay id used ∙ ap (λ rs. map Some (rows_of id rs)) (sym same);
      }

-- ---- what is kept through each effect

-- the ID of a lease that is there is not 0
pub id_used : (ls : List Lease) (id : ℤ) (moment : ℕ) → has_lease ls id ≡ true → AllByRecursion (IsTimely moment) ls → int_eq id (pos 0) ≡ false
id_used [] id moment has all = let bad : ⊥ = cc in absurd bad
id_used (l ∷ ls) id moment has all = step (int_eq l.id id) refl has (λ h. id_used ls id moment h all.1)
  where
    step : (b : Bool) → int_eq l.id id ≡ b → (b || has_lease ls id) ≡ true → (has_lease ls id ≡ true → int_eq id (pos 0) ≡ false) → int_eq id (pos 0) ≡ false
    step true e h rest = ap (λ z. int_eq z (pos 0)) (sym ((Decides-int_eq l.id id).0 e)) ∙ all.0.chosen
    step false e h rest = rest h

pub next_revision : (store new : StoreState) (book : Book) (moment : ℕ) (writes : List Write) (revision : ℕ) → IsStore store.kept → KeepsLeases store book moment → IsOnce (changes_of store writes) → new.kept ≡ after store.kept (changes_of store writes)
    → AllStay (cells_in store) (cells_in new) → revision ≡ store.kept.current + 1 → record_cells new.kept.changes ≤ book.room → IsNext new book revision
next_revision store new book moment writes revision sound keeps once kept stay next room = record {
  old = store.kept;
  changes = changes_of store writes;
  sound = sound;
  once = once;
  kept = kept;
  next = next;
  keys = keys_stay (cells_in store) (cells_in new) book.attachments (all_rows store.kept) stay keeps.keys;
  room = room;
}

pub keeps_after_write : (store new : StoreState) (book after_it : Book) (moment : ℕ) (writes : List Write) → KeepsLeases store book moment → new.kept ≡ after store.kept (changes_of store writes)
    → leases_of new.records ≡ leases_of store.records → store.kept.current < last_revision → counted_cells new.kept ≤ max_quota
    → AreKeysOf (cells_in new) after_it.attachments (all_rows new.kept) → after_it ≡ record book { attachments = after_it.attachments } → KeepsLeases new after_it moment
keeps_after_write store new book after_it moment writes keeps kept records low within keys others = record {
  keys = keys;
  recorded = ap (λ f. map f after_it.cells) records ∙ ap (λ (b : Book). map (leases_of store.records) b.cells) others ∙ keeps.recorded ∙ ap (λ (b : Book). map (λ l. Some (lease_record l)) b.leases) (sym others);
  timely = subst (λ (b : Book). AllByRecursion (IsTimely moment) b.leases) (sym others) keeps.timely;
  counter = omega (arith, keeps.counter, ap (λ (b : Book). b.counter) others);
  revisions =
      subst (λ (s : Store). HasRevisions max_quota s) (sym kept)
      (write_has_revisions store.kept (changes_of store writes) max_quota low (omega (arith, within, ap counted_cells kept)));
}

pub keeps_after_compaction : (store new : StoreState) (book : Book) (moment r : ℕ) → IsStore store.kept → KeepsLeases store book moment → new.kept ≡ compact store.kept r → r ≤ store.kept.current
    → RowsStay (cells_in store) (cells_in new) store.kept.current store.kept.changes → leases_of new.records ≡ leases_of store.records → KeepsLeases new book moment
keeps_after_compaction store new book moment r sound keeps kept within stay records = record {
  keys = keys_compacted store new book.attachments r sound keeps.keys stay kept within;
  recorded = ap (λ f. map f book.cells) records ∙ keeps.recorded;
  timely = keeps.timely;
  counter = keeps.counter;
  revisions =
      subst (λ (s : Store). HasRevisions max_quota s) (sym kept)
      (compaction_has_revisions store.kept r max_quota sound within keeps.revisions);
}

-- a lease that is granted, or has a new end
timely_put : (moment : ℕ) (ls : List Lease) (id : ℤ) (ttl : ℕ) → int_eq id (pos 0) ≡ false → AllByRecursion (IsTimely moment) ls → AllByRecursion (IsTimely moment) (put_lease moment ls id ttl)
timely_put moment ls id ttl chosen all = all_put (IsTimely moment) by_id _ ls (record { chosen = chosen; end = omega arith }) all

pub keeps_after_grant : (store new : StoreState) (book after_it : Book) (moment : ℕ) (grant : NewLease) (cell : ℕ) → KeepsLeases store book moment → IsStrictlySortedBy by_id book.leases → has_lease book.leases grant.lease.id ≡ false
    → int_eq grant.lease.id (pos 0) ≡ false → 1 ≤ grant.counter → grant.lease.end ≡ moment + grant.lease.ttl
    → new.kept ≡ store.kept → cells_in new ≡ cells_in store → leases_of store.records cell ≡ None → leases_of new.records ≡ with_lease_cell (leases_of store.records) cell (lease_record grant.lease)
    → after_it.leases ≡ put_in by_id book.leases grant.lease → after_it.cells ≡ insert book.cells (ids_below book.leases grant.lease.id) cell → after_it.counter ≡ grant.counter → after_it.attachments ≡ book.attachments
    → KeepsLeases new after_it moment
keeps_after_grant store new book after_it moment grant cell keeps up unused chosen counter end kept same fresh records leases cells count attachments = record {
  keys = subst (λ (s : Store). AreKeysOf (cells_in new) after_it.attachments (all_rows s)) (sym kept) (subst (λ f. AreKeysOf f after_it.attachments (all_rows store.kept)) (sym same) (subst (λ list. AreKeysOf (cells_in store) list (all_rows store.kept)) (sym attachments) keeps.keys));
  recorded =
      ap (λ cs. map (leases_of new.records) cs) cells
      ∙ ap (λ f. map f (insert book.cells (ids_below book.leases grant.lease.id) cell)) records
      ∙ recorded_with (leases_of store.records) cell grant.lease book.cells book.leases up unused fresh keeps.recorded
      ∙ ap (map (λ l. Some (lease_record l))) (sym leases);
  timely = subst (AllByRecursion (IsTimely moment)) (sym leases) (all_put (IsTimely moment) by_id grant.lease book.leases (record { chosen = chosen; end = omega (arith, end) }) keeps.timely);
  counter = omega (arith, counter, count);
  revisions = subst (λ (s : Store). HasRevisions max_quota s) (sym kept) keeps.revisions;
}

pub keeps_after_renewal : (store : StoreState) (book after_it : Book) (moment : ℕ) (id : ℤ) → KeepsLeases store book moment → IsStrictlySortedBy by_id book.leases → has_lease book.leases id ≡ true
    → IfSome (lease_at book.leases id) (λ l. after_it.leases ≡ put_lease moment book.leases id l.ttl) → after_it.cells ≡ book.cells → after_it.counter ≡ book.counter → after_it.attachments ≡ book.attachments → KeepsLeases store after_it moment
keeps_after_renewal store book after_it moment id keeps up has is cells counter attachments = by (lease_at book.leases id) refl is
  where
    by : (o : Option Lease) → lease_at book.leases id ≡ o → IfSome o (λ l. after_it.leases ≡ put_lease moment book.leases id l.ttl) → KeepsLeases store after_it moment
    by None e is = let none : false ≡ true = sym (ap is_some e) ∙ has_is book.leases id ∙ has in absurd (cc)
    by (Some l) e is = record {
      keys = subst (λ list. AreKeysOf (cells_in store) list (all_rows store.kept)) (sym attachments) keeps.keys;
      recorded = ap (map (leases_of store.records)) cells ∙ keeps.recorded ∙ sym (recorded_renewed moment book.leases id l up has e) ∙ ap (map (λ l. Some (lease_record l))) (sym is);
      timely = subst (AllByRecursion (IsTimely moment)) (sym is) (timely_put moment book.leases id l.ttl (id_used book.leases id moment has keeps.timely) keeps.timely);
      counter = omega (arith, keeps.counter, counter);
      revisions = keeps.revisions;
    }

-- ---- an opening

pub opening_keeps : (first cells room : ℕ) → first ≤ last_revision → KeepsLeases (empty_state first cells) (empty_book room) 0
unfolding IsStrictlySortedBy
opening_keeps first cells room within = record {
  keys = record { attached = record { some = tt; ascend = tt }; named = tt; held = λ id used. refl };
  recorded = refl;
  timely = tt;
  counter = omega arith;
  revisions = opening_has_revisions first max_quota within;
}
