-- The end of a lease.
use Rattle.std.proofs.Common.{◌≡◌, ℕ, ◌+◌, ◌-◌, ◌^◌, ◌<◌, ◌≤◌, List, [], ◌∷◌, arith, get_or, length, map, refl, sym, ap, ◌∙◌, subst}
use Rattle.std.specs.Prelude.{ℤ, pos, Bool, true, false, not, cond, filter, int_le, Some, IsSome, is_some}
use Rattle.std.specs.List.{AllByRecursion, remove}
use Rattle.std.specs.List.Sorted.{IsStrictlySortedBy}
use Rattle.std.specs.Ordering.{int_eq}
use Rattle.std.proofs.lemmas.List.{length-map}
use Rattle.std.proofs.lemmas.List.Kept.{IsStrictlySortedBy-filter}
use Rattle.etcd_types.specs.Limits.{max_quota, max_ttl}
use Rattle.etcd_types.specs.declared.key_value.KeyValue.{KeyValue}
use Rattle.etcd_model.specs.declared.state.Change.TheVariants.{Delete as Del}
use Rattle.etcd_model.specs.declared.state.Lease.{Lease}
use Rattle.etcd_model.specs.Changes.{rows}
use Rattle.etcd_model.specs.Held.{by_id}
use Rattle.etcd_model.specs.Leases.{attached, lease_at}
use Rattle.etcd_model.specs.Operations.{has_lease}
use Rattle.etcd_model.specs.Store.{Store, IsStore, after, counted_cells, reads_of}
use Rattle.key_index.specs.Links.{Cells}
use Rattle.lease_book.specs.declared.attachments.Attachment.{Attachment}
use Rattle.lease_book.specs.Attached.{attachment_cmp, heads_of, rows_of, without_keys}
use Rattle.lease_book.specs.Book.{Book, ids_below}
use Rattle.lease_book.proofs.Changed.{ttl_within}
use Rattle.model_laws.specs.Attached.{leased_rows}
use Rattle.model_laws.specs.Bounds.{HasRevisions}
use Rattle.model_laws.specs.Leases.{without_lease}
use Rattle.model_laws.specs.Space.{finished}
use Rattle.model_laws.proofs.AttachedLaws.{all_passing, leased_by_ended, leased_by_others}
use Rattle.model_laws.proofs.BoundLaws.{finish_has_revisions}
use Rattle.model_laws.proofs.CounterLaws.{finish_takes_one}
use Rattle.model_laws.proofs.LeasedLaws.{among_all}
use Rattle.model_laws.proofs.SpaceLaws.{finish_takes_none}
use Rattle.quota_alarm.specs.declared.quota.Quota.{Quota}
use Rattle.revision_store.specs.Pending.{IsSound}
use Rattle.revision_store.specs.Plans.{head_deletes, key_at}
use Rattle.revision_store.specs.Recorded.{leases_of, without_lease_cell}
use Rattle.revision_store.specs.Stored.{CanCommit, Commits, StoreState, cells as cells_in, row_at}
use Rattle.revision_store.proofs.Attached.{end_can_commit, end_changes}
use Rattle.revision_store.proofs.PendingStores.{own_cells}
use Rattle.tenant_machine.specs.Keyed.{AreKeysOf, IsTimely, KeepsLeases, all_rows, lease_record}
use Rattle.tenant_machine.specs.Tenants.{IsMachine}
use Rattle.tenant_machine.proofs.KeepingLeases.{id_used, keys_stay}
use Rattle.tenant_machine.proofs.KeysFew.{none_passes, others_pass, same, without_one, apart}
use Rattle.tenant_machine.proofs.KeysFollow.{row_there}
use Rattle.tenant_machine.proofs.RecordsKept.{has_record, recorded_without}

-- the rows from the empty key on are all rows
leased_among_all : (s : Store) (id : ℤ) → leased_rows s id ≡ rows_of id (all_rows s)
leased_among_all s id = ap (λ (e : List ℕ → Bool). rows_of id (rows e s.current s.changes)) (λ i k. among_all k i)

-- ---- attachments but for those of a lease

module _ (cells : Cells) (list : List Attachment) (s : Store) (id : ℤ) (sound : IsStore s) (keys : AreKeysOf cells list (all_rows s)) where
  abbrev others : List KeyValue
  others = filter (λ x. not (int_eq x.lease id)) (all_rows s)

  -- of each lease the rows once it ended
  rows_then : (other : ℤ) → rows_of other others ≡ rows_of other (all_rows (finished s id))
  rows_then other = by (int_eq other id) refl
    where
      by : (b : Bool) → int_eq other id ≡ b → rows_of other others ≡ rows_of other (all_rows (finished s id))
      by true e =
          ap (λ z. rows_of z others) (same other id e)
          ∙ none_passes (λ (x : KeyValue). int_eq x.lease id) (all_rows s)
          ∙ sym (leased_by_ended s id sound)
          ∙ leased_among_all (finished s id) id
          ∙ ap (λ z. rows_of z (all_rows (finished s id))) (sym (same other id e))
      by false e =
          others_pass (λ (x : KeyValue). int_eq x.lease other) (λ (x : KeyValue). int_eq x.lease id) (all_rows s) (λ x. apart id other e x.lease)
          ∙ sym (leased_among_all s other)
          ∙ sym (leased_by_others s id other sound e)
          ∙ leased_among_all (finished s id) other

  pub keys_left : AreKeysOf cells (without_keys list id) (all_rows (finished s id))
  keys_left = record {
    attached = record {
      some = all_passing (λ a. IsSome (cells a.head)) (λ a. not (int_eq a.id id)) list keys.attached.some;
      ascend = IsStrictlySortedBy-filter (attachment_cmp cells) (λ (a : Attachment). not (int_eq a.id id)) list keys.attached.ascend;
    };
    named = all_passing (λ a. int_eq a.id (pos 0) ≡ false) (λ a. not (int_eq a.id id)) list keys.named;
    held = λ other used. without_one (row_at cells) list (all_rows s) id keys.held other used ∙ ap (map Some) (rows_then other);
  }

-- ---- the keys of a lease

-- under its heads are the rows that it holds
pub heads_show : (store : StoreState) (book : Book) (moment : ℕ) (id : ℤ) → KeepsLeases store book moment → has_lease book.leases id ≡ true → map (row_at (cells_in store)) (heads_of book.attachments id) ≡ map Some (leased_rows store.kept id)
heads_show store book moment id keeps has = keeps.keys.held id (id_used book.leases id moment has keeps.timely) ∙ ap (map Some) (sym (leased_among_all store.kept id))

-- so many are deleted at its end
as_many : (store : StoreState) (heads : List ℕ) (id : ℤ) → map (row_at (cells_in store)) heads ≡ map Some (leased_rows store.kept id) → length heads ≡ length (attached (reads_of store.kept) id)
as_many store heads id are = omega (
  arith,
  ap length are,
  length-map heads (row_at (cells_in store)),
  length-map (leased_rows store.kept id) (λ (row : KeyValue). Some row),
  length-map (leased_rows store.kept id) (λ (row : KeyValue). row.key),
)

pub same_revision : (store : StoreState) (heads : List ℕ) (id : ℤ) → map (row_at (cells_in store)) heads ≡ map Some (leased_rows store.kept id) → length heads ≡ 0 → (finished store.kept id).current ≡ store.kept.current
same_revision store heads id are none = by (attached (reads_of store.kept) id) (sym (as_many store heads id are) ∙ none)
  where
    by : (ks : List (List ℕ)) → length ks ≡ 0 → (after store.kept (map Del ks)).current ≡ store.kept.current
    by [] e = refl
    by (k ∷ ks) e = absurd (omega (arith, e))

pub next_one : (store : StoreState) (heads : List ℕ) (id : ℤ) → map (row_at (cells_in store)) heads ≡ map Some (leased_rows store.kept id) → 0 < length heads → (finished store.kept id).current ≡ store.kept.current + 1
next_one store heads id are some = by (attached (reads_of store.kept) id) (omega (arith, some, as_many store heads id are))
  where
    by : (ks : List (List ℕ)) → 0 < length ks → (after store.kept (map Del ks)).current ≡ store.kept.current + 1
    by [] e = absurd (omega (arith, e))
    by (k ∷ ks) e = refl

-- there is a revision for them
pub next_fits : (store : StoreState) (book : Book) (moment : ℕ) (quota : Quota) → IsMachine store book moment quota → store.kept.current + 1 < 2 ^ 63
next_fits store book moment quota is = omega (arith, is.keeps.revisions)

-- their keys are those that the definition tells
pub keys_told : (store : StoreState) (heads : List ℕ) (rs : List KeyValue) → map (row_at (cells_in store)) heads ≡ map Some rs → map (key_at (cells_in store)) heads ≡ map (λ row. row.key) rs
keys_told store [] [] are = refl
keys_told store [] (r ∷ rs) are = let bad : ⊥ = cc in absurd bad
keys_told store (c ∷ cs) [] are = let bad : ⊥ = cc in absurd bad
keys_told store (c ∷ cs) (r ∷ rs) are =
    let first : row_at (cells_in store) c ≡ Some r = cc in
    let rest : map (row_at (cells_in store)) cs ≡ map Some rs = cc in
    ap (λ k. k ∷ map (key_at (cells_in store)) cs) (own_cells store c r first) ∙ ap (λ ks. r.key ∷ ks) (keys_told store cs rs rest)

pub heads_there : (cells : Cells) (heads : List ℕ) (rs : List KeyValue) → map (row_at cells) heads ≡ map Some rs → AllByRecursion (λ c. IsSome (cells c)) heads
heads_there cells [] rs are = tt
heads_there cells (c ∷ cs) [] are = let bad : ⊥ = cc in absurd bad
heads_there cells (c ∷ cs) (r ∷ rs) are =
    let first : row_at cells c ≡ Some r = cc in
    let rest : map (row_at cells) cs ≡ map Some rs = cc in
    (row_there cells c (ap is_some first), heads_there cells cs rs rest)

-- a lease that is found has what each has
pub lease_found : (P : Lease → Type 0) (ls : List Lease) (id : ℤ) (l : Lease) → AllByRecursion P ls → lease_at ls id ≡ Some l → P l
lease_found P [] id l all is = let bad : ⊥ = cc in absurd bad
lease_found P (m ∷ ls) id l all is = step (int_eq m.id id) is (lease_found P ls id l all.1)
  where
    step : (b : Bool) → cond b (Some m) (lease_at ls id) ≡ Some l → (lease_at ls id ≡ Some l → P l) → P l
    step true e rest = let same : m ≡ l = cc in subst P same all.0
    step false e rest = rest e

-- what it has left is no more than it was granted
pub time_within : (store : StoreState) (book : Book) (moment : ℕ) (id : ℤ) (l : Lease) → KeepsLeases store book moment → lease_at book.leases id ≡ Some l → int_le (pos l.ttl) max_ttl ≡ true → (l.end - moment ≤ 9000000000) × (l.ttl ≤ 9000000000)
time_within store book moment id l keeps is most =
    let timely : IsTimely moment l = lease_found (IsTimely moment) book.leases id l keeps.timely is in
    let ttl = ttl_within l.ttl most in
    (omega (arith, timely.end, ttl), ttl)

-- ---- the end

module _ (store : StoreState) (book : Book) (moment : ℕ) (quota : Quota) (id : ℤ) (is : IsMachine store book moment quota) (sound : IsSound store) (up : IsStrictlySortedBy by_id book.leases) (has : has_lease book.leases id ≡ true) where
  abbrev heads : List ℕ
  heads = heads_of book.attachments id

  heads_are : map (row_at (cells_in store)) heads ≡ map Some (leased_rows store.kept id)
  heads_are = heads_show store book moment id is.keeps has

  pub ends_can_commit : CanCommit store (head_deletes heads)
  ends_can_commit = end_can_commit store id heads sound heads_are (omega (arith, is.used, is.leases, is.within)) (omega (arith, is.keeps.revisions))

  module _ (mid : StoreState) (commits : Commits store mid (head_deletes heads)) where
    pub kept_finished : mid.kept ≡ finished store.kept id
    kept_finished = commits.kept ∙ ap (after store.kept) (end_changes store id heads sound heads_are)

    pub still_recorded : map (leases_of mid.records) book.cells ≡ map (λ l. Some (lease_record l)) book.leases
    still_recorded = ap (λ f. map f book.cells) commits.leases ∙ is.keeps.recorded

    module _ (cell : ℕ) (at : cell ≡ get_or book.cells (ids_below book.leases id) cell) where
      pub its_record : IsSome (leases_of mid.records cell)
      its_record = has_record (leases_of mid.records) book.cells book.leases id cell up has still_recorded at

      pub ended_machine : (new : StoreState) (after_it : Book) → new.kept ≡ mid.kept → cells_in new ≡ cells_in mid → leases_of new.records ≡ without_lease_cell (leases_of mid.records) cell → new.lease_cells + 1 ≡ mid.lease_cells
          → new.share.reserved ≡ store.share.reserved → new.share.rooms ≡ store.share.rooms → after_it.leases ≡ without_lease book.leases id → after_it.cells ≡ remove book.cells (ids_below book.leases id) → after_it.counter ≡ book.counter → after_it.room ≡ book.room → after_it.taken ≡ book.taken
          → after_it.attachments ≡ without_keys book.attachments id → IsMachine new after_it moment (record quota { used = quota.used - 1 })
      ended_machine new after_it kept same_cells records lease_cells reserved rooms leases cells counter room taken attachments =
          let done : new.kept ≡ finished store.kept id = kept ∙ kept_finished in
          let one_less : length after_it.leases + 1 ≡ length book.leases = omega (arith, ap length leases, finish_takes_one book.leases id up has) in
          let counted : counted_cells new.kept ≡ counted_cells store.kept = ap counted_cells done ∙ finish_takes_none store.kept id sound.kept in
          record {
            used = omega (arith, is.used, counted, one_less);
            leases = omega (arith, is.leases, commits.lease_cells, lease_cells, one_less);
            room = omega (arith, is.room, room, rooms);
            taken = omega (arith, is.taken, taken);
            clock = is.clock;
            within = omega (arith, is.within, reserved);
            allowed = omega (arith, is.allowed, reserved);
            reserved = omega (arith, is.reserved, reserved, rooms);
            few = omega (arith, is.few, rooms);
            keeps = record {
              keys =
                  subst (λ (s : Store). AreKeysOf (cells_in new) after_it.attachments (all_rows s)) (sym done)
                  (subst (λ f. AreKeysOf f after_it.attachments (all_rows (finished store.kept id))) (sym same_cells)
                  (subst (λ list. AreKeysOf (cells_in mid) list (all_rows (finished store.kept id))) (sym attachments)
                  (keys_left (cells_in mid) book.attachments store.kept id sound.kept (keys_stay (cells_in store) (cells_in mid) book.attachments (all_rows store.kept) commits.stay is.keeps.keys))));
              recorded =
                  ap (map (leases_of new.records)) cells
                  ∙ ap (λ f. map f (remove book.cells (ids_below book.leases id))) records
                  ∙ recorded_without (leases_of mid.records) book.cells book.leases id cell up has still_recorded at
                  ∙ ap (map (λ l. Some (lease_record l))) (sym leases);
              timely = subst (AllByRecursion (IsTimely moment)) (sym leases) (all_passing (IsTimely moment) (λ l. not (int_eq l.id id)) book.leases is.keeps.timely);
              counter = omega (arith, is.keeps.counter, counter);
              revisions =
                  subst (λ (s : Store). HasRevisions max_quota s) (sym done)
                  (finish_has_revisions store.kept id max_quota sound.kept is.keeps.revisions);
            };
          }
