-- What a plan makes of the cells in use.
use Rattle.std.proofs.Common.{◌≡◌, ℕ, ◌+◌, ◌<◌, ◌≤◌, ◌==◌, List, [], ◌∷◌, ◌++◌, map, length, length-append, append_assoc, get_or, take, refl, ap, ◌∙◌, sym, subst, arith}
use Rattle.std.specs.Prelude.{Bool, true, false, cond, fold, sum_by, Option, Some, None, if◌then◌else◌}
use Rattle.std.specs.List.{AllByRecursion}
use Rattle.std.specs.Str.{bytes_eq}
use Rattle.std.specs.Cmp.Lexicographic.{bytes_decides}
use Rattle.std.proofs.lemmas.Bool.{eq-eqb, ne_eqb, true≢false}
use Rattle.std.proofs.lemmas.List.{append-nil, take_all}
use Rattle.std.proofs.lemmas.List.Elements.{filter-append}
use Rattle.std.proofs.lemmas.List.Sums.{sum_by-cons, sum_by_more, sum_by_push}
use Rattle.etcd_types.specs.declared.key_value.KeyValue.{KeyValue}
use Rattle.etcd_model.specs.declared.state.Change.{Change}
use Rattle.etcd_model.specs.declared.state.Change.TheVariants.{Put as Set}
use Rattle.etcd_model.specs.History.{key_of}
use Rattle.etcd_model.specs.Kept.{cost, cost_delete}
use Rattle.etcd_model.proofs.HistoryLaws.{changes_of as of_key}
use Rattle.etcd_model.specs.Changes.{Recorded, change_of, created_at, entry_at, live, next_row, record_revision, recorded}
use Rattle.etcd_model.specs.Store.{Store, after, counted_cells, reads_of, record_cells}
use Rattle.model_laws.specs.Once.{IsOnce}
use Rattle.model_laws.specs.Space.{room}
use Rattle.model_laws.proofs.NumberLaws.{live_is_within}
use Rattle.model_laws.proofs.PendingLaws.{row_with_pending}
use Rattle.model_laws.proofs.RowLaws.{live-key}
use Rattle.model_laws.proofs.SpaceLaws.{delete_takes_its_room, put_takes_cells, same_cost}
use Rattle.key_index.specs.Links.{Cells}
use Rattle.revision_store.specs.Plans.{change_in, costs_in, cost_in, growth_of, key_at}
use Rattle.revision_store.specs.Stored.{Follows, IsPlanFor, StoreState, cells, changes_of}
use Rattle.revision_store.specs.Pending.{IsSound}
use Rattle.revision_store.specs.declared.plan.Write.{Write}
use Rattle.revision_store.specs.declared.plan.Write.TheVariants.{Put, Delete}
use Rattle.revision_store.proofs.PendingStores.{own_cells}

-- ---- records

revision_takes : (n : ℕ) (xs : List Recorded) (cs : List Change) → record_cells (record_revision n xs cs) ≡ record_cells xs + sum_by cost cs
revision_takes n xs [] = omega arith
revision_takes n xs (c ∷ cs) =
    let x = recorded xs (entry_at n c) in
    omega (arith, revision_takes n (xs ++ x ∷ []) cs, sum_by_push (λ (y : Recorded). cost (change_of y)) xs x, same_cost n (live (key_of c) n xs) c, sum_by-cons cost c cs)

-- changes that make up one revision take what each costs
pub records_after : (s : Store) (cs : List Change) → record_cells (after s cs).changes ≡ record_cells s.changes + sum_by cost cs
records_after s [] = omega arith
records_after s (c ∷ cs) = revision_takes (s.current + 1) s.changes (c ∷ cs)

-- and so do those of some writes
pub costs_of : (cells : Cells) (writes : List Write) → costs_in cells writes ≡ sum_by cost (map (change_in cells) writes)
costs_of cells [] = refl
costs_of cells (w ∷ ws) = omega (arith, costs_of cells ws, sum_by-cons (cost_in cells) w ws, sum_by-cons cost (change_in cells w) (map (change_in cells) ws))

-- ---- what counts

-- of changes of which each key has one, those before one of them are of other keys
none_before : (c : Change) (cs ds : List Change) → IsOnce (cs ++ c ∷ ds) → of_key (key_of c) cs ≡ []
none_before c cs ds once =
    let key = key_of c in
    let split = ap length (filter-append (λ (d : Change). bytes_eq (key_of d) key) cs (c ∷ ds)) in
    none (of_key key cs) (omega (arith, once key, split, length-append (of_key key cs) (of_key key (c ∷ ds)), here (bytes_eq key key) ((bytes_decides key key).1 refl) (of_key key ds)))
  where
    here : (b : Bool) → b ≡ true → (xs : List Change) → 1 ≤ length (cond b (c ∷ xs) xs)
    here true t xs = omega arith
    here false t xs = absurd (true≢false (sym t))

    none : (xs : List Change) → length xs ≤ 0 → xs ≡ []
    none [] h = refl
    none (x ∷ xs) h = absurd (omega (arith, h))

module _ (store : StoreState) (sound : IsSound store) where
  -- a key that no change before is of shows what the store does
  untouched : (cs : List Change) (key : List ℕ) → of_key key cs ≡ [] → (reads_of (after store.kept cs)).row key ≡ live key store.kept.current store.kept.changes
  untouched cs key free = row_with_pending store.kept cs key sound.kept ∙ ap (fold (next_row (store.kept.current + 1)) (live key store.kept.current store.kept.changes)) free

  -- a put's row is created at its own revision where its key isn't live, and there alone
  room_made : (row : KeyValue) (o : Option KeyValue) → live row.key store.kept.current store.kept.changes ≡ o → next_row (store.kept.current + 1) o (Set row.key row.value row.lease) ≡ Some row
      → room o + (if row.create_revision == row.mod_revision then cost_delete row.key else 0) ≡ cost_delete row.key
  room_made row o is follows = by o is (made follows)
    where
      made : next_row (store.kept.current + 1) o (Set row.key row.value row.lease) ≡ Some row → (created_at (store.kept.current + 1) o ≡ row.create_revision) × (store.kept.current + 1 ≡ row.mod_revision)
      made h = (cc, cc)

      by : (p : Option KeyValue) → live row.key store.kept.current store.kept.changes ≡ p → (created_at (store.kept.current + 1) p ≡ row.create_revision) × (store.kept.current + 1 ≡ row.mod_revision)
          → room p + (if row.create_revision == row.mod_revision then cost_delete row.key else 0) ≡ cost_delete row.key
      by None at h = omega (arith, ap (λ b. if b then cost_delete row.key else 0) (eq-eqb row.create_revision row.mod_revision (sym h.0 ∙ h.1)))
      by (Some old) at h =
          let within = live_is_within row.key store.kept.current store.kept.changes old sound.numbers at in
          let apart : (row.create_revision == row.mod_revision) ≡ false = ne_eqb row.create_revision row.mod_revision (λ e. omega (arith, e, h.0, h.1, within.created)) in
          let key : old.key ≡ row.key = live-key store.kept.changes sound.kept.own row.key store.kept.current old at in
          omega (arith, ap cost_delete key, ap (λ b. if b then cost_delete row.key else 0) apart)

  write_grows : (cs : List Change) (write : Write) → Follows store write → of_key (key_of (change_in (cells store) write)) cs ≡ [] → counted_cells (after store.kept (cs ++ change_in (cells store) write ∷ [])) ≡ counted_cells (after store.kept cs) + growth_of write
  write_grows cs (Put row) follows free =
      omega (arith, put_takes_cells store.kept cs row.key row.value row.lease sound.kept, ap room (untouched cs row.key free), room_made row (live row.key store.kept.current store.kept.changes) refl follows)
  write_grows cs (Delete cell) follows free =
      let key = key_at (cells store) cell in
      let is : key ≡ follows.0.key = own_cells store cell follows.0 follows.1 in
      let shown = untouched cs key free ∙ ap (λ k. live k store.kept.current store.kept.changes) is ∙ follows.2 in
      omega (arith, delete_takes_its_room store.kept cs key sound.kept, ap room shown, ap cost_delete is)

  writes_grow : (cs : List Change) (writes : List Write) → AllByRecursion (Follows store) writes → IsOnce (cs ++ changes_of store writes)
      → counted_cells (after store.kept (cs ++ changes_of store writes)) ≡ counted_cells (after store.kept cs) + sum_by growth_of writes
  writes_grow cs [] follow once = omega (arith, ap (λ ds. counted_cells (after store.kept ds)) (append-nil cs))
  writes_grow cs (w ∷ ws) follow once =
      let c = change_in (cells store) w in
      let same : (cs ++ c ∷ []) ++ changes_of store ws ≡ cs ++ c ∷ changes_of store ws = append_assoc cs (c ∷ []) (changes_of store ws) in
      omega (
        arith,
        writes_grow (cs ++ c ∷ []) ws follow.1 (subst IsOnce (sym same) once),
        write_grows cs w follow.0 (none_before c cs (changes_of store ws) once),
        ap (λ ds. counted_cells (after store.kept ds)) same,
        sum_by-cons growth_of w ws,
      )

-- a plan raises the cells that count by what each of its writes does
pub grown : (store : StoreState) (writes : List Write) → IsSound store → IsPlanFor store writes → counted_cells (after store.kept (changes_of store writes)) ≡ counted_cells store.kept + sum_by growth_of writes
grown store writes sound plan = writes_grow store sound [] writes plan.follow plan.once

-- ---- up to a place

pub grown_to : (ws plan : List Write) (i : ℕ) (w : Write) → ws ≡ plan → i < length ws → w ≡ get_or ws i w → sum_by growth_of (take (i + 1) plan) ≡ sum_by growth_of (take i plan) + growth_of w
grown_to ws plan i w same lt is =
    subst (λ (xs : List Write). sum_by growth_of (take (i + 1) xs) ≡ sum_by growth_of (take i xs) + growth_of w) same
    (sum_by_more growth_of ws i w lt ∙ ap (λ (v : Write). sum_by growth_of (take i ws) + growth_of v) (sym is))

pub grown_at_end : (ws plan : List Write) (i : ℕ) → ws ≡ plan → length ws ≤ i → sum_by growth_of (take i plan) ≡ sum_by growth_of plan
grown_at_end ws plan i same past = subst (λ (xs : List Write). sum_by growth_of (take i xs) ≡ sum_by growth_of xs) same (ap (sum_by growth_of) (take_all i ws past))
