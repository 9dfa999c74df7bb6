-- The rows that a lease holds, by the cells that they are under: how they stay, and their deletes.
use Rattle.std.proofs.Common.{◌≡◌, ℕ, ◌+◌, ◌*◌, ◌^◌, ◌<◌, ◌≤◌, List, [], ◌∷◌, map, Some, refl, sym, ap, ◌∙◌, subst, arith}
use Rattle.std.specs.Prelude.{ℤ, Bool, true, false, cond, filter, sum_by}
use Rattle.std.specs.List.{AllByRecursion}
use Rattle.std.specs.Ordering.{int_eq}
use Rattle.std.proofs.lemmas.List.Elements.{recursion_from_All}
use Rattle.std.proofs.lemmas.List.Sums.{sum_by-cons}
use Rattle.std.proofs.lemmas.Simd.{map-map}
use Rattle.etcd_types.specs.declared.key_value.KeyValue.{KeyValue}
use Rattle.etcd_model.specs.declared.state.Change.TheVariants.{Delete as Del}
use Rattle.etcd_model.specs.Changes.{Recorded, keys, live, rows}
use Rattle.etcd_model.specs.Interval.{every_key, is_in}
use Rattle.etcd_model.specs.Kept.{cost_delete}
use Rattle.etcd_model.specs.Leases.{attached}
use Rattle.etcd_model.specs.Store.{Store, IsStore, counted_cells, reserved_cells}
use Rattle.etcd_model.proofs.RowLaws.{all_rows}
use Rattle.model_laws.specs.Attached.{leased_rows}
use Rattle.model_laws.specs.Once.{IsOnce}
use Rattle.model_laws.proofs.AttachedLaws.{all_passing}
use Rattle.model_laws.proofs.OnceStoreLaws.{finish_changes_once}
use Rattle.model_laws.proofs.RowLaws.{live-key, rows_inside}
use Rattle.key_index.specs.Links.{Cells}
use Rattle.revision_store.specs.Logged.{AllStay}
use Rattle.revision_store.specs.Plans.{cost_in, costs_in, head_deletes}
use Rattle.revision_store.specs.Stored.{CanCommit, Follows, IsPlanFor, RowsStay, StoreState, cells, changes_of, reads, row_at}
use Rattle.revision_store.specs.Pending.{IsSound}
use Rattle.revision_store.specs.declared.plan.Write.TheVariants.{Delete}
use Rattle.revision_store.proofs.PendingStores.{own_cells}
use Rattle.revision_store.proofs.RowsLeft.{row_stays}

-- ---- rows under their cells

-- they stay through a commit
pub rows_stay : (old new : Cells) (cs : List ℕ) (rs : List KeyValue) → AllStay old new → map (row_at old) cs ≡ map Some rs → map (row_at new) cs ≡ map Some rs
rows_stay old new [] rs stay are = are
rows_stay old new (c ∷ cs) [] stay are = let bad : ⊥ = cc in absurd bad
rows_stay old new (c ∷ cs) (r ∷ rs) stay are =
    let first : row_at old c ≡ Some r = cc in
    let rest : map (row_at old) cs ≡ map Some rs = cc in
    ap (λ o. o ∷ map (row_at new) cs) (row_stays old new c r stay first) ∙ ap (λ os. Some r ∷ os) (rows_stay old new cs rs stay rest)

-- each row is what its key shows at a revision
abbrev pub AreShown : ℕ → List Recorded → List KeyValue → Type 0
AreShown r xs rs = AllByRecursion (λ row. live row.key r xs ≡ Some row) rs

-- and through a compaction, if their keys show them
pub shown_rows_stay : (old new : Cells) (r : ℕ) (xs : List Recorded) (cs : List ℕ) (rs : List KeyValue) → RowsStay old new r xs → AreShown r xs rs → map (row_at old) cs ≡ map Some rs → map (row_at new) cs ≡ map Some rs
shown_rows_stay old new r xs [] rs stay shown are = are
shown_rows_stay old new r xs (c ∷ cs) [] stay shown are = let bad : ⊥ = cc in absurd bad
shown_rows_stay old new r xs (c ∷ cs) (row ∷ rs) stay shown are =
    let first : row_at old c ≡ Some row = cc in
    let rest : map (row_at old) cs ≡ map Some rs = cc in
    ap (λ o. o ∷ map (row_at new) cs) (stay c row first shown.0) ∙ ap (λ os. Some row ∷ os) (shown_rows_stay old new r xs cs rs stay shown.1 rest)

-- those that a lease holds are what their keys show now
pub leased_are_shown : (s : Store) (id : ℤ) → IsStore s → AreShown s.current s.changes (leased_rows s id)
leased_are_shown s id is =
    let own : (k : List ℕ) (row : KeyValue) → live k s.current s.changes ≡ Some row → row.key ≡ k = λ k row e. live-key s.changes is.own k s.current row e in
    all_passing (λ row. live row.key s.current s.changes ≡ Some row) (λ row. int_eq row.lease id) (rows (is_in [] (0 ∷ [])) s.current s.changes)
    (recursion_from_All (λ (row : KeyValue). live row.key s.current s.changes ≡ Some row) (rows (is_in [] (0 ∷ [])) s.current s.changes)
    (all_rows (λ k. live k s.current s.changes) own (λ row. live row.key s.current s.changes ≡ Some row)
    (λ k row e. ap (λ a. live a s.current s.changes) (own k row e) ∙ e) (filter (is_in [] (0 ∷ [])) (keys s.changes))))

-- ---- their deletes

fewer : (f : KeyValue → ℕ) (p : KeyValue → Bool) (rs : List KeyValue) → sum_by f (filter p rs) ≤ sum_by f rs
fewer f p [] = omega arith
fewer f p (r ∷ rs) = elim (p r) as (λ b. sum_by f (cond b (r ∷ filter p rs) (filter p rs)) ≤ sum_by f (r ∷ rs)) [
  | true ↦ omega (arith, sum_by-cons f r (filter p rs), sum_by-cons f r rs, fewer f p rs)
  | false ↦ omega (arith, sum_by-cons f r rs, fewer f p rs)
]

module _ (store : StoreState) where
  deletes_follow : (cs : List ℕ) (rs : List KeyValue) → map (row_at (cells store)) cs ≡ map Some rs → AreShown store.kept.current store.kept.changes rs → AllByRecursion (Follows store) (head_deletes cs)
  deletes_follow [] rs are shown = tt
  deletes_follow (c ∷ cs) [] are shown = let bad : ⊥ = cc in absurd bad
  deletes_follow (c ∷ cs) (r ∷ rs) are shown =
      let first : row_at (cells store) c ≡ Some r = cc in
      let rest : map (row_at (cells store)) cs ≡ map Some rs = cc in
      ((r, first, shown.0), deletes_follow cs rs rest shown.1)

  deletes_are : (cs : List ℕ) (rs : List KeyValue) → map (row_at (cells store)) cs ≡ map Some rs → changes_of store (head_deletes cs) ≡ map (λ row. Del row.key) rs
  deletes_are [] [] are = refl
  deletes_are [] (r ∷ rs) are = let bad : ⊥ = cc in absurd bad
  deletes_are (c ∷ cs) [] are = let bad : ⊥ = cc in absurd bad
  deletes_are (c ∷ cs) (r ∷ rs) are =
      let first : row_at (cells store) c ≡ Some r = cc in
      let rest : map (row_at (cells store)) cs ≡ map Some rs = cc in
      ap (λ k. Del k ∷ changes_of store (head_deletes cs)) (own_cells store c r first) ∙ ap (λ ds. Del r.key ∷ ds) (deletes_are cs rs rest)

  deletes_cost : (cs : List ℕ) (rs : List KeyValue) → map (row_at (cells store)) cs ≡ map Some rs → costs_in (cells store) (head_deletes cs) ≡ sum_by (λ row. cost_delete row.key) rs
  deletes_cost [] [] are = refl
  deletes_cost [] (r ∷ rs) are = let bad : ⊥ = cc in absurd bad
  deletes_cost (c ∷ cs) [] are = let bad : ⊥ = cc in absurd bad
  deletes_cost (c ∷ cs) (r ∷ rs) are =
      let first : row_at (cells store) c ≡ Some r = cc in
      let rest : map (row_at (cells store)) cs ≡ map Some rs = cc in
      omega (arith, sum_by-cons (cost_in (cells store)) (Delete c) (head_deletes cs), sum_by-cons (λ (row : KeyValue). cost_delete row.key) r rs, deletes_cost cs rs rest, ap cost_delete (own_cells store c r first))

  module _ (id : ℤ) (heads : List ℕ) (sound : IsSound store) (are : map (row_at (cells store)) heads ≡ map Some (leased_rows store.kept id)) where
    -- deletes of what a lease holds are those of its end
    pub end_changes : changes_of store (head_deletes heads) ≡ map Del (attached (reads store) id)
    end_changes = deletes_are heads (leased_rows store.kept id) are ∙ sym (map-map Del (λ (row : KeyValue). row.key) (leased_rows store.kept id))

    end_follows : IsPlanFor store (head_deletes heads)
    end_follows = record {
      follow = deletes_follow heads (leased_rows store.kept id) are (leased_are_shown store.kept id sound.kept);
      once = subst IsOnce (sym end_changes) (finish_changes_once store.kept id sound.kept);
    }

    -- they take cells that are held for the deletes of live keys
    end_costs : costs_in (cells store) (head_deletes heads) ≤ reserved_cells store.kept.current store.kept.changes
    end_costs =
        let f : KeyValue → ℕ = λ row. cost_delete row.key in
        let inside = rows (is_in [] (0 ∷ [])) store.kept.current store.kept.changes in
        let all = rows every_key store.kept.current store.kept.changes in
        omega (
          arith,
          deletes_cost heads (leased_rows store.kept id) are,
          fewer f (λ row. int_eq row.lease id) inside,
          fewer f (λ row. is_in [] (0 ∷ []) row.key) all,
          ap (sum_by f) (rows_inside store.kept.changes sound.kept.own store.kept.current (is_in [] (0 ∷ []))),
        )

    -- so they can be committed where all that counts is within the reservation, and a revision is left
    pub end_can_commit : counted_cells store.kept + store.lease_cells ≤ 64 * store.share.reserved → store.kept.current + 1 < 2 ^ 63 → CanCommit store (head_deletes heads)
    end_can_commit within left = record {
      plan = end_follows;
      space = omega (arith, within, sound.space, end_costs);
      revisions = left;
    }
