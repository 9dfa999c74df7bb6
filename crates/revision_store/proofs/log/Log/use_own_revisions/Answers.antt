use Rattle.std.proofs.Common.{◌≡◌, ℕ, List, [], ◌∷◌, Some, None, Option, refl, subst}
use Rattle.std.specs.Prelude.{option_and_then, option_map}
use Rattle.std.specs.List.{AllByRecursion, cons_option}
use Rattle.std.specs.FinMap.{FinMap, get}
use Rattle.std.specs.Ordering.{nat_cmp}
use Rattle.cell_arena.specs.declared.cell.Kind.{Kind}
use Rattle.cell_arena.specs.declared.cell.Kind.TheVariants.{Put, Delete, Lease}
use Rattle.cell_arena.specs.Chain.{Record}
use Rattle.etcd_model.specs.Changes.{Recorded}
use Rattle.key_index.specs.Links.{Linked, change_at}
use Rattle.key_index.specs.Order.{changes_in}
use Rattle.revision_store.specs.Latest.{OwnRevision}
use Rattle.revision_store.specs.Recorded.{cells_of, linked_by, linked_of, row_of}
use Rattle.revision_store.proofs.log.Log.use_own_revisions.Goals as goal

-- the row of a change under a cell has its revision
own_revision : (records : FinMap nat_cmp Record) (c : ℕ) (x : Recorded) → change_at (cells_of records) c ≡ Some x → OwnRevision x
own_revision records c x e = from (get records c) e
  where
    by : (kind : Kind) (r : Record) → option_map (λ (e : Linked). e.change) (linked_by kind r) ≡ Some x → OwnRevision x
    by Put r h = let is : record { key = r.key; revision = r.fields.revision; row = Some (row_of r) } ≡ x = cc in subst OwnRevision is refl
    by Delete r h = let is : record { key = r.key; revision = r.fields.revision; row = None } ≡ x = cc in subst OwnRevision is tt
    by Lease r h = let bad : ⊥ = cc in absurd bad

    from : (o : Option Record) → option_map (λ (e : Linked). e.change) (option_and_then linked_of o) ≡ Some x → OwnRevision x
    from None h = let bad : ⊥ = cc in absurd bad
    from (Some r) h = by r.kind r h

own_revisions : (records : FinMap nat_cmp Record) (order : List ℕ) → AllByRecursion OwnRevision (changes_in (cells_of records) order)
own_revisions records [] = tt
own_revisions records (c ∷ cs) = elim (change_at (cells_of records) c) as (λ o. change_at (cells_of records) c ≡ o → AllByRecursion OwnRevision (cons_option o (changes_in (cells_of records) cs))) [
  | None ↦ λ e. own_revisions records cs
  | Some x ↦ λ e. (own_revision records c x e, own_revisions records cs)
] refl

pub returns : goal.returns
returns c = rw (← c.self.view_is) (own_revisions _ _)
