-- What a store is, to changes that are pending.
use Rattle.std.proofs.Common.{◌≡◌, ℕ, ◌≤◌, List, [], ◌∷◌, length, refl, ap, ◌∙◌, sym, subst, arith, map}
use Rattle.std.specs.Prelude.{◌||◌, filter_map, Result, Ok, Err, IfOk, Option, Some, None, IfSome, option_map, option_and_then, unwrap_or}
use Rattle.std.specs.List.{AllByRecursion, cons_option, list_any}
use Rattle.std.specs.FinMap.{FinMap, get}
use Rattle.std.specs.Ordering.{nat_cmp}
use Rattle.etcd_types.specs.declared.key_value.KeyValue.{KeyValue}
use Rattle.etcd_types.specs.declared.kv.DeleteReq.{DeleteReq}
use Rattle.cell_arena.specs.declared.cell.Kind.{Kind}
use Rattle.cell_arena.specs.declared.cell.Kind.TheVariants.{Put, Delete, Lease}
use Rattle.cell_arena.specs.Chain.{Record}
use Rattle.etcd_model.specs.Changes.{Recorded, OwnRow, live, version_of}
use Rattle.model_laws.specs.Numbers.{HasNumbers}
use Rattle.model_laws.proofs.NumberLaws.{live_is_within}
use Rattle.etcd_model.specs.Interval.{is_in}
use Rattle.key_index.specs.Links.{Cells, Linked, change_at}
use Rattle.key_index.specs.Order.{changes_in}
use Rattle.revision_store.specs.Plans.{key_at}
use Rattle.revision_store.specs.Recorded.{cells_of, linked_by, linked_of}
use Rattle.revision_store.specs.Stored.{StoreState, cells, changes_of, row_at}
use Rattle.revision_store.specs.Pending.{is_row_in, left_cells, put_row, puts_within}
use Rattle.revision_store.specs.declared.plan.Write.{Write}
use Rattle.revision_store.specs.declared.plan.Write.TheVariants.{Put as PutWrite, Delete as DeleteWrite}

-- a row under a cell is of its change's key
pub own_change : (records : FinMap nat_cmp Record) (c : ℕ) (x : Recorded) → change_at (cells_of records) c ≡ Some x → OwnRow x
own_change records c x e = from (get records c) e
  where
    by : (kind : Kind) (r : Record) → option_map (λ (e : Linked). e.change) (linked_by kind r) ≡ Some x → OwnRow x
    by Put r h = let is : record { key = r.key; revision = r.fields.revision; row = Some (record { key = r.key; create_revision = r.fields.create_revision; mod_revision = r.fields.revision; version = r.fields.version; value = r.value; lease = r.fields.lease }) } ≡ x = cc in subst OwnRow is refl
    by Delete r h = let is : record { key = r.key; revision = r.fields.revision; row = None } ≡ x = cc in subst OwnRow is tt
    by Lease r h = let bad : ⊥ = cc in absurd bad

    from : (o : Option Record) → option_map (λ (e : Linked). e.change) (option_and_then linked_of o) ≡ Some x → OwnRow x
    from None h = let bad : ⊥ = cc in absurd bad
    from (Some r) h = by r.kind r h

pub own_changes : (records : FinMap nat_cmp Record) (order : List ℕ) → AllByRecursion OwnRow (changes_in (cells_of records) order)
own_changes records [] = tt
own_changes records (c ∷ cs) = elim (change_at (cells_of records) c) as (λ o. change_at (cells_of records) c ≡ o → AllByRecursion OwnRow (cons_option o (changes_in (cells_of records) cs))) [
  | None ↦ λ e. own_changes records cs
  | Some x ↦ λ e. (own_change records c x e, own_changes records cs)
] refl

pub own_cells : (store : StoreState) (c : ℕ) (row : KeyValue) → row_at (cells store) c ≡ Some row → key_at (cells store) c ≡ row.key
own_cells store c row e = by (change_at (cells store) c) refl e
  where
    by : (o : Option Recorded) → change_at (cells store) c ≡ o → option_and_then (λ (x : Recorded). x.row) o ≡ Some row → unwrap_or (option_map (λ (x : Recorded). x.key) (change_at (cells store) c)) [] ≡ row.key
    by None at h = let bad : ⊥ = cc in absurd bad
    by (Some x) at h =
        ap (λ o. unwrap_or (option_map (λ (x : Recorded). x.key) o) []) at
        ∙ sym (subst (λ o. IfSome o (λ (w : KeyValue). w.key ≡ x.key)) h (own_change store.records c x at))

-- ---- writes of a plan

-- their puts are those of their changes
pub puts_are : (store : StoreState) (key end : List ℕ) (ws : List Write) → list_any (is_row_in key end) (filter_map put_row ws) ≡ puts_within key end (changes_of store ws)
puts_are store key end [] = refl
puts_are store key end (PutWrite row ∷ ws) = ap (λ b. is_in key end row.key || b) (puts_are store key end ws)
puts_are store key end (DeleteWrite c ∷ ws) = puts_are store key end ws

-- where nothing is deleted all cells are left
pub none_erased : {X : Type 0} (cells : Cells) (as_delete : X → DeleteReq) (deletes : List X) (cs : List ℕ) → length deletes ≡ 0 → left_cells cells (map as_delete deletes) cs ≡ cs
none_erased cells as_delete [] cs e = all cs
  where
    all : (bs : List ℕ) → left_cells cells [] bs ≡ bs
    all [] = refl
    all (b ∷ bs) = ap (λ ds. b ∷ ds) (all bs)
none_erased cells as_delete (d ∷ ds) cs e = absurd (omega (arith, e))

-- ---- numbers

-- a row that a key shows has no more versions than there are revisions
pub version_within : (xs : List Recorded) (key : List ℕ) (r : ℕ) (o : Option KeyValue) → AllByRecursion HasNumbers xs → o ≡ live key r xs → version_of o ≤ r
version_within xs key r None all e = omega arith
version_within xs key r (Some row) all e = (live_is_within key r xs row all (sym e)).version

pub if_ok : {X E : Type 0} (P Q : X → Type 0) (r : Result X E) → ((x : X) → P x → Q x) → IfOk r P → IfOk r Q
if_ok P Q (Ok x) f h = f x h
if_ok P Q (Err e) f h = tt
