-- What is read of the record under a cell, and of the last change of a key.
use Rattle.std.proofs.Common.{◌≡◌, ℕ, ◌++◌, ◌-◌, ◌<◌, ◌≤◌, Bool, true, false, List, Option, Some, None, IsSome, IfSome, refl, sym, ap, ◌∙◌, subst, arith}
use Rattle.std.specs.Prelude.{MatchOption, option_and_then, option_map, nat_lt, if◌then◌else◌}
use Rattle.std.specs.List.{AllByRecursion}
use Rattle.std.specs.Ordering.{nat_cmp}
use Rattle.std.specs.FinMap.{FinMap, get}
use Rattle.std.proofs.lemmas.Bool.Decides.{nat_tests}
use Rattle.chunk_list.specs.Chunked.{Chunked}
use Rattle.cell_arena.specs.Chain.{Record}
use Rattle.cell_arena.specs.declared.cell.Kind.{Kind}
use Rattle.cell_arena.specs.declared.cell.Kind.TheVariants.{Put, Delete, Lease}
use Rattle.cell_arena.specs.Region.{RegionState}
use Rattle.etcd_types.specs.declared.key_value.KeyValue.{KeyValue}
use Rattle.etcd_model.specs.Changes.{Recorded, OwnRow, last, live}
use Rattle.etcd_model.specs.Store.{Store, kept_store}
use Rattle.model_laws.proofs.LastIsLaws.{all_in}
use Rattle.key_index.specs.Links.{Cells, Linked, change_at, IsChained, IsLast, NoneUpTo}
use Rattle.key_index.specs.Index.{Heads}
use Rattle.key_index.specs.Order.{AreAll, IsInOrder, changes_in}
use Rattle.key_index.proofs.Compacted.{change_some}
use Rattle.key_index.proofs.Links.{at_linked, is_some_from, one_linked}
use Rattle.key_index.proofs.Order.{change_in, last_in_order, none_in_order, which}
use Rattle.revision_store.specs.Recorded.{cells_of, linked_by, linked_of}
use Rattle.revision_store.specs.Logged.{IsLog}
use Rattle.revision_store.specs.Stored.{row_at}

-- a row is of its change's key
own_by : (k : Kind) (q : Record) (e : Linked) → linked_by k q ≡ Some e → OwnRow e.change
own_by Put q e h = let F : Option Linked → Type 0 = λ o. IfSome o (λ (x : Linked). OwnRow x.change) in subst F h refl
own_by Delete q e h = let F : Option Linked → Type 0 = λ o. IfSome o (λ (x : Linked). OwnRow x.change) in subst F h tt
own_by Lease q e h = let bad : ⊥ = cc in absurd bad

own_in : (o : Option Record) (e : Linked) → option_and_then linked_of o ≡ Some e → OwnRow e.change
own_in None e h = let bad : ⊥ = cc in absurd bad
own_in (Some q) e h = own_by q.kind q e h

pub own_rows : (records : FinMap nat_cmp Record) (c : ℕ) (e : Linked) → cells_of records c ≡ Some e → OwnRow e.change
own_rows records c e h = own_in (get records c) e h

-- ---- the last change of a key

-- what is found as the last change of a key among the records is the last of their changes in order
pub last_told : (cells : Cells) (order key : List ℕ) (r : ℕ) (found : Option ℕ) → IsChained cells → AreAll cells order → IsInOrder cells order → MatchOption found (NoneUpTo cells key r) (IsLast cells key r) → option_and_then (change_at cells) found ≡ last key r (changes_in cells order)
last_told cells order key r None chained all rises h = sym (none_in_order cells order key r h)
last_told cells order key r (Some c) chained all rises h =
    change_some cells c h.of_key.0 h.of_key.1 ∙ sym (last_in_order cells order key r c h.of_key.0 chained all rises h h.of_key.1)

-- the same of a log, whose records and changes are seen as these
pub log_last : (region : RegionState) (heads : Heads) (settled recent : Chunked ℕ) (leases : ℕ) (records : FinMap nat_cmp Record) (changes : List Recorded) (key : List ℕ) (r : ℕ) (found : Option ℕ) → IsLog region heads settled recent leases → region.records ≡ records → changes_in (cells_of region.records) (settled.items ++ recent.items) ≡ changes
    → MatchOption found (NoneUpTo (cells_of records) key r) (IsLast (cells_of records) key r) → option_and_then (change_at (cells_of records)) found ≡ last key r changes
log_last region heads settled recent leases records changes key r found log same is h =
    subst (λ (m : FinMap nat_cmp Record). MatchOption found (NoneUpTo (cells_of m) key r) (IsLast (cells_of m) key r) → option_and_then (change_at (cells_of m)) found ≡ last key r (changes_in (cells_of region.records) (settled.items ++ recent.items))) same
    (λ told. last_told (cells_of region.records) (settled.items ++ recent.items) key r found log.chained log.all log.rises told) h
    ∙ ap (last key r) is

pub last_there : (cells : Cells) (key : List ℕ) (r : ℕ) (found : Option ℕ) → MatchOption found (NoneUpTo cells key r) (IsLast cells key r) → IfSome found (λ c. IsSome (cells c))
last_there cells key r None h = tt
last_there cells key r (Some c) h = is_some_from (cells c) h.of_key.0 h.of_key.1

-- ---- the change of a key before another one

-- the link of a record leads to the last change of its key at the revision before
older_told : (cells : Cells) (c : ℕ) (e : Linked) → IsChained cells → cells c ≡ Some e → 1 ≤ e.change.revision
    → MatchOption e.older (NoneUpTo cells e.change.key (e.change.revision - 1)) (IsLast cells e.change.key (e.change.revision - 1))
older_told cells c e chained at least = by e.older refl
  where
    by : (o : Option ℕ) → e.older ≡ o → MatchOption o (NoneUpTo cells e.change.key (e.change.revision - 1)) (IsLast cells e.change.key (e.change.revision - 1))
    by None is = λ b g has key. omega (arith, least, chained.oldest c e at is b g has key)
    by (Some d) is =
        let f = chained.linked c d e at is in
        let same : (g : Linked) → cells d ≡ Some g → g.change.revision ≡ f.0.change.revision = λ g has. ap (λ (x : Linked). x.change.revision) (one_linked (cells d) g f.0 has f.1.at) in
        record {
          of_key = (f.0, f.1.at, f.1.key);
          up_to = λ g has. omega (arith, same g has, f.1.earlier);
          last = λ g has b h there key le. omega (arith, same g has, f.1.next b h there key (omega (arith, least, le)));
        }

module _ (cells : Cells) (order : List ℕ) (c : ℕ) (older : Option ℕ) (chained : IsChained cells) (all : AreAll cells order) (least : AllByRecursion (λ x. 1 ≤ x.revision) (changes_in cells order)) (linked : IfSome (cells c) (λ e. older ≡ e.older)) where
  told_of : (e : Linked) → cells c ≡ Some e → MatchOption older (NoneUpTo cells e.change.key (e.change.revision - 1)) (IsLast cells e.change.key (e.change.revision - 1))
  told_of e at =
      let is : older ≡ e.older = at_linked (cells c) (λ (x : Linked). older ≡ x.older) e at linked in
      let from_first = all_in (λ x. 1 ≤ x.revision) (changes_in cells order) e.change least (change_in cells c e order at (omega (arith, all.once c e at))) in
      subst (λ (o : Option ℕ). MatchOption o (NoneUpTo cells e.change.key (e.change.revision - 1)) (IsLast cells e.change.key (e.change.revision - 1))) (sym is) (older_told cells c e chained at from_first)

  pub older_there : IsSome (cells c) → IfSome older (λ d. IsSome (cells d))
  older_there some = let e = which (cells c) some in last_there cells e.0.change.key (e.0.change.revision - 1) older (told_of e.0 e.1)

  -- the row that is found under the link is what the key showed
  pub older_shown : (found : Option ℕ) → IsInOrder cells order → option_and_then (row_at cells) found ≡ option_and_then (λ (x : Recorded). x.row) (option_and_then (change_at cells) older)
      → IfSome (change_at cells c) (λ x. option_and_then (row_at cells) found ≡ live x.key (x.revision - 1) (changes_in cells order))
  older_shown found rises read = by (cells c) refl
    where
      by : (o : Option Linked) → cells c ≡ o → IfSome (option_map (λ (e : Linked). e.change) o) (λ x. option_and_then (row_at cells) found ≡ live x.key (x.revision - 1) (changes_in cells order))
      by None none = tt
      by (Some e) at = read ∙ ap (option_and_then (λ (x : Recorded). x.row)) (last_told cells order e.change.key (e.change.revision - 1) older chained all rises (told_of e at))

-- the row before a change is given where its revision was not compacted
module _ (cells : Cells) (kept : Store) (c r : ℕ) (told : IfSome (cells c) (λ e. r ≡ e.change.revision)) where
  abbrev IsGiven : Option KeyValue → Option Recorded → Type 0
  IsGiven row o = IfSome o (λ x. row ≡ kept_store.row_at kept x.key (x.revision - 1))

  pub before_compacted : r - 1 < kept.compacted → IsGiven None (change_at cells c)
  before_compacted below = by (cells c) told
    where
      lower : (a b n : ℕ) → a ≡ b → a - 1 < n → nat_lt (b - 1) n ≡ true
      lower a b n same lt = grind (arith, nat_tests)

      by : (o : Option Linked) → IfSome o (λ e. r ≡ e.change.revision) → IsGiven None (option_map (λ (e : Linked). e.change) o)
      by None h = tt
      by (Some e) same = sym (ap (λ (b : Bool). if b then None else live e.change.key (e.change.revision - 1) kept.changes) (lower r e.change.revision kept.compacted same below))

  module _ (found : Option ℕ) (shown : IfSome (change_at cells c) (λ x. option_and_then (row_at cells) found ≡ live x.key (x.revision - 1) kept.changes)) where
    pub before_none : found ≡ None → IsGiven None (change_at cells c)
    before_none none = by (cells c) shown
      where
        by : (o : Option Linked) → IfSome (option_map (λ (e : Linked). e.change) o) (λ x. option_and_then (row_at cells) found ≡ live x.key (x.revision - 1) kept.changes) → IsGiven None (option_map (λ (e : Linked). e.change) o)
        by None h = tt
        by (Some e) h = either (nat_lt (e.change.revision - 1) kept.compacted)
          where
            either : (b : Bool) → None ≡ (if b then None else live e.change.key (e.change.revision - 1) kept.changes)
            either true = refl
            either false = ap (option_and_then (row_at cells)) (sym none) ∙ h

    pub before_given : (b : ℕ) (row : KeyValue) → kept.compacted ≤ r - 1 → found ≡ Some b → row_at cells b ≡ Some row → IsGiven (Some row) (change_at cells c)
    before_given b row least is at = by (cells c) told shown
      where
        upper : (a b n : ℕ) → a ≡ b → n ≤ a - 1 → nat_lt (b - 1) n ≡ false
        upper a b n same le = grind (arith, nat_tests)

        by : (o : Option Linked) → IfSome o (λ e. r ≡ e.change.revision) → IfSome (option_map (λ (e : Linked). e.change) o) (λ x. option_and_then (row_at cells) found ≡ live x.key (x.revision - 1) kept.changes) → IsGiven (Some row) (option_map (λ (e : Linked). e.change) o)
        by None h k = tt
        by (Some e) same k =
            sym at ∙ ap (option_and_then (row_at cells)) (sym is) ∙ k
            ∙ sym (ap (λ (b : Bool). if b then None else live e.change.key (e.change.revision - 1) kept.changes) (upper r e.change.revision kept.compacted same least))
