-- Cells that ascend by the keys of their changes, without those of some keys.
use Rattle.std.proofs.Common.{◌≡◌, ℕ, zero, suc, ◌+◌, ◌<◌, List, [], ◌∷◌, Bool, true, false, length, get_or, take, drop, add-one, refl, sym, ap, ◌∙◌, subst, arith}
use Rattle.std.specs.Prelude.{◌||◌, IsSome, cond, not}
use Rattle.std.specs.declared.cmp.Ordering.TheVariants.{Less, Equal, Greater}
use Rattle.std.specs.Ordering.{is_eq, ordering_reverse}
use Rattle.std.specs.Cmp.Lexicographic.{nat_list_cmp_total, bytes_decides}
use Rattle.std.specs.List.{AllByRecursion, remove}
use Rattle.std.specs.List.Sorted.{IsStrictlySortedBy}
use Rattle.std.specs.Str.{bytes_eq}
use Rattle.std.proofs.lemmas.List.Kept.{IsStrictlySortedBy-filter}
use Rattle.etcd_types.specs.declared.key_value.KeyValue.{KeyValue}
use Rattle.etcd_model.specs.Order.{key_cmp}
use Rattle.etcd_model.proofs.OrderLaws.{bytes_eq-key_cmp, tied_keys}
use Rattle.key_index.specs.Links.{Cells}
use Rattle.revision_store.specs.Mixing.{by_cell, cells_without, is_put_to, unput_cells}
use Rattle.revision_store.specs.Pending.{AreRows}
use Rattle.revision_store.specs.Plans.{key_at}
use Rattle.revision_store.specs.Stored.{row_at}
use Rattle.range_rows.proofs.RangingCells.{all_kept}

module _ (cells : Cells) (key : List ℕ) where
  abbrev pub Unlike : ℕ → Type 0
  Unlike c = bytes_eq key (key_at cells c) ≡ false

  -- ---- by how a key stands to another one

  unlike_less : (c : ℕ) → key_cmp (key_at cells c) key ≡ Less → Unlike c
  unlike_less c e = bytes_eq-key_cmp key (key_at cells c) ∙ ap is_eq (nat_list_cmp_total.antisymm key (key_at cells c) ∙ ap ordering_reverse e)

  unlike_greater : (c : ℕ) → key_cmp (key_at cells c) key ≡ Greater → Unlike c
  unlike_greater c e = bytes_eq-key_cmp key (key_at cells c) ∙ ap is_eq (nat_list_cmp_total.antisymm key (key_at cells c) ∙ ap ordering_reverse e)

  less_before : (b c : ℕ) → by_cell cells b c ≡ Less → key_cmp (key_at cells c) key ≡ Less → key_cmp (key_at cells b) key ≡ Less
  less_before b c below e = nat_list_cmp_total.trans (key_at cells b) (key_at cells c) key below e

  greater_after : (b c : ℕ) → by_cell cells b c ≡ Less → key_cmp (key_at cells b) key ≡ Greater → key_cmp (key_at cells c) key ≡ Greater
  greater_after b c below e =
      let first : key_cmp key (key_at cells b) ≡ Less = nat_list_cmp_total.antisymm key (key_at cells b) ∙ ap ordering_reverse e in
      nat_list_cmp_total.antisymm (key_at cells c) key ∙ ap ordering_reverse (nat_list_cmp_total.trans key (key_at cells b) (key_at cells c) first below)

  all_after : (c : ℕ) (cs : List ℕ) → AllByRecursion (λ d. by_cell cells c d ≡ Less) cs → key_cmp (key_at cells c) key ≡ Greater → AllByRecursion Unlike cs
  all_after c [] all e = tt
  all_after c (d ∷ ds) all e = (unlike_greater d (greater_after c d all.0 e), all_after c ds all.1 e)

  all_behind : (c : ℕ) (cs : List ℕ) → AllByRecursion (λ d. by_cell cells c d ≡ Less) cs → key_cmp (key_at cells c) key ≡ Equal → AllByRecursion Unlike cs
  all_behind c [] all e = tt
  all_behind c (d ∷ ds) all e =
      let below : key_cmp key (key_at cells d) ≡ Less = ap (λ k. key_cmp k (key_at cells d)) (sym (tied_keys (key_at cells c) key e)) ∙ all.0 in
      (bytes_eq-key_cmp key (key_at cells d) ∙ ap is_eq below, all_behind c ds all.1 e)

  -- the cell at a place comes after those before it
  at_place : (P : ℕ → Type 0) (cs : List ℕ) (i c : ℕ) → AllByRecursion P cs → i < length cs → c ≡ get_or cs i c → P c
  at_place P [] i c all h is = absurd (omega (arith, h))
  at_place P (d ∷ ds) zero c all h is = subst P (sym is) all.0
  at_place P (d ∷ ds) (suc i) c all h is = at_place P ds i c all.1 (omega (arith, h)) is

  -- ---- by how the one at a place stands to it

  before_place : (cs : List ℕ) (i c : ℕ) → IsStrictlySortedBy (by_cell cells) cs → i < length cs → c ≡ get_or cs i c → key_cmp (key_at cells c) key ≡ Less → AllByRecursion Unlike (take (suc i) cs)
  unfolding IsStrictlySortedBy
  before_place [] i c up h is e = absurd (omega (arith, h))
  before_place (d ∷ ds) zero c up h is e = (subst Unlike is (unlike_less c e), tt)
  before_place (d ∷ ds) (suc i) c up h is e =
      let below : by_cell cells d c ≡ Less = at_place (λ b. by_cell cells d b ≡ Less) ds i c up.0 (omega (arith, h)) is in
      (unlike_less d (less_before d c below e), before_place ds i c up.1 (omega (arith, h)) is e)

  pub up_to_place : (cs : List ℕ) (i c : ℕ) → IsStrictlySortedBy (by_cell cells) cs → i < length cs → c ≡ get_or cs i c → key_cmp (key_at cells c) key ≡ Less → AllByRecursion Unlike (take (i + 1) cs)
  up_to_place cs i c up h is e = subst (λ n. AllByRecursion Unlike (take n cs)) (sym (add-one i)) (before_place cs i c up h is e)

  pub from_place : (cs : List ℕ) (i c : ℕ) → IsStrictlySortedBy (by_cell cells) cs → i < length cs → c ≡ get_or cs i c → key_cmp (key_at cells c) key ≡ Greater → AllByRecursion Unlike (drop i cs)
  unfolding IsStrictlySortedBy
  from_place [] i c up h is e = absurd (omega (arith, h))
  from_place (d ∷ ds) zero c up h is e = let first : key_cmp (key_at cells d) key ≡ Greater = subst (λ b. key_cmp (key_at cells b) key ≡ Greater) is e in (unlike_greater d first, all_after d ds up.0 first)
  from_place (d ∷ ds) (suc i) c up h is e = from_place ds i c up.1 (omega (arith, h)) is e

  -- ---- without the key

  pub none_like : (cs : List ℕ) → AllByRecursion Unlike cs → cells_without cells key cs ≡ cs
  none_like [] all = refl
  none_like (c ∷ cs) all = ap (λ b. cond (not b) (c ∷ cells_without cells key cs) (cells_without cells key cs)) all.0 ∙ ap (λ ds. c ∷ ds) (none_like cs all.1)

  pub all_joined : (cs : List ℕ) (i : ℕ) → AllByRecursion Unlike (take i cs) → AllByRecursion Unlike (drop i cs) → AllByRecursion Unlike cs
  all_joined cs zero before after = after
  all_joined [] (suc i) before after = tt
  all_joined (c ∷ cs) (suc i) before after = (before.0, all_joined cs i before.1 after)

  same_as : (c : ℕ) → key_cmp (key_at cells c) key ≡ Equal → bytes_eq key (key_at cells c) ≡ true
  same_as c e = (bytes_decides key (key_at cells c)).1 (sym (tied_keys (key_at cells c) key e))

  pub one_like : (cs : List ℕ) (i c : ℕ) → IsStrictlySortedBy (by_cell cells) cs → i < length cs → c ≡ get_or cs i c → key_cmp (key_at cells c) key ≡ Equal → cells_without cells key cs ≡ remove cs i
  unfolding IsStrictlySortedBy
  one_like [] i c up h is e = absurd (omega (arith, h))
  one_like (d ∷ ds) zero c up h is e =
      let first : key_cmp (key_at cells d) key ≡ Equal = subst (λ b. key_cmp (key_at cells b) key ≡ Equal) is e in
      ap (λ b. cond (not b) (d ∷ cells_without cells key ds) (cells_without cells key ds)) (same_as d first) ∙ none_like ds (all_behind d ds up.0 first)
  one_like (d ∷ ds) (suc i) c up h is e =
      let below : by_cell cells d c ≡ Less = at_place (λ b. by_cell cells d b ≡ Less) ds i c up.0 (omega (arith, h)) is in
      let less : key_cmp (key_at cells d) key ≡ Less = ap (key_cmp (key_at cells d)) (sym (tied_keys (key_at cells c) key e)) ∙ below in
      ap (λ b. cond (not b) (d ∷ cells_without cells key ds) (cells_without cells key ds)) (unlike_less d less)
      ∙ ap (λ bs. d ∷ bs) (one_like ds i c up.1 (omega (arith, h)) is e)

-- ---- without the keys of some rows

next_without : (cells : Cells) (row : KeyValue) (rows : List KeyValue) (cs : List ℕ) → unput_cells cells (row ∷ rows) cs ≡ unput_cells cells rows (cells_without cells row.key cs)
next_without cells row rows [] = refl
next_without cells row rows (c ∷ cs) =
    elim (bytes_eq row.key (key_at cells c)) as (λ b. cond (not (b || is_put_to rows (key_at cells c))) (c ∷ unput_cells cells (row ∷ rows) cs) (unput_cells cells (row ∷ rows) cs)
    ≡ unput_cells cells rows (cond (not b) (c ∷ cells_without cells row.key cs) (cells_without cells row.key cs))) [
      | true ↦ next_without cells row rows cs
      | false ↦ ap (λ ds. cond (not (is_put_to rows (key_at cells c))) (c ∷ ds) ds) (next_without cells row rows cs)
    ]

-- of some cells those of the keys of some rows are taken away, but for the rows ahead
pub record IsUnputting (cells : Cells) (ahead all : List KeyValue) (left entry : List ℕ) : Type 0 where
  pub rows : AreRows cells left
  pub ascend : IsStrictlySortedBy (by_cell cells) left
  pub same : unput_cells cells ahead left ≡ unput_cells cells all entry

pub unputting_next : (cells : Cells) (row : KeyValue) (ahead all : List KeyValue) (left next entry : List ℕ) → IsUnputting cells (row ∷ ahead) all left entry → cells_without cells row.key left ≡ next → IsUnputting cells ahead all next entry
unputting_next cells row ahead all left next entry is e =
    let p : ℕ → Bool = λ c. not (bytes_eq row.key (key_at cells c)) in
    record {
      rows = subst (AreRows cells) e (all_kept (λ c. IsSome (row_at cells c)) p left is.rows);
      ascend = subst (IsStrictlySortedBy (by_cell cells)) e (IsStrictlySortedBy-filter (by_cell cells) p left is.ascend);
      same = ap (unput_cells cells ahead) (sym e) ∙ sym (next_without cells row ahead left) ∙ is.same;
    }

every_cell : (cells : Cells) (cs : List ℕ) → unput_cells cells [] cs ≡ cs
every_cell cells [] = refl
every_cell cells (c ∷ cs) = ap (λ ds. c ∷ ds) (every_cell cells cs)

pub unputting_all : (cells : Cells) (all : List KeyValue) (left entry : List ℕ) → IsUnputting cells [] all left entry → left ≡ unput_cells cells all entry
unputting_all cells all left entry is = sym (every_cell cells left) ∙ is.same
