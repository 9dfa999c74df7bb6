-- How keys under cells stand to other keys.
use Rattle.std.proofs.Common.{◌≡◌, ℕ, List, [], Option, Some, None, IsSome, IfSome, refl, ap, ◌∙◌, sym}
use Rattle.std.specs.Prelude.{option_and_then, option_map, unwrap_or}
use Rattle.std.specs.Ordering.{is_eq, is_ge, is_le, ordering_reverse}
use Rattle.std.specs.declared.cmp.Ordering.{Ordering}
use Rattle.std.specs.declared.cmp.Ordering.TheVariants.{Less, Equal, Greater}
use Rattle.std.specs.Cmp.Lexicographic.{nat_list_cmp_total}
use Rattle.std.specs.Str.{bytes_eq}
use Rattle.etcd_model.specs.Changes.{Recorded}
use Rattle.etcd_model.specs.Order.{key_cmp, key_le}
use Rattle.etcd_model.proofs.OrderLaws.{bytes_eq-key_cmp}
use Rattle.key_index.specs.Links.{Cells, Linked}
use Rattle.revision_store.specs.Plans.{key_at}
use Rattle.revision_store.specs.Stored.{row_at}

-- how the key of a change stands to another one
pub read_key : (cells : Cells) (c : ℕ) (key : List ℕ) (o : Ordering) → IsSome (cells c) → IfSome (cells c) (λ e. o ≡ key_cmp e.change.key key) → o ≡ key_cmp (key_at cells c) key
read_key cells c key o some is = by (cells c) some is
  where
    by : (p : Option Linked) → IsSome p → IfSome p (λ e. o ≡ key_cmp e.change.key key) → o ≡ key_cmp (unwrap_or (option_map (λ (x : Recorded). x.key) (option_map (λ (e : Linked). e.change) p)) []) key
    by None some is = let bad : ⊥ = cc in absurd bad
    by (Some e) some is = is

-- the key is another one, or not below it
pub same_key : (k key : List ℕ) → is_eq (key_cmp k key) ≡ bytes_eq k key
same_key k key = sym (bytes_eq-key_cmp k key)

pub from_key : (k key : List ℕ) → is_ge (key_cmp k key) ≡ key_le key k
from_key k key = turned (key_cmp k key) ∙ ap is_le (sym (nat_list_cmp_total.antisymm key k))
  where
    turned : (o : Ordering) → is_ge o ≡ is_le (ordering_reverse o)
    turned Less = refl
    turned Equal = refl
    turned Greater = refl

-- a cell with a row has a change
pub row_there : (cells : Cells) (c : ℕ) → IsSome (row_at cells c) → IsSome (cells c)
row_there cells c some = by (cells c) some
  where
    by : (o : Option Linked) → IsSome (option_and_then (λ (x : Recorded). x.row) (option_map (λ (e : Linked). e.change) o)) → IsSome o
    by None some = let bad : ⊥ = cc in absurd bad
    by (Some e) some = refl
