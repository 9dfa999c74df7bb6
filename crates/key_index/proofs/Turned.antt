-- Where the keys end that come before one that is looked up.
use Rattle.std.proofs.Common.{◌≡◌, ℕ, suc, ◌<◌, List, [], ◌∷◌, length, get_or, Option, Some, IfSome, refl, sym, ap, subst, ◌∙◌, arith}
use Rattle.std.specs.Prelude.{true, false}
use Rattle.std.specs.declared.cmp.Ordering.{Ordering}
use Rattle.std.specs.declared.cmp.Ordering.TheVariants.{Less, Equal, Greater}
use Rattle.std.specs.Ordering.{is_lt}
use Rattle.std.specs.List.{AllByRecursion}
use Rattle.std.proofs.lemmas.Bool.{false_from_ne_true}
use Rattle.chunk_list.specs.Chunked.{TurnsAt}
use Rattle.chunk_list.proofs.Turning.{IsFailing}
use Rattle.etcd_model.specs.Order.{key_cmp}
use Rattle.key_index.specs.Links.{Cells, Linked}
use Rattle.key_index.specs.Index.{IsGapFor, IsSpread}
use Rattle.key_index.specs.Sought.{comes_before, entry_key}
use Rattle.key_index.proofs.Links.{greater_down, less_trans}

pub less_from_lt : (o : Ordering) → is_lt o ≡ true → o ≡ Less
less_from_lt Less h = refl
less_from_lt Equal h = let bad : ⊥ = cc in absurd bad
less_from_lt Greater h = let bad : ⊥ = cc in absurd bad

greater_from_rest : (o : Ordering) → is_lt o ≡ false → (o ≡ Equal → ⊥) → o ≡ Greater
greater_from_rest Less fails other = let bad : ⊥ = cc in absurd bad
greater_from_rest Equal fails other = absurd (other refl)
greater_from_rest Greater fails other = refl

all_from_places : (P : ℕ → Type 0) (cs : List ℕ) → ((i : ℕ) → i < length cs → P (get_or cs i 0)) → AllByRecursion P cs
all_from_places P [] each = tt
all_from_places P (c ∷ cs) each = (each 0 (omega arith), all_from_places P cs (λ i lt. each (suc i) (omega (arith, lt))))

module _ (cells : Cells) (key : List ℕ) where
  -- whether the record under a cell comes before, by the record
  pub comes_is : (c : ℕ) (e : Linked) → cells c ≡ Some e → comes_before cells key c ≡ is_lt (key_cmp e.change.key key)
  comes_is c e at = ap (λ (o : Option Linked). is_lt (key_cmp (entry_key o) key)) at

  spread_tail : (h : ℕ) (hs : List ℕ) → IsSpread cells (h ∷ hs) → IsSpread cells hs
  spread_tail h hs spread = record {
    some = λ i lt. spread.some (suc i) (omega (arith, lt));
    sorted = λ i j e f below lt has_e has_f. spread.sorted (suc i) (suc j) e f (omega (arith, below)) (omega (arith, lt)) has_e has_f;
  }

  -- a head that does not come before has only such behind it
  pub failing : (heads : List ℕ) → IsSpread cells heads → IsFailing (comes_before cells key) heads
  failing [] spread = tt
  failing (h ∷ hs) spread = (
    λ fails. all_from_places (λ z. comes_before cells key z ≡ false) hs (λ i lt. (
        let e = spread.some 0 (omega arith) in
        let f = spread.some (suc i) (omega (arith, lt)) in
        let rises = spread.sorted 0 (suc i) e.0 f.0 (omega arith) (omega (arith, lt)) e.1 f.1 in
        false_from_ne_true (comes_before cells key (get_or hs i 0)) (λ t. (
        let less = less_from_lt (key_cmp f.0.change.key key) (sym (comes_is (get_or hs i 0) f.0 f.1) ∙ t) in
        let here : is_lt (key_cmp e.0.change.key key) ≡ true = ap is_lt (less_trans e.0.change.key f.0.change.key key rises less) in
        let not : is_lt (key_cmp e.0.change.key key) ≡ false = sym (comes_is h e.0 e.1) ∙ fails in
        let bad : ⊥ = cc (here, not) in
        bad)))),
    failing hs (spread_tail h hs spread),
  )

  module _ (heads : List ℕ) (spread : IsSpread cells heads) (n : ℕ) (turn : TurnsAt (comes_before cells key) heads n) where
    -- where the keys that come before end is the gap for a key that is not there
    pub gap_at : ((e : Linked) → n < length heads → cells (get_or heads n 0) ≡ Some e → key_cmp e.change.key key ≡ Equal → ⊥) → IsGapFor cells heads key n
    gap_at other = record {
      in_range = turn.in_range;
      smaller_before = λ j e lt has. less_from_lt (key_cmp e.change.key key) (sym (comes_is (get_or heads j 0) e has) ∙ turn.before j 0 lt);
      greater_after = λ j e le lt has.
          let within : n < length heads = omega (arith, le, lt) in
          let f = spread.some n within in
          let fails : is_lt (key_cmp f.0.change.key key) ≡ false = sym (comes_is (get_or heads n 0) f.0 f.1) ∙ turn.after n 0 (omega arith) within in
          let greater = greater_from_rest (key_cmp f.0.change.key key) fails (other f.0 within f.1) in
          let told : IfSome (cells (get_or heads n 0)) (λ x. key_cmp f.0.change.key key ≡ key_cmp x.change.key key) = subst (λ (o : Option Linked). IfSome o (λ x. key_cmp f.0.change.key key ≡ key_cmp x.change.key key)) (sym f.1) refl in
          greater_down cells heads key n (key_cmp f.0.change.key key) spread within told greater j e le lt has;
    }
