-- The row that the change under a cell left.
use Rattle.std.proofs.Common.{◌≡◌, ◌≢◌, ℕ, List, [], ◌∷◌, ◌++◌, Bool, true, false, IsSome, IfSome, Option, Some, None, append_assoc, map, refl, sym, ap, subst, ◌∙◌, if◌then◌else◌}
use Rattle.std.specs.Prelude.{filter_map, option_and_then, option_map, unwrap_or}
use Rattle.std.specs.List.{cons_option}
use Rattle.std.proofs.lemmas.Bool.{eq-eqb, ne_eqb}
use Rattle.etcd_types.specs.declared.key_value.KeyValue.{KeyValue}
use Rattle.etcd_types.specs.declared.kv.RangeReq.{RangeReq}
use Rattle.etcd_model.specs.Changes.{Recorded, live}
use Rattle.key_index.specs.Links.{Linked}
use Rattle.range_rows.specs.Reading.{read}
use Rattle.range_rows.specs.Taking.{AreEnough, NoneTies, first_of}
use Rattle.revision_store.specs.Latest.{row_from, row_left_by}

-- a cell with a record has a change
pub has_change : (o : Option Linked) → IsSome o → IsSome (option_map (λ (e : Linked). e.change) o)
has_change None some = let bad : ⊥ = cc in absurd bad
has_change (Some e) some = refl

-- whose revision is the record's
pub change_is_of : (o : Option Linked) (n : ℕ) → IfSome o (λ (e : Linked). n ≡ e.change.revision) → IfSome (option_map (λ (e : Linked). e.change) o) (λ (x : Recorded). n ≡ x.revision)
change_is_of None n h = tt
change_is_of (Some e) n h = h

module _ (interval : List ℕ → Bool) (r : ℕ) (xs : List Recorded) where
  -- the key of a change
  abbrev its_key : Option Recorded → List ℕ
  its_key o = unwrap_or (option_map (λ x. x.key) o) []

  -- none of a key outside
  pub left_out : (o : Option Recorded) → interval (its_key o) ≡ false → None ≡ option_and_then (row_left_by interval r xs) o
  left_out None h = refl
  left_out (Some x) h = sym (ap (λ b. if b then option_and_then (row_from x.revision) (live x.key r xs) else None) h)

  -- a key inside leaves what it shows, if that is of the change's revision
  inside : (x : Recorded) (q : Option KeyValue) → interval x.key ≡ true → q ≡ live x.key r xs → row_left_by interval r xs x ≡ option_and_then (row_from x.revision) q
  inside x q h is = ap (λ b. if b then option_and_then (row_from x.revision) (live x.key r xs) else None) h ∙ ap (option_and_then (row_from x.revision)) (sym is)

  -- none where the key shows none
  pub left_none : (o : Option Recorded) → IsSome o → interval (its_key o) ≡ true → None ≡ live (its_key o) r xs → None ≡ option_and_then (row_left_by interval r xs) o
  left_none None some h is = let bad : ⊥ = cc in absurd bad
  left_none (Some x) some h is = sym (inside x None h is)

  -- the row that is shown where that is of the change's revision
  pub left_here : (o : Option Recorded) (q : Option KeyValue) (n m : ℕ) → IsSome o → interval (its_key o) ≡ true → q ≡ live (its_key o) r xs → IfSome q (λ row. n ≡ row.mod_revision) → IfSome o (λ x. m ≡ x.revision) → n ≡ m → q ≡ option_and_then (row_left_by interval r xs) o
  left_here None q n m some h is of at same = let bad : ⊥ = cc in absurd bad
  left_here (Some x) None n m some h is of at same = sym (inside x None h is)
  left_here (Some x) (Some row) n m some h is of at same = sym (inside x (Some row) h is ∙ ap (λ b. if b then Some row else None) (eq-eqb row.mod_revision x.revision (sym of ∙ same ∙ at)))

  -- and none where it is of another one
  pub left_older : (o : Option Recorded) (q : Option KeyValue) (n m : ℕ) → IsSome o → interval (its_key o) ≡ true → q ≡ live (its_key o) r xs → IfSome q (λ row. n ≡ row.mod_revision) → IfSome o (λ x. m ≡ x.revision) → n ≢ m → None ≡ option_and_then (row_left_by interval r xs) o
  left_older None q n m some h is of at differ = let bad : ⊥ = cc in absurd bad
  left_older (Some x) None n m some h is of at differ = sym (inside x None h is)
  left_older (Some x) (Some row) n m some h is of at differ = sym (inside x (Some row) h is ∙ ap (λ b. if b then Some row else None) (ne_eqb row.mod_revision x.revision (λ e. differ (of ∙ e ∙ sym at))))

-- ---- one row after another

module _ (look : ℕ → Option KeyValue) (q : RangeReq) (limit : ℕ) where
  -- the rows that are still to be read
  abbrev ahead : List ℕ → List KeyValue
  ahead cs = map (read q) (filter_map look cs)

  -- with the next one first
  next_ahead : (c : ℕ) (cs : List ℕ) (row : KeyValue) → option_map (read q) (look c) ≡ Some row → ahead (c ∷ cs) ≡ row ∷ ahead cs
  next_ahead c cs row e = by (look c) e
    where
      by : (o : Option KeyValue) → option_map (read q) o ≡ Some row → map (read q) (cons_option o (filter_map look cs)) ≡ row ∷ ahead cs
      by None h = let bad : ⊥ = cc in absurd bad
      by (Some x) h = let is : read q x ≡ row = cc in ap (λ y. y ∷ ahead cs) is

  -- once that is read no two tie
  pub next_apart : (held kept : List KeyValue) (c : ℕ) (cs : List ℕ) (row : KeyValue) → AreEnough q limit held kept → option_map (read q) (look c) ≡ Some row → NoneTies q (held ++ ahead (c ∷ cs)) → NoneTies q ((kept ++ row ∷ []) ++ ahead cs)
  next_apart held kept c cs row enough e apart =
      subst (NoneTies q) (sym (append_assoc kept (row ∷ []) (ahead cs))) (enough.apart (row ∷ ahead cs) (subst (λ rs. NoneTies q (held ++ rs)) (next_ahead c cs row e) apart))

  -- and the first ones stay
  pub next_first : (held kept all : List KeyValue) (c : ℕ) (cs : List ℕ) (row : KeyValue) → AreEnough q limit held kept → option_map (read q) (look c) ≡ Some row → first_of q limit (held ++ ahead (c ∷ cs)) ≡ first_of q limit all → first_of q limit ((kept ++ row ∷ []) ++ ahead cs) ≡ first_of q limit all
  next_first held kept all c cs row enough e is =
      ap (first_of q limit) (append_assoc kept (row ∷ []) (ahead cs)) ∙ enough.first (row ∷ ahead cs) ∙ ap (λ rs. first_of q limit (held ++ rs)) (sym (next_ahead c cs row e)) ∙ is
