-- The rows under some cells.
use Rattle.std.proofs.Common.{◌≡◌, ℕ, zero, suc, List, [], ◌∷◌, length, take, map, Option, Some, None, IsSome, Bool, true, false, refl, sym, ap, ◌∙◌, cond, arith}
use Rattle.std.specs.Prelude.{◌&&◌, ◌||◌, pos, int_le, filter, filter_map, option_map}
use Rattle.std.specs.List.{AllByRecursion, cons_option}
use Rattle.std.specs.Ordering.{int_eq}
use Rattle.std.proofs.lemmas.Bool.{true≢false}
use Rattle.etcd_types.specs.declared.key_value.KeyValue.{KeyValue}
use Rattle.etcd_types.specs.declared.kv.RangeReq.{RangeReq}
use Rattle.std.specs.List.Sorted.{IsStrictlySortedBy}
use Rattle.etcd_model.specs.Ranges.{is_wanted}
use Rattle.etcd_model.specs.Order.{by_key}
use Rattle.range_rows.specs.Answering.{IsLimit, given, is_by_key, wants_all}
use Rattle.range_rows.specs.Reading.{AllAreGiven, row_passes}
use Rattle.range_rows.proofs.AnsweringLaws.{given_whole}

-- what holds of all elements holds of those that pass a test
pub all_kept : {X : Type 0} (P : X → Type 0) (p : X → Bool) (xs : List X) → AllByRecursion P xs → AllByRecursion P (filter p xs)
all_kept P p [] h = tt
all_kept P p (x ∷ xs) h = elim (p x) as (λ b. AllByRecursion P (cond b (x ∷ filter p xs) (filter p xs))) [ true ↦ (h.0, all_kept P p xs h.1) | false ↦ all_kept P p xs h.1 ]

-- ---- where each has one

module _ {X : Type 0} (look : ℕ → Option X) where
  abbrev pub AllShow : List ℕ → Type 0
  AllShow cs = AllByRecursion (λ c. IsSome (look c)) cs

  pub filter_map-is : (cs : List ℕ) (xs : List X) → map Some xs ≡ map look cs → xs ≡ filter_map look cs
  filter_map-is [] [] h = refl
  filter_map-is [] (x ∷ xs) h = let bad : ⊥ = cc in absurd bad
  filter_map-is (c ∷ cs) [] h = let bad : ⊥ = cc in absurd bad
  filter_map-is (c ∷ cs) (x ∷ xs) h =
      let first : look c ≡ Some x = cc in
      let rest : map Some xs ≡ map look cs = cc in
      ap (λ ys. x ∷ ys) (filter_map-is cs xs rest) ∙ sym (ap (λ o. cons_option o (filter_map look cs)) first)

  pub all_show : (cs : List ℕ) (xs : List X) → map Some xs ≡ map look cs → AllShow cs
  all_show [] xs h = tt
  all_show (c ∷ cs) [] h = let bad : ⊥ = cc in absurd bad
  all_show (c ∷ cs) (x ∷ xs) h =
      let first : Some x ≡ look c = cc in
      let rest : map Some xs ≡ map look cs = cc in
      (rw (← first) refl, all_show cs xs rest)

  pub length-filter_map : (cs : List ℕ) → AllShow cs → length (filter_map look cs) ≡ length cs
  length-filter_map [] all = refl
  length-filter_map (c ∷ cs) all = by (look c) all.0 ∙ ap suc (length-filter_map cs all.1)
    where
      by : (o : Option X) → IsSome o → length (cons_option o (filter_map look cs)) ≡ suc (length (filter_map look cs))
      by None h = let bad : ⊥ = cc in absurd bad
      by (Some x) h = refl

  pub filter_map-take : (n : ℕ) (cs : List ℕ) → AllShow cs → filter_map look (take n cs) ≡ take n (filter_map look cs)
  filter_map-take zero cs all = refl
  filter_map-take (suc n) [] all = refl
  filter_map-take (suc n) (c ∷ cs) all = ap (cons_option (look c)) (filter_map-take n cs all.1) ∙ by (look c) all.0
    where
      by : (o : Option X) → IsSome o → cons_option o (take n (filter_map look cs)) ≡ take (suc n) (cons_option o (filter_map look cs))
      by None h = let bad : ⊥ = cc in absurd bad
      by (Some x) h = refl

  -- what is made of each
  pub filter_map-option_map : (f : X → X) (cs : List ℕ) → filter_map (λ c. option_map f (look c)) cs ≡ map f (filter_map look cs)
  filter_map-option_map f [] = refl
  filter_map-option_map f (c ∷ cs) = ap (cons_option (option_map f (look c))) (filter_map-option_map f cs) ∙ by (look c)
    where
      by : (o : Option X) → cons_option (option_map f o) (map f (filter_map look cs)) ≡ map f (cons_option o (filter_map look cs))
      by None = refl
      by (Some x) = refl

-- ---- those that pass the filters

pub wanted_rows : (look : ℕ → Option KeyValue) (q : RangeReq) (cs : List ℕ) → filter_map look (filter (λ c. row_passes q (look c)) cs) ≡ filter (is_wanted q) (filter_map look cs)
wanted_rows look q [] = refl
wanted_rows look q (c ∷ cs) =
    kept (row_passes q (look c)) ∙ ap (λ rows. cond (row_passes q (look c)) (cons_option (look c) rows) rows) (wanted_rows look q cs) ∙ by (look c)
  where
    kept : (b : Bool) → filter_map look (cond b (c ∷ filter (λ d. row_passes q (look d)) cs) (filter (λ d. row_passes q (look d)) cs))
        ≡ cond b (cons_option (look c) (filter_map look (filter (λ d. row_passes q (look d)) cs))) (filter_map look (filter (λ d. row_passes q (look d)) cs))
    kept true = refl
    kept false = refl

    by : (o : Option KeyValue) → cond (row_passes q o) (cons_option o (filter (is_wanted q) (filter_map look cs))) (filter (is_wanted q) (filter_map look cs)) ≡ filter (is_wanted q) (cons_option o (filter_map look cs))
    by None = refl
    by (Some row) = refl

-- with no filter all do
any_row : (q : RangeReq) (row : KeyValue) → wants_all q ≡ true → is_wanted q row ≡ true
any_row q row h =
    no_bound (int_eq q.min_mod_revision (pos 0)) (int_eq q.max_mod_revision (pos 0)) (int_eq q.min_create_revision (pos 0)) (int_eq q.max_create_revision (pos 0))
    (int_le q.min_mod_revision (pos row.mod_revision)) (int_le (pos row.mod_revision) q.max_mod_revision) (int_le q.min_create_revision (pos row.create_revision)) (int_le (pos row.create_revision) q.max_create_revision) h
  where
    no_bound : (a b c d w x y z : Bool) → (a && b && c && d) ≡ true → (((a || w) && (b || x)) && ((c || y) && (d || z))) ≡ true
    no_bound true true true true w x y z e = refl
    no_bound true true true false w x y z e = absurd (true≢false (sym e))
    no_bound true true false d w x y z e = absurd (true≢false (sym e))
    no_bound true false c d w x y z e = absurd (true≢false (sym e))
    no_bound false b c d w x y z e = absurd (true≢false (sym e))

pub all_wanted : (q : RangeReq) (rows : List KeyValue) → wants_all q ≡ true → filter (is_wanted q) rows ≡ rows
all_wanted q [] h = refl
all_wanted q (row ∷ rows) h = ap (λ b. cond b (row ∷ filter (is_wanted q) rows) (filter (is_wanted q) rows)) (any_row q row h) ∙ ap (λ rs. row ∷ rs) (all_wanted q rows h)

pub all_pass : (look : ℕ → Option KeyValue) (q : RangeReq) (cs : List ℕ) → AllShow look cs → wants_all q ≡ true → filter (λ c. row_passes q (look c)) cs ≡ cs
all_pass look q [] all h = refl
all_pass look q (c ∷ cs) all h = ap (λ b. cond b (c ∷ filter (λ d. row_passes q (look d)) cs) (filter (λ d. row_passes q (look d)) cs)) (by (look c) all.0) ∙ ap (λ ds. c ∷ ds) (all_pass look q cs all.1 h)
  where
    by : (o : Option KeyValue) → IsSome o → row_passes q o ≡ true
    by None e = let bad : ⊥ = cc in absurd bad
    by (Some row) e = any_row q row h

-- ---- those that are read

-- in the order of keys each of the first ones is given
pub first_are_given : (look : ℕ → Option KeyValue) (q : RangeReq) (cs : List ℕ) (n : ℕ) → AllShow look cs → IsStrictlySortedBy by_key (filter_map look cs) → is_by_key q ≡ true → IsLimit q (length cs) n → AllAreGiven q (filter_map look (take n cs))
first_are_given look q cs n all up by limit = λ first.
    ap (λ rows. length (given q rows)) (filter_map-take look n cs all)
    ∙ given_whole q (filter_map look cs) (length cs) n by up limit (omega (arith, length-filter_map look cs all))
    ∙ sym (ap length (filter_map-take look n cs all))
