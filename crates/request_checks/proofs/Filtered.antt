-- What passes a test after `filter_map`.
use Rattle.std.proofs.Common.{◌≡◌, sym, Bool, true, false, ◌||◌, ◌∙◌, List, [], ◌∷◌, refl, ap, Option, Some, None}
use Rattle.std.specs.List.{list_any, filter_map, cons_option}
use Rattle.std.specs.Option.{option_map_or}
use Rattle.std.proofs.lemmas.Grind.{common_steps}
use Rattle.etcd_types.specs.declared.txn.Op.{Op}
use Rattle.etcd_model.specs.Fields.{deletes, op_delete, op_put, puts}
use Rattle.etcd_model.specs.Interval.{is_in}
use Rattle.request_checks.specs.Branch.{any_delete, any_put}

-- a test passes something that `filter_map` keeps where it passes what some item gives
pub any_filtered : {X Y : Type 0} (test : Y → Bool) (h : X → Option Y) (xs : List X) → list_any test (filter_map h xs) ≡ list_any (λ x. option_map_or test (h x) false) xs
any_filtered test h [] = refl
any_filtered test h (x ∷ xs) = elim (h x) as (λ o. list_any test (cons_option o (filter_map h xs)) ≡ (option_map_or test o false || list_any (λ x. option_map_or test (h x) false) xs))
    [ None ↦ any_filtered test h xs | Some y ↦ ap (λ b. test y || b) (any_filtered test h xs) ]

-- ---- some of one list and some of another pass together, whichever is looked for first

any_of_two : {X : Type 0} (f g : X → Bool) (xs : List X) → list_any (λ x. f x || g x) xs ≡ (list_any f xs || list_any g xs)
any_of_two f g [] = refl
any_of_two f g (x ∷ xs) = ap (λ b. (f x || g x) || b) (any_of_two f g xs) ∙ regroup (f x) (g x) (list_any f xs) (list_any g xs)
  where
    regroup : (a b c d : Bool) → ((a || b) || (c || d)) ≡ ((a || c) || (b || d))
    regroup true b c d = refl
    regroup false true true d = refl
    regroup false true false d = refl
    regroup false false c d = refl

any_of_none : {X : Type 0} (xs : List X) → list_any (λ x. false) xs ≡ false
any_of_none [] = refl
any_of_none (x ∷ xs) = any_of_none xs

either_first : {X Y : Type 0} (test : X → Y → Bool) (xs : List X) (ys : List Y) → list_any (λ x. list_any (test x) ys) xs ≡ list_any (λ y. list_any (λ x. test x y) xs) ys
either_first test xs [] = any_of_none xs
either_first test xs (y ∷ ys) =
    any_of_two (λ x. test x y) (λ x. list_any (test x) ys) xs ∙ ap (λ b. list_any (λ x. test x y) xs || b) (either_first test xs ys)

any_same : {X : Type 0} (f g : X → Bool) → ((x : X) → f x ≡ g x) → (xs : List X) → list_any f xs ≡ list_any g xs
any_same f g same [] = refl
any_same f g same (x ∷ xs) = rw (same x, any_same f g same xs) refl

-- a key is put and deleted, looked for from the deletes
pub deleted : (ops : List Op) → any_delete (λ d. any_put (λ p. is_in d.key d.range_end p.key) ops) ops ≡ list_any (λ p. list_any (λ d. is_in d.key d.range_end p.key) (deletes ops)) (puts ops)
deleted ops =
    sym (any_filtered (λ d. any_put (λ p. is_in d.key d.range_end p.key) ops) op_delete ops)
    ∙ any_same (λ d. any_put (λ p. is_in d.key d.range_end p.key) ops) (λ d. list_any (λ p. is_in d.key d.range_end p.key) (puts ops)) (λ d. sym (any_filtered (λ p. is_in d.key d.range_end p.key) op_put ops)) (deletes ops)
    ∙ sym (either_first (λ p d. is_in d.key d.range_end p.key) (puts ops) (deletes ops))

-- the usual steps, and tests after `filter_map`
pub ruleset filtered = (common_steps, any_filtered)
