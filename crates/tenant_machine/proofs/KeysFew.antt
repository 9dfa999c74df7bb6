-- No more keys are attached than there are rows.
use Rattle.std.proofs.Common.{◌≡◌, ℕ, zero, suc, ◌+◌, ◌≤◌, List, [], ◌∷◌, arith, length, map, refl, sym, ap, ◌∙◌, subst}
use Rattle.std.specs.Prelude.{ℤ, pos, Bool, true, false, not, cond, filter, Option, Some}
use Rattle.std.specs.List.{AllByRecursion}
use Rattle.std.specs.Ordering.{int_eq}
use Rattle.std.proofs.lemmas.Bool.{true≢false}
use Rattle.std.proofs.lemmas.Bool.Decides.{Decides-int_eq}
use Rattle.std.proofs.lemmas.List.{length-map}
use Rattle.etcd_types.specs.declared.key_value.KeyValue.{KeyValue}
use Rattle.lease_book.specs.declared.attachments.Attachment.{Attachment}
use Rattle.lease_book.specs.Attached.{HoldRows, heads_of, rows_of}
use Rattle.model_laws.proofs.AttachedLaws.{all_passing}

module _ {X : Type 0} where
  in_two : (p : X → Bool) (xs : List X) → length (filter p xs) + length (filter (λ x. not (p x)) xs) ≡ length xs
  in_two p [] = refl
  in_two p (x ∷ xs) = elim (p x) as (λ b. length (cond b (x ∷ filter p xs) (filter p xs)) + length (cond (not b) (x ∷ filter (λ x. not (p x)) xs) (filter (λ x. not (p x)) xs)) ≡ length (x ∷ xs)) [
    | true ↦ omega (arith, in_two p xs)
    | false ↦ omega (arith, in_two p xs)
  ]

  -- what passes one test is among what fails another, or fails it
  pub others_pass : (p q : X → Bool) (xs : List X) → ((x : X) → p x ≡ true → q x ≡ false) → filter p (filter (λ x. not (q x)) xs) ≡ filter p xs
  others_pass p q [] apart = refl
  others_pass p q (x ∷ xs) apart = step (p x) (q x) refl refl (others_pass p q xs apart)
    where
      step : (b c : Bool) → p x ≡ b → q x ≡ c → filter p (filter (λ x. not (q x)) xs) ≡ filter p xs → filter p (cond (not c) (x ∷ filter (λ x. not (q x)) xs) (filter (λ x. not (q x)) xs)) ≡ cond b (x ∷ filter p xs) (filter p xs)
      step b false e f rest = ap (λ a. cond a (x ∷ filter p (filter (λ x. not (q x)) xs)) (filter p (filter (λ x. not (q x)) xs))) e ∙ ap (λ ys. cond b (x ∷ ys) ys) rest
      step false true e f rest = rest
      step true true e f rest = absurd (true≢false (sym f ∙ apart x e))

  pub none_passes : (p : X → Bool) (xs : List X) → filter p (filter (λ x. not (p x)) xs) ≡ []
  none_passes p [] = refl
  none_passes p (x ∷ xs) = step (p x) refl (none_passes p xs)
    where
      step : (b : Bool) → p x ≡ b → filter p (filter (λ x. not (p x)) xs) ≡ [] → filter p (cond (not b) (x ∷ filter (λ x. not (p x)) xs) (filter (λ x. not (p x)) xs)) ≡ []
      step true e rest = rest
      step false e rest = ap (λ a. cond a (x ∷ filter p (filter (λ x. not (p x)) xs)) (filter p (filter (λ x. not (p x)) xs))) e ∙ rest

pub same : (a b : ℤ) → int_eq a b ≡ true → a ≡ b
same a b e = (Decides-int_eq a b).0 e

-- one ID is not another
pub apart : (id other : ℤ) → int_eq other id ≡ false → (a : ℤ) → int_eq a other ≡ true → int_eq a id ≡ false
apart id other differ a e = ap (λ z. int_eq z id) (same a other e) ∙ differ

module _ (row_at : ℕ → Option KeyValue) where
  pub without_one : (list : List Attachment) (rows : List KeyValue) (id : ℤ) → HoldRows row_at list rows → HoldRows row_at (filter (λ a. not (int_eq a.id id)) list) (filter (λ x. not (int_eq x.lease id)) rows)
  without_one list rows id held other used = by (int_eq other id) refl
    where
      by : (b : Bool) → int_eq other id ≡ b → map row_at (heads_of (filter (λ a. not (int_eq a.id id)) list) other) ≡ map Some (rows_of other (filter (λ x. not (int_eq x.lease id)) rows))
      by true e =
          ap (λ z. map row_at (heads_of (filter (λ a. not (int_eq a.id id)) list) z)) (same other id e)
          ∙ ap (λ (xs : List Attachment). map row_at (map (λ (a : Attachment). a.head) xs)) (none_passes (λ (a : Attachment). int_eq a.id id) list)
          ∙ sym (ap (map Some) (none_passes (λ (x : KeyValue). int_eq x.lease id) rows))
          ∙ ap (λ z. map Some (rows_of z (filter (λ x. not (int_eq x.lease id)) rows))) (sym (same other id e))
      by false e =
          ap (λ (xs : List Attachment). map row_at (map (λ (a : Attachment). a.head) xs)) (others_pass (λ (a : Attachment). int_eq a.id other) (λ (a : Attachment). int_eq a.id id) list (λ a. apart id other e a.id))
          ∙ held other used
          ∙ sym (ap (map Some) (others_pass (λ (x : KeyValue). int_eq x.lease other) (λ (x : KeyValue). int_eq x.lease id) rows (λ x. apart id other e x.lease)))

  few : (k : ℕ) (list : List Attachment) (rows : List KeyValue) → length list ≤ k → AllByRecursion (λ a. int_eq a.id (pos 0) ≡ false) list → HoldRows row_at list rows → length list ≤ length rows
  few k [] rows le named held = omega arith
  few zero (a ∷ list) rows le named held = absurd (omega (arith, le))
  few (suc k) (a ∷ list) rows le named held =
      let p : Attachment → Bool = λ x. int_eq x.id a.id in
      let q : KeyValue → Bool = λ x. int_eq x.lease a.id in
      let here : 1 ≤ length (filter p (a ∷ list)) = subst (λ b. 1 ≤ length (cond b (a ∷ filter p list) (filter p list))) (sym ((Decides-int_eq a.id a.id).1 refl)) (omega arith) in
      omega (
        arith,
        le,
        here,
        in_two p (a ∷ list),
        in_two q rows,
        ap length (held a.id named.0),
        length-map (heads_of (a ∷ list) a.id) row_at,
        length-map (filter p (a ∷ list)) (λ (x : Attachment). x.head),
        length-map (rows_of a.id rows) (λ (x : KeyValue). Some x),
        few k (filter (λ x. not (p x)) (a ∷ list)) (filter (λ x. not (q x)) rows) (omega (arith, le, here, in_two p (a ∷ list))) (all_passing (λ x. int_eq x.id (pos 0) ≡ false) (λ x. not (p x)) (a ∷ list) named) (without_one (a ∷ list) rows a.id held),
      )

  pub few_attached : (list : List Attachment) (rows : List KeyValue) → AllByRecursion (λ a. int_eq a.id (pos 0) ≡ false) list → HoldRows row_at list rows → length list ≤ length rows
  few_attached list rows named held = few (length list) list rows (omega arith) named held
