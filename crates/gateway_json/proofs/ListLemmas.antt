-- The elements of a list, one after another.
use Rattle.std.specs.Result.{IsErr}
use Rattle.std.proofs.Common.{◌≡◌, ℕ, ◌+◌, ◌<◌, List, [], ◌∷◌, ◌++◌, length, drop, get_or, Result, Ok, Err, refl, ap, sym, ◌∙◌, drop-cons, add-one, append_assoc, append-nil, arith}
use Rattle.std.proofs.lemmas.Bool.{true≢false}
use Rattle.serde_json.specs.Data.{Data}
use Rattle.serde_json.specs.View.{view, items_view}
use Rattle.serde_json.specs.declared.value.Value.{Value}
use Rattle.etcd_types.specs.declared.refusal.Refusal.{Refusal}
use Rattle.etcd_model.specs.Members.{and_then, read_elements}
use Rattle.gateway_json.specs.Taking.{IsFirstRefused}

-- what was read before, and then the rest
abbrev pub after_read : {T : Type 0} → List T → Result (List T) Refusal → Result (List T) Refusal
after_read done r = and_then r (λ xs. Ok (done ++ xs))

module _ {T : Type 0} (element : Data → Result T Refusal) where
  abbrev rest : List Value → ℕ → Result (List T) Refusal
  rest vs i = read_elements element (items_view (drop i vs))

  split : (vs : List Value) (i : ℕ) (v : Value) → i < length vs → v ≡ get_or vs i v → rest vs i ≡ and_then (element (view v)) (λ x. and_then (rest vs (i + 1)) (λ xs. Ok (x ∷ xs)))
  split vs i v h is = rw (drop-cons vs i v h, ← is, add-one) refl

  moved : (done : List T) (x : T) (r : Result (List T) Refusal) → after_read done (and_then r (λ xs. Ok (x ∷ xs))) ≡ after_read (done ++ x ∷ []) r
  moved done x (Ok xs) = ap Ok (sym (append_assoc done (x ∷ []) xs))
  moved done x (Err e) = refl

  pub element_read : (vs : List Value) (i : ℕ) (v : Value) (x : T) (done : List T) (whole : Result (List T) Refusal) → i < length vs → v ≡ get_or vs i v → element (view v) ≡ Ok x
      → whole ≡ after_read done (rest vs i) → whole ≡ after_read (done ++ x ∷ []) (rest vs (i + 1))
  element_read vs i v x done whole h is reads before = before ∙ ap (after_read done) (split vs i v h is) ∙ rw reads (moved done x (rest vs (i + 1)))

  pub element_refused : (vs : List Value) (i : ℕ) (v : Value) (e : Refusal) (done : List T) (whole : Result (List T) Refusal) → i < length vs → v ≡ get_or vs i v → element (view v) ≡ Err e
      → whole ≡ after_read done (rest vs i) → whole ≡ Err e
  element_refused vs i v e done whole h is reads before = before ∙ ap (after_read done) (split vs i v h is) ∙ rw reads refl

  pub all_read : (done : List T) (whole : Result (List T) Refusal) → whole ≡ after_read done (Ok []) → whole ≡ Ok done
  all_read done whole before = before ∙ ap Ok (append-nil done)

-- The first element is refused, if that is asked of the list: so no element is read, and none after it is come to.
module _ {T : Type 0} (element : Data → Result T Refusal) (TakesNone : Data → Type 0) where
  head_refused : (vs : List Value) (v : Value) → 0 < length vs → v ≡ get_or vs 0 v → IsFirstRefused element TakesNone (items_view vs) → TakesNone (view v) × IsErr (element (view v))
  head_refused [] v h is refused = absurd (omega arith)
  head_refused (w ∷ vs) v h is refused = rw is refused

  abbrev pub IsAtFirst : List Value → ℕ → Type 0
  IsAtFirst vs i = IsFirstRefused element TakesNone (items_view vs) → i ≡ 0

  first_refused : (vs : List Value) (i : ℕ) (v : Value) → i < length vs → v ≡ get_or vs i v → IsAtFirst vs i → IsFirstRefused element TakesNone (items_view vs) → TakesNone (view v) × IsErr (element (view v))
  first_refused vs i v h is at refused =
      let first : i ≡ 0 = at refused in head_refused vs v (rw first at h) (rw first at is) refused

  pub none_read : (vs : List Value) (i : ℕ) (v : Value) (x : T) → i < length vs → v ≡ get_or vs i v → IsAtFirst vs i → element (view v) ≡ Ok x → IsFirstRefused element TakesNone (items_view vs) → ⊥
  none_read vs i v x h is at reads refused =
      let both = first_refused vs i v h is at refused in let failed : IsErr (element (view v)) = both.1 in true≢false (sym (rw reads at failed))

  pub exactly_refused : (vs : List Value) (i : ℕ) (v : Value) (e : Refusal) (done : List T) → i < length vs → v ≡ get_or vs i v → (TakesNone (view v) → Err e ≡ element (view v)) → IsAtFirst vs i
      → read_elements element (items_view vs) ≡ after_read done (rest element vs i) → IsFirstRefused element TakesNone (items_view vs) → Err e ≡ read_elements element (items_view vs)
  exactly_refused vs i v e done h is exact at before refused =
      let both = first_refused vs i v h is at refused in
      sym (element_refused element vs i v e done (read_elements element (items_view vs)) h is (sym (exact both.0)) before)

pub ruleset elements_are = (element_read, element_refused, all_read, none_read)
