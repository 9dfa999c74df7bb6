-- What a body is read as that has a key and at most one text beside it.
use Rattle.std.proofs.Common.{◌≡◌, ◌≢◌, ◌∙◌, sym, ap, subst, refl, ℕ, List, length, false, Option, Some, None, Result, Ok, Err, option_map, ◌==◌}
use Rattle.std.specs.Prelude.{option_and_then, IsUtf8, MatchResult, if◌then◌else◌, nat_lt}
use Rattle.std.specs.Result.{result_ok}
use Rattle.std.proofs.lemmas.Option.{none-some, same_Some}
use Rattle.json.specs.Json.{if_last, items, members, value}
use Rattle.json.specs.Lex.{tokens}
use Rattle.serde_json.specs.Data.{Data, string}
use Rattle.serde_json.specs.Read.{max_depth, of_json, read}
use Rattle.etcd_types.specs.declared.refusal.Refusal.{Refusal}
use Rattle.etcd_types.specs.declared.refusal.Refusal.TheVariants.{Memory, TooLarge}
use Rattle.etcd_types.specs.declared.step.Step.{Step}
use Rattle.etcd_types.specs.Limits.{max_body}
use Rattle.etcd_types.specs.declared.call.Call.{Call}
use Rattle.etcd_model.specs.Calls.{check_fields, read_body, read_members, read_step}
use Rattle.etcd_model.specs.Members.{IsAnswer, and_then, member_of, read_bytes, read_choice, read_flag, read_signed}
use Rattle.etcd_model.specs.Requests.{read_delete, read_put, read_range}
use Rattle.etcd_types.specs.declared.step.Step.TheVariants as step
use Rattle.gateway_json.specs.Pairs.{call_of, delete_of, name_beside, pair_object, pair_tokens, put_of, range_of, step_of}
use Rattle.gateway_json.specs.declared.pair.PairCall.{PairCall}
use Rattle.gateway_json.specs.declared.pair.PairCall.TheVariants.{Put, Range, Delete}
use Rattle.gateway_json.proofs.BodyLemmas.{body_value_read}
use Rattle.gateway_json.proofs.StepLemmas.{answer_same}

-- ---- the body

-- the value of its tokens
pair_read : (text name key : List ℕ) (beside : Option (List ℕ)) → tokens text ≡ pair_tokens name key beside → read text ≡ Some (pair_object name key beside)
unfolding value members items
pair_read text name key None is = ap (λ ts. option_and_then of_json (option_and_then (λ p. if_last p.0 p.1) (value max_depth ts))) is
pair_read text name key (Some t) is = ap (λ ts. option_and_then of_json (option_and_then (λ p. if_last p.0 p.1) (value max_depth ts))) is

-- its object
pub pair_body : (body name key : List ℕ) (beside : Option (List ℕ)) → (length body == 0) ≡ false → IsUtf8 body → tokens body ≡ pair_tokens name key beside → read_body body ≡ Ok (pair_object name key beside)
unfolding read_body
pair_body body name key None some text is = rw (body_value_read body (pair_object name key None) some text (pair_read body name key None is)) refl
pair_body body name key (Some t) some text is = rw (body_value_read body (pair_object name key (Some t)) some text (pair_read body name key (Some t) is)) refl

-- ---- its members

-- one after the other, and then the step of both
both_then : {A : Type 0} (of : List ℕ → List ℕ → A) (step : A → Step) (ks bs : Result (List ℕ) Refusal)
    → and_then (and_then ks (λ k. and_then bs (λ b. Ok (of k b)))) (λ a. Ok (step a)) ≡ and_then ks (λ k. and_then bs (λ b. Ok (step (of k b))))
both_then of step (Err e) bs = refl
both_then of step (Ok k) (Err e) = refl
both_then of step (Ok k) (Ok b) = refl

module _ (call : PairCall) (key : List ℕ) (beside : Option (List ℕ)) where
  abbrev wanted : Result Step Refusal
  wanted = read_members (call_of call) (pair_object (name_beside call) key beside)

  abbrev keys : Result (List ℕ) Refusal
  keys = read_bytes (Some (string key))

  abbrev texts : Result (List ℕ) Refusal
  texts = read_bytes (option_map string beside)

members_read : (call : PairCall) (key : List ℕ) (beside : Option (List ℕ)) → wanted call key beside ≡ and_then (keys call key beside) (λ k. and_then (texts call key beside) (λ b. Ok (step_of call k b)))
unfolding read_members read_put read_range read_delete member_of read_signed read_flag read_choice
members_read Put key None = both_then (λ k b. put_of k b) step.Put (keys Put key None) (texts Put key None)
members_read Put key (Some t) = both_then (λ k b. put_of k b) step.Put (keys Put key (Some t)) (texts Put key (Some t))
members_read Range key None = both_then range_of step.Range (keys Range key None) (texts Range key None)
members_read Range key (Some t) = both_then range_of step.Range (keys Range key (Some t)) (texts Range key (Some t))
members_read Delete key None = both_then delete_of step.Delete (keys Delete key None) (texts Delete key None)
members_read Delete key (Some t) = both_then delete_of step.Delete (keys Delete key (Some t)) (texts Delete key (Some t))

module _ (call : PairCall) (key : List ℕ) (beside : Option (List ℕ)) where
  abbrev wants : Result Step Refusal
  wants = wanted call key beside

  -- the key is refused
  pub key_refused : (e : Refusal) (r : Result Step Refusal) → (e ≢ Memory → keys call key beside ≡ Err e) → r ≡ Err e → IsAnswer r wants
  key_refused e r refused given = subst (λ q. IsAnswer q wants) (sym given) (λ other.
      members_read call key beside ∙ ap (λ ks. and_then ks (λ k. and_then (texts call key beside) (λ b. Ok (step_of call k b)))) (refused other))

  -- what stands beside it is
  pub beside_refused : (k : List ℕ) (e : Refusal) (r : Result Step Refusal) → keys call key beside ≡ Ok k → (e ≢ Memory → texts call key beside ≡ Err e) → r ≡ Err e → IsAnswer r wants
  beside_refused k e r is refused given = subst (λ q. IsAnswer q wants) (sym given) (λ other.
      members_read call key beside
      ∙ ap (λ ks. and_then ks (λ x. and_then (texts call key beside) (λ b. Ok (step_of call x b)))) is
      ∙ ap (λ bs. and_then bs (λ b. Ok (step_of call k b))) (refused other))

  -- both are read
  pub both_read : (k b : List ℕ) → keys call key beside ≡ Ok k → texts call key beside ≡ Ok b → wants ≡ Ok (step_of call k b)
  both_read k b is other =
      members_read call key beside
      ∙ ap (λ ks. and_then ks (λ x. and_then (texts call key beside) (λ y. Ok (step_of call x y)))) is
      ∙ ap (λ bs. and_then bs (λ y. Ok (step_of call k y))) other

-- ---- its step

-- what was taken
pub text_taken : {T E : Type 0} (P : T → Type 0) (Q : E → Type 0) (r : Result T E) (t : T) → MatchResult r P Q → result_ok r ≡ Some t → P t
text_taken P Q (Ok x) t h is = subst P (same_Some x t is) h
text_taken P Q (Err e) t h is = absurd (none-some t is)

-- its members are those of the body
pub of_body : (call : Call) (body : List ℕ) (d : Data) (r : Result Step Refusal) → read_body body ≡ Ok d → IsAnswer r (read_members call d) → IsAnswer r (and_then (read_body body) (read_members call))
of_body call body d r reads answers = subst (λ w. IsAnswer r w) (sym (ap (λ b. and_then b (read_members call)) reads)) answers

module _ (call : Call) (body : List ℕ) (few : nat_lt max_body (length body) ≡ false) where
  abbrev asked : Result Step Refusal
  asked = and_then (read_body body) (read_members call)

  whole : read_step call body ≡ and_then asked check_fields
  unfolding read_step
  whole = ap (λ b. if b then Err TooLarge else and_then asked check_fields) few

  -- it is refused
  pub step_refused : (read : Result Step Refusal) (e : Refusal) (r : Result Step Refusal) → IsAnswer read asked → read ≡ Err e → r ≡ Err e → IsAnswer r (read_step call body)
  step_refused read e r answers is given =
      let refused : e ≢ Memory → asked ≡ Err e = subst (λ q. IsAnswer q asked) is answers in
      subst (λ q. IsAnswer q (read_step call body)) (sym given) (λ other. whole ∙ ap (λ q. and_then q check_fields) (refused other))

  -- its fields are looked at
  pub step_checked : (read : Result Step Refusal) (s : Step) (r : Result Step Refusal) → IsAnswer read asked → read ≡ Ok s → r ≡ check_fields s → IsAnswer r (read_step call body)
  step_checked read s r answers is given =
      let reads : asked ≡ Ok s = subst (λ q. IsAnswer q asked) is answers in
      answer_same r (read_step call body) (given ∙ sym (whole ∙ ap (λ q. and_then q check_fields) reads))
