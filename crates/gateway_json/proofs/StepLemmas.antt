-- What is read of a request, part after part: its path and method, its size, its body's value, its members and fields.
use Rattle.std.proofs.Common.{◌≡◌, ◌≢◌, ℕ, Bool, true, false, List, length, Result, Ok, Err, Option, Some, None, nat_lt, if◌then◌else◌, refl, sym, subst, ap, ◌∙◌}
use Rattle.std.specs.Prelude.{codes}
use Rattle.std.specs.Option.{IfSome, ok_or}
use Rattle.std.specs.Result.{IsErrAnd}
use Rattle.std.specs.Str.{bytes_eq}
use Rattle.serde_json.specs.View.{view}
use Rattle.serde_json.specs.declared.value.Value.{Value}
use Rattle.etcd_types.specs.Limits.{max_body}
use Rattle.etcd_types.specs.declared.call.Call.{Call}
use Rattle.etcd_types.specs.declared.refusal.Refusal.{Refusal}
use Rattle.etcd_types.specs.declared.refusal.Refusal.TheVariants.{NoPath, NotPost, TooLarge, Memory}
use Rattle.etcd_types.specs.declared.step.Step.{Step}
use Rattle.etcd_model.specs.Calls.{call_of, check_fields, for_call, read_body, read_call, read_members, read_posted, read_step}
use Rattle.etcd_model.specs.Members.{IsAnswer, and_then}
use Rattle.gateway_json.specs.Taking.{TakesNone}
use Rattle.gateway_json.specs.Unread.{call_unread, oversize, not_posted, posted_unread, unknown}
use Rattle.gateway_json.proofs.TakingLemmas.{empty_takes_none}

-- a refusal that goes on as it is
pub goes_on : {T : Type 0} (r : Result T Refusal) (e : Refusal) → IsErrAnd r (λ x. x ≡ e) → r ≡ Err e
goes_on (Ok x) e is = absurd is
goes_on (Err x) e is = ap Err is

pub answer_same : (r wanted : Result Step Refusal) → r ≡ wanted → IsAnswer r wanted
answer_same (Ok x) wanted is = sym is
answer_same (Err e) wanted is = λ _. sym is

-- what is wanted is read: exactly that where the body is empty, and a refusal that needs no body before it
pub record IsRead (r wanted : Result Step Refusal) (known : Option Refusal) (body : List ℕ) : Type 0 where
  pub step : IsAnswer r wanted
  pub exact : length body ≡ 0 → r ≡ wanted
  pub unread : IfSome known (λ refusal. r ≡ Err refusal)

refused_unread : (r wanted : Result Step Refusal) (unread : Option Refusal) (body : List ℕ) (e : Refusal) → r ≡ Err e → wanted ≡ Err e → unread ≡ Some e → IsRead r wanted unread body
refused_unread r wanted unread body e given wants tells = record {
  step = answer_same r wanted (given ∙ sym wants);
  exact = λ _. given ∙ sym wants;
  unread = subst (λ o. IfSome o (λ refusal. r ≡ Err refusal)) (sym tells) given;
}

-- ---- the size, and what comes after it

abbrev size : List ℕ → Result (Unit {0}) Refusal
size body = if nat_lt max_body (length body) then Err TooLarge else Ok tt

large : (b : Bool) (x : Result Step Refusal) (e : Refusal) → Err e ≡ (if b then Err TooLarge else Ok (tt {0})) → ((if b then Err TooLarge else x) ≡ Err e) × ((if b then Some TooLarge else None) ≡ Some e)
large true x e is = let same : e ≡ TooLarge = cc in (ap Err (sym same), ap Some (sym same))
large false x e is = absurd cc

small : (b : Bool) (x : Result Step Refusal) (u : Unit {0}) → Ok u ≡ (if b then Err TooLarge else Ok tt) → ((if b then Err TooLarge else x) ≡ x) × ((if b then Some TooLarge else None) ≡ None)
small true x u is = absurd cc
small false x u is = (refl, refl)

module _ (c : Call) (body : List ℕ) where
  -- the step of a body of which no more is known than that it is not too large
  abbrev pub within : Result Step Refusal
  within = and_then (and_then (read_body body) (read_members c)) check_fields

  pub size_refused : (sized : Result (Unit {0}) Refusal) (e : Refusal) (r : Result Step Refusal) → sized ≡ size body → sized ≡ Err e → r ≡ Err e → IsRead r (read_step c body) (oversize body) body
  unfolding read_step
  size_refused sized e r is err given =
      let both = large (nat_lt max_body (length body)) within e (sym err ∙ is) in
      refused_unread r (read_step c body) (oversize body) body e given both.0 both.1

  pub size_taken : (sized : Result (Unit {0}) Refusal) (u : Unit {0}) (r : Result Step Refusal) → sized ≡ size body → sized ≡ Ok u → IsAnswer r within × (length body ≡ 0 → r ≡ within) → IsRead r (read_step c body) (oversize body) body
  unfolding read_step
  size_taken sized u r is ok after =
      let both = small (nat_lt max_body (length body)) within u (sym ok ∙ is) in
      record {
        step = subst (λ w. IsAnswer r w) (sym both.0) after.0;
        exact = λ none. after.1 none ∙ sym both.0;
        unread = subst (λ o. IfSome o (λ refusal. r ≡ Err refusal)) (sym both.1) tt;
      }

  pub body_refused : (e : Refusal) (r : Result Step Refusal) → (e ≢ Memory → read_body body ≡ Err e) → (length body ≡ 0 → Err e ≡ read_body body) → r ≡ Err e → IsAnswer r within × (length body ≡ 0 → r ≡ within)
  body_refused e r refused exact given = subst (λ q. IsAnswer q within × (length body ≡ 0 → q ≡ within)) (sym given) (
    λ other. ap (λ b. and_then (and_then b (read_members c)) check_fields) (refused other),
    λ none. ap (λ b. and_then (and_then b (read_members c)) check_fields) (exact none),
  )

  pub members_refused : (v : Value) (e : Refusal) (r : Result Step Refusal) → read_body body ≡ Ok (view v) → (e ≢ Memory → read_members c (view v) ≡ Err e) → (TakesNone c (view v) → Err e ≡ read_members c (view v)) → r ≡ Err e → IsAnswer r within × (length body ≡ 0 → r ≡ within)
  members_refused v e r reads refused exact given =
      let from : within ≡ and_then (read_members c (view v)) check_fields = ap (λ b. and_then (and_then b (read_members c)) check_fields) reads in
      subst (λ q. IsAnswer q within × (length body ≡ 0 → q ≡ within)) (sym given) (
        λ other. from ∙ ap (λ m. and_then m check_fields) (refused other),
        λ none. ap (λ m. and_then m check_fields) (exact (empty_takes_none c body v none reads)) ∙ sym from,
      )

  pub fields_checked : (v : Value) (s : Step) (r : Result Step Refusal) → read_body body ≡ Ok (view v) → read_members c (view v) ≡ Ok s → r ≡ check_fields s → IsAnswer r within × (length body ≡ 0 → r ≡ within)
  fields_checked v s r reads is given =
      let same : r ≡ within = given ∙ sym (ap (λ b. and_then (and_then b (read_members c)) check_fields) reads ∙ ap (λ m. and_then m check_fields) is) in
      (answer_same r within same, λ _. same)

-- ---- the path and the method, which go before the size

no_path : (o : Option Call) (e : Refusal) (f : Call → Result Step Refusal) (u : Option Refusal) → Err e ≡ ok_or o NoPath → (for_call o f ≡ Err e) × (unknown o u ≡ Some e)
no_path None e f u is = let same : e ≡ NoPath = cc in (ap Err (sym same), ap Some (sym same))
no_path (Some c) e f u is = absurd cc

a_path : (o : Option Call) (c : Call) → Ok c ≡ ok_or o NoPath → o ≡ Some c
a_path None c is = absurd cc
a_path (Some x) c is = cc

module _ (path body : List ℕ) (known : Result Call Refusal) (is : known ≡ ok_or (call_of path) NoPath) where
  refused_path : (e : Refusal) (r : Result Step Refusal) (f : Call → Result Step Refusal) (u : Option Refusal) → known ≡ Err e → r ≡ Err e → IsRead r (for_call (call_of path) f) (unknown (call_of path) u) body
  refused_path e r f u err given =
      let both = no_path (call_of path) e f u (sym err ∙ is) in
      refused_unread r (for_call (call_of path) f) (unknown (call_of path) u) body e given both.0 both.1

  taken_path : (c : Call) (r : Result Step Refusal) (f : Call → Result Step Refusal) (u : Option Refusal) → known ≡ Ok c → IsRead r (f c) u body → IsRead r (for_call (call_of path) f) (unknown (call_of path) u) body
  taken_path c r f u ok after =
      subst (λ o. IsRead r (for_call o f) (unknown o u) body) (sym (a_path (call_of path) c (sym ok ∙ is))) after

  pub call_refused : (e : Refusal) (r : Result Step Refusal) → known ≡ Err e → r ≡ Err e → IsRead r (read_call path body) (call_unread path body) body
  unfolding read_call
  call_refused e r = refused_path e r (λ c. read_step c body) (oversize body)

  pub call_taken : (c : Call) (r : Result Step Refusal) → known ≡ Ok c → IsRead r (read_step c body) (oversize body) body → IsRead r (read_call path body) (call_unread path body) body
  unfolding read_call
  call_taken c r = taken_path c r (λ c. read_step c body) (oversize body)

  module _ (method : List ℕ) where
    abbrev by_method : Bool → Call → Result Step Refusal
    by_method b c = if b then read_step c body else Err NotPost

    pub posted_refused : (e : Refusal) (r : Result Step Refusal) → known ≡ Err e → r ≡ Err e → IsRead r (read_posted method path body) (posted_unread method path body) body
    posted_refused e r = refused_path e r (by_method (bytes_eq method (codes "POST"))) (not_posted method (oversize body))

    not_posted_read : (b : Bool) (c : Call) → b ≡ false → IsRead (Err NotPost) (by_method b c) (if b then oversize body else Some NotPost) body
    not_posted_read true c is = absurd cc
    not_posted_read false c is = refused_unread (Err NotPost) (Err NotPost) (Some NotPost) body NotPost refl refl refl

    posted_read : (b : Bool) (c : Call) (r : Result Step Refusal) → b ≡ true → IsRead r (read_step c body) (oversize body) body → IsRead r (by_method b c) (if b then oversize body else Some NotPost) body
    posted_read true c r is after = after
    posted_read false c r is after = absurd cc

    pub other_method : (c : Call) → known ≡ Ok c → bytes_eq method (codes "POST") ≡ false → IsRead (Err NotPost) (read_posted method path body) (posted_unread method path body) body
    other_method c ok other =
        taken_path c (Err NotPost) (by_method (bytes_eq method (codes "POST"))) (not_posted method (oversize body)) ok (not_posted_read (bytes_eq method (codes "POST")) c other)

    pub posted_taken : (c : Call) (r : Result Step Refusal) → known ≡ Ok c → bytes_eq method (codes "POST") ≡ true → IsRead r (read_step c body) (oversize body) body → IsRead r (read_posted method path body) (posted_unread method path body) body
    posted_taken c r ok post after =
        taken_path c r (by_method (bytes_eq method (codes "POST"))) (not_posted method (oversize body)) ok (posted_read (bytes_eq method (codes "POST")) c r post after)
