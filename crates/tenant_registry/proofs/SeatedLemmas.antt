-- What a server's thread is told is what the registry's receipt has.
use Rattle.std.specs.Prelude.{ℤ, Option, Some, None}
use Rattle.std.proofs.Common.{◌≡◌, ◌∙◌, ◌+◌, ◌-◌, ◌^◌, ◌<◌, ◌≤◌, ◌⊎◌, inl, inr, ap, refl, min, ℕ, List, [], ◌∷◌, ◌++◌, length, length-append, map, append_assoc, sym, arith}
use Rattle.std.proofs.lemmas.List.{map-append}
use Rattle.std.proofs.Math.Nat.{min-eq_left}
use Rattle.std.proofs.lemmas.Bool.{cases_lt}
use Rattle.etcd_types.specs.declared.step.Step.{Step}
use Rattle.etcd_model.specs.Machine.{machine}
use Rattle.tenant_audit.specs.declared.tally.MadeCall.{MadeCall}
use Rattle.tenant_audit.specs.declared.audit.Opening.{Opening}
use Rattle.tenant_audit.specs.Receipts.{Slip}
use Rattle.tenant_audit.specs.Seats.{SeatState, Keeps, KeepsLists, calls_on, missed_on}
use Rattle.tenant_calls.specs.Answers.{IsRevision, IsTold}
use Rattle.tenant_calls.specs.Counts.{IsNoMore, IsOneMore}
use Rattle.tenant_registry.specs.Counting.{calls_counted}
use Rattle.tenant_registry.specs.Serving.{IsReceipt, IsRevisionOf}

pub told_of : (opening : Opening) (seat : ℕ) (step : Step) (slip : Slip) → IsReceipt opening seat step slip → IsTold opening.number step slip
told_of opening seat step slip i = record {
  asked = ap (λ s. s.step) i.text;
  reply = (machine i.state step).reply;
  is = record { log = i.log; state = i.state; tenant = ap (λ o. o.number) i.tenant; leads = i.leads; is = refl };
  told = record {
    status = ap (λ s. s.status) i.text;
    body = ap (λ s. s.body) i.text;
    slot = ap (λ s. s.slot) i.text;
    canceled = ap (λ s. s.canceled) i.text;
    refusal = ap (λ s. s.refusal) i.text;
  };
}

pub revision_of : (opening : Opening) (revision : ℤ) → IsRevisionOf opening revision → IsRevision opening.number revision
revision_of opening revision i = record { log = i.log; state = i.is.state; tenant = ap (λ o. o.number) i.tenant; leads = i.is.leads; is = i.is.is }

-- ---- counts

count_of_one : (n m : ℕ) (xs ys : List MadeCall) (c : MadeCall) → ys ≡ xs ++ c ∷ [] → m ≡ n → length ys + m ≡ length xs + n + 1
count_of_one n m xs ys c grew same =
    let grown : length ys ≡ length xs + 1 = ap (λ l. length l) grew ∙ length-append xs (c ∷ [])
    in omega (arith, grown, same)

counted_or_full : (n m k l : ℕ) → l ≡ k → m ≡ min (n + 1) (2 ^ 64 - 1) → (2 ^ 64 - 1 < n + 1) ⊎ (n + 1 ≤ 2 ^ 64 - 1) → (l + m ≡ k + n + 1) ⊎ (2 ^ 64 ≤ k + n + 1)
counted_or_full n m k l same grew (inl over) = inr (omega (arith, over))
counted_or_full n m k l same grew (inr fits) =
    let one : m ≡ n + 1 = grew ∙ min-eq_left fits
    in inl (omega (arith, same, one))

missed_or_full : (n m k l : ℕ) → l ≡ k → m ≡ min (n + 1) (2 ^ 64 - 1) → (l + m ≡ k + n + 1) ⊎ (2 ^ 64 ≤ k + n + 1)
missed_or_full n m k l same grew = counted_or_full n m k l same grew (cases_lt (2 ^ 64 - 1) (n + 1))

pub one_more : (turn : Option ℕ) (name : List ℕ) (step : Step) (slip : Slip) (old new : SeatState) → Keeps turn name step slip old new → IsOneMore name (calls_counted old) (calls_counted new)
one_more (Some turn) name step slip old new (reply, text, adds) = record {
  counted = inl (count_of_one (missed_on name old) (missed_on name new) (calls_on name old) (calls_on name new) _ adds.calls adds.missed);
  others = λ t other. ap (λ l. length l + missed_on t new) (adds.others.calls t other) ∙ ap (λ k. length (calls_on t old) + k) (adds.others.missed t other);
}
one_more None name step slip old new adds = record {
  counted = missed_or_full (missed_on name old) (missed_on name new) (length (calls_on name old)) (length (calls_on name new)) (ap (λ l. length l) adds.calls) adds.missed;
  others = λ t other. ap (λ l. length l + missed_on t new) (adds.others.calls t other) ∙ ap (λ k. length (calls_on t old) + k) (adds.others.missed t other);
}

pub no_more : (old new : SeatState) → KeepsLists old new → IsNoMore (calls_counted old) (calls_counted new)
no_more old new keeps = λ t. ap (λ l. length l + missed_on t new) (keeps.calls t) ∙ ap (λ k. length (calls_on t old) + k) (keeps.missed t)

-- ---- seats, one after another

-- one seat more calls
pub calls_more : {A B : Type 0} (f : A → B) (old new : List A) (call : A) (seat : B) (left rest all : List B) → new ≡ old ++ call ∷ [] → f call ≡ seat → left ≡ seat ∷ rest → map f old ++ left ≡ all → map f new ++ rest ≡ all
calls_more {A = A} {B = B} f old new call seat left rest all grew same cut held =
    ap (λ (calls : List A). map f calls ++ rest) grew ∙ ap (λ (seats : List B). seats ++ rest) (map-append f old (call ∷ [])) ∙ append_assoc (map f old) (f call ∷ []) rest
    ∙ ap (λ s. map f old ++ s ∷ rest) same ∙ ap (λ seats. map f old ++ seats) (sym cut) ∙ held

-- and one more is back
pub seats_more : {A B : Type 0} (f : A → B) (old new : List B) (call : A) (seat : B) (left rest : List A) (all : List B) → new ≡ old ++ seat ∷ [] → seat ≡ f call → left ≡ call ∷ rest → old ++ map f left ≡ all → new ++ map f rest ≡ all
seats_more {A = A} {B = B} f old new call seat left rest all grew same cut held =
    ap (λ (seats : List B). seats ++ map f rest) grew ∙ append_assoc old (seat ∷ []) (map f rest) ∙ ap (λ s. old ++ s ∷ map f rest) same ∙ ap (λ (calls : List A). old ++ map f calls) (sym cut) ∙ held
