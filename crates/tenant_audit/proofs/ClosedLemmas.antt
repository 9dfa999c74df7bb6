-- Sheets, and the audits that they hand out.
use Rattle.std.proofs.Common.{◌≡◌, ◌==◌, ◌+◌, ℕ, suc, zero, Bool, true, false, cond, List, [], ◌∷◌, ◌++◌, Some, map, length, get_or, ap, sym, subst, ◌∙◌, refl, All, append_assoc, arith}
use Rattle.std.specs.List.{AllByRecursion, slice_get}
use Rattle.std.proofs.lemmas.List.{length-append}
use Rattle.etcd_types.specs.declared.reply.Reply.{Reply}
use Rattle.etcd_model.specs.ReplyText.{Answer, text}
use Rattle.tenant_audit.specs.declared.audit.Entry.{Entry}
use Rattle.tenant_audit.specs.declared.audit.Opening.{Opening}
use Rattle.tenant_audit.specs.declared.comparing.Sheet.{Sheet}
use Rattle.tenant_audit.specs.declared.tally.MadeCall.{MadeCall}
use Rattle.tenant_audit.specs.Audits.{Log, IsLawful, replies_of}
use Rattle.tenant_audit.specs.Closed.{AreTold, AreClosed, AreLawful, IsClosed, given_of, sheet_audits}
use Rattle.tenant_audit.specs.Closing.{AreApart, Agrees, IsAsGiven, IsComplete, calls_by}
use Rattle.tenant_audit.specs.Seats.{SeatState, call, calls_on}

-- ---- one sheet more

abbrev pub given_in : Sheet → List ℕ × Opening
given_in s = (s.name.items, s.opening)

pub lawful_more : (ss : List Sheet) (s : Sheet) → AreLawful ss → IsLawful s.audit → AreLawful (ss ++ s ∷ [])
lawful_more [] s all here zero d lt = here
lawful_more [] s all here (suc k) d lt = absurd (omega arith)
lawful_more (x ∷ ss) s all here zero d lt = all 0 x (omega arith)
lawful_more (x ∷ ss) s all here (suc k) d lt = lawful_more ss s (λ j e l. all (suc j) e (omega arith)) here k d (omega arith)

-- ---- what the callers were told

at_turn : (f : Reply → Answer) (pre : List Entry) (e : Entry) (es : List Entry) → slice_get (map f (replies_of (pre ++ e ∷ es))) (length pre) ≡ Some (f e.reply)
at_turn f [] e es = refl
at_turn f (p ∷ pre) e es = at_turn f pre e es

-- the replies of a seat's entries stand at their places
told_by : (f : Reply → Answer) (n k : ℕ) (pre es : List Entry) → k ≡ length pre → AllByRecursion (λ (c : MadeCall). slice_get (map f (replies_of (pre ++ es))) c.turn ≡ Some (f c.reply)) (calls_by n k es)
told_by f n k pre [] at = tt
told_by f n k pre (e ∷ es) at =
    by (n == e.seat) (subst (λ (j : ℕ). slice_get (map f (replies_of (pre ++ e ∷ es))) j ≡ Some (f e.reply)) (sym at) (at_turn f pre e es))
    (subst (λ (l : List Entry). AllByRecursion (λ (c : MadeCall). slice_get (map f (replies_of l)) c.turn ≡ Some (f c.reply)) (calls_by n (k + 1) es)) (append_assoc pre (e ∷ []) es)
    (told_by f n (k + 1) (pre ++ e ∷ []) es (omega (arith, at, length-append {A = Entry} pre (e ∷ [])))))
  where
    by : (b : Bool) → slice_get (map f (replies_of (pre ++ e ∷ es))) k ≡ Some (f e.reply)
        → AllByRecursion (λ (c : MadeCall). slice_get (map f (replies_of (pre ++ e ∷ es))) c.turn ≡ Some (f c.reply)) (calls_by n (k + 1) es)
        → AllByRecursion (λ (c : MadeCall). slice_get (map f (replies_of (pre ++ e ∷ es))) c.turn ≡ Some (f c.reply)) (cond b (call k e.step e.reply ∷ calls_by n (k + 1) es) (calls_by n (k + 1) es))
    by true here rest = (here, rest)
    by false here rest = rest

are_told : (a : Log) (name : List ℕ) (s : SeatState) → IsLawful a → calls_by s.number 0 a.entries ≡ calls_on name s → AreTold a (calls_on name s)
are_told a name s lawful list =
    subst (λ (cs : List MadeCall). AreTold a cs) list
    (subst (λ (rs : List Reply). AllByRecursion (λ (c : MadeCall). slice_get (map text rs) c.turn ≡ Some (text c.reply)) (calls_by s.number 0 a.entries)) (sym lawful.replies) (told_by text s.number 0 [] a.entries refl))

-- ---- all agree

openings_given : (ss : List Sheet) → All (λ s. IsAsGiven s) ss → map (λ a. (a.0, a.1.opening)) (sheet_audits ss) ≡ given_of ss
openings_given [] h = refl
openings_given (s ∷ ss) h =
    ap (λ o. (s.name.items, o) ∷ map (λ a. (a.0, a.1.opening)) (sheet_audits ss)) (h 0 s (omega arith))
    ∙ ap (λ xs. (s.name.items, s.opening) ∷ xs) (openings_given ss (λ k d lt. h (suc k) d (omega arith)))

each_closed : (ss : List Sheet) (seats : List SeatState) → AreLawful ss → All (λ s. Agrees s.name.items s.audit seats) ss → All (λ s. IsComplete seats s) ss
    → All (λ a. IsClosed a.0 a.1 seats) (sheet_audits ss)
each_closed [] seats lawful agrees complete k d lt = absurd (omega arith)
each_closed (s ∷ ss) seats lawful agrees complete zero d lt =
    let here : IsLawful s.audit = lawful 0 s (omega arith) in
    let same : Agrees s.name.items s.audit seats = agrees 0 s (omega arith) in
    record {
      lawful = here;
      agrees = same;
      told = λ j e l. are_told s.audit s.name.items (get_or seats j e) here (same.lists j e l);
      missed = complete 0 s (omega arith);
    }
each_closed (s ∷ ss) seats lawful agrees complete (suc k) d lt =
    each_closed ss seats (λ j e l. lawful (suc j) e (omega arith)) (λ j e l. agrees (suc j) e (omega arith)) (λ j e l. complete (suc j) e (omega arith)) k d (omega arith)

pub all_closed : (ss : List Sheet) (seats : List SeatState) (audits : List (List ℕ × Log)) → audits ≡ sheet_audits ss → AreLawful ss → AreApart seats
    → All (λ s. IsAsGiven s) ss → All (λ s. Agrees s.name.items s.audit seats) ss → All (λ s. IsComplete seats s) ss → AreClosed (given_of ss) seats audits
all_closed ss seats audits is lawful apart given agrees complete = record {
  openings = ap (map (λ a. (a.0, a.1.opening))) is ∙ openings_given ss given;
  apart = apart;
  each = rw is (each_closed ss seats lawful agrees complete);
}
