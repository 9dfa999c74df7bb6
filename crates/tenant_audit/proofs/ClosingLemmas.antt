-- Where all seats' calls are in order, and there are as many calls as entries, an audit is the seats' lists.
use Rattle.std.proofs.Common.{◌≡◌, ◌==◌, ◌≤◌, ◌<◌, ◌+◌, ℕ, zero, suc, List, [], ◌∷◌, ◌++◌, cond, Bool, true, false, Some, length, refl, sym, ap, ◌∙◌, subst, arith, inl, inr, ◌⊎◌, get_or, All, drop, append_assoc, add-one, ⊎_elim, sum_by}
use Rattle.std.proofs.lemmas.List.{nil_from_length, length-append, get_or_read}
use Rattle.std.proofs.lemmas.List.Sums.{sum_by-cons}
use Rattle.std.proofs.lemmas.Bool.{cases_lt}
use Rattle.std.proofs.lemmas.Bool.Decides.{nat_tests}
use Rattle.std.proofs.lemmas.Option.{slice_get_within, same_Some}
use Rattle.std.specs.List.{slice_get}
use Rattle.std.proofs.Math.Seq.{drop-cons}
use Rattle.tenant_audit.specs.declared.audit.Entry.{Entry}
use Rattle.tenant_audit.specs.declared.comparing.Sheet.{Sheet}
use Rattle.tenant_audit.specs.declared.tally.MadeCall.{MadeCall}
use Rattle.tenant_audit.specs.Audits.{Log, entry}
use Rattle.tenant_audit.specs.Seats.{SeatState, call, calls_on}
use Rattle.tenant_audit.specs.Closing.{calls_by, times, made_on, IsInPlace, InOrder, AreInOrder, BreaksAt, DiffersAt, IsInOrder, Agrees}

-- ---- calls in order

-- the calls stand among the entries from the place k on, one after another
abbrev pub Fits : ℕ → ℕ → List Entry → List MadeCall → Type 0
Fits n k [] [] = Unit {0}
Fits n k [] (c ∷ cs) = ⊥
Fits n k (e ∷ es) [] = Unit {0}
Fits n k (e ∷ es) (c ∷ cs) = ((c.turn ≡ k) × (e ≡ entry n c.step c.reply) × Fits n (k + 1) es cs) ⊎ Fits n (k + 1) es (c ∷ cs)

at_end : (pre : List Entry) (e : Entry) (es : List Entry) → slice_get (pre ++ e ∷ es) (length pre) ≡ Some e
at_end [] e es = refl
at_end (p ∷ pre) e es = at_end pre e es

in_order_fits : (n k : ℕ) (pre es : List Entry) (cs : List MadeCall) → k ≡ length pre → InOrder n k (pre ++ es) cs → Fits n k es cs
in_order_fits n k pre [] [] at h = tt
in_order_fits n k pre [] (c ∷ cs) at h =
    let within : c.turn < length (pre ++ []) = slice_get_within (pre ++ []) c.turn (entry n c.step c.reply) h.0.stands in
    absurd (omega (arith, h.0.rises, length-append {A = Entry} pre []))
in_order_fits n k pre (e ∷ es) [] at h = tt
in_order_fits n k pre (e ∷ es) (c ∷ cs) at h =
    let same : pre ++ e ∷ es ≡ (pre ++ e ∷ []) ++ es = sym (append_assoc pre (e ∷ []) es) in
    let at' : k + 1 ≡ length (pre ++ e ∷ []) = omega (arith, length-append {A = Entry} pre (e ∷ [])) in
    let later : k < c.turn → Fits n k (e ∷ es) (c ∷ cs) = λ lt.
    let rises : k + 1 ≤ c.turn = omega arith in
    let h' : InOrder n (k + 1) (pre ++ e ∷ es) (c ∷ cs) = (record { rises = rises; stands = h.0.stands }, h.1) in
    inr (in_order_fits n (k + 1) (pre ++ e ∷ []) es (c ∷ cs) at' (subst (λ (l : List Entry). InOrder n (k + 1) l (c ∷ cs)) same h')) in
    let here : c.turn ≤ k → Fits n k (e ∷ es) (c ∷ cs) = λ le.
    let turn : c.turn ≡ k = omega (arith, h.0.rises) in
    let found : slice_get (pre ++ e ∷ es) (length pre) ≡ Some (entry n c.step c.reply) = subst (λ (j : ℕ). slice_get (pre ++ e ∷ es) j ≡ Some (entry n c.step c.reply)) (turn ∙ at) h.0.stands in
    let is : e ≡ entry n c.step c.reply = same_Some e (entry n c.step c.reply) (sym (at_end pre e es) ∙ found) in
    let h' : InOrder n (k + 1) (pre ++ e ∷ es) cs = subst (λ (j : ℕ). InOrder n (j + 1) (pre ++ e ∷ es) cs) turn h.1 in
    inl (turn, is, in_order_fits n (k + 1) (pre ++ e ∷ []) es cs at' (subst (λ (l : List Entry). InOrder n (k + 1) l cs) same h')) in
    ⊎_elim later here (cases_lt k c.turn)

-- ---- a walk over the calls

-- one call more is in place
pub order_here : (n next : ℕ) (es : List Entry) (calls : List MadeCall) (i : ℕ) (c : MadeCall) → i < length calls → c ≡ get_or calls i c
    → IsInPlace n next es c → InOrder n (c.turn + 1) es (drop (i + 1) calls) → InOrder n next es (drop i calls)
order_here n next es calls i c lt is place rest =
    let cut : drop i calls ≡ c ∷ drop (i + 1) calls = rw (add-one, drop-cons calls i c, ← is) refl in
    rw cut (place, rest)

pub breaks_later : (n next : ℕ) (es : List Entry) (calls : List MadeCall) (i : ℕ) (c : MadeCall) (turn : ℕ) → i < length calls → c ≡ get_or calls i c
    → IsInPlace n next es c → BreaksAt n (c.turn + 1) es (drop (i + 1) calls) turn → BreaksAt n next es (drop i calls) turn
breaks_later n next es calls i c turn lt is place rest =
    let cut : drop i calls ≡ c ∷ drop (i + 1) calls = rw (add-one, drop-cons calls i c, ← is) refl in
    rw cut (inr (place, rest))

-- a call that is not in place
pub breaks_here : (n next : ℕ) (es : List Entry) (calls : List MadeCall) (i : ℕ) (c : MadeCall) → i < length calls → c ≡ get_or calls i c
    → (IsInPlace n next es c → ⊥) → BreaksAt n next es (drop i calls) c.turn
breaks_here n next es calls i c lt is not =
    let cut : drop i calls ≡ c ∷ drop (i + 1) calls = rw (add-one, drop-cons calls i c, ← is) refl in
    rw cut (inl (refl, not))

-- where one is not in place, not all are in order
pub breaks_order : (n next : ℕ) (es : List Entry) (calls : List MadeCall) (turn : ℕ) → BreaksAt n next es calls turn → InOrder n next es calls → ⊥
breaks_order n next es [] turn h order = h
breaks_order n next es (c ∷ cs) turn (inl p) order = p.1 order.0
breaks_order n next es (c ∷ cs) turn (inr p) order = breaks_order n (c.turn + 1) es cs turn p.1 order.1

pub differs_order : (seats : List SeatState) (s : Sheet) (turn : ℕ) → DiffersAt seats s turn → AreInOrder seats s → ⊥
differs_order [] s turn differs order = absurd (omega (arith, differs.within))
differs_order (x ∷ xs) s turn differs order =
    let y = get_or (x ∷ xs) differs.place x in
    breaks_order y.number 0 s.audit.entries (calls_on s.name.items y) turn (differs.breaks x) (order differs.place x differs.within)

-- ---- what is so of an item is so at its place

pub at_place : {X : Type 0} (P : X → Type 0) (xs : List X) (i : ℕ) (x : X) → i < length xs → x ≡ get_or xs i x → P x → (d : X) → P (get_or xs i d)
at_place P xs i x lt is h d = subst P (get_or_read xs i x lt is d) h

-- and what is so at its place is so of the item
pub of_place : {X : Type 0} (P : X → Type 0) (xs : List X) (i : ℕ) (x : X) → i < length xs → x ≡ get_or xs i x → (d : X) → P (get_or xs i d) → P x
of_place P xs i x lt is d h = subst P (sym (get_or_read xs i x lt is d)) h

-- ---- numbers of seats

number_at : (n : ℕ) (s : SeatState) (ss : List SeatState) (b : Bool) → (s.number == n) ≡ b → (0 < times n ss → (k : ℕ) × (k < length ss) × ((d : SeatState) → (get_or ss k d).number ≡ n)) → 0 < cond b 1 0 + times n ss
    → (k : ℕ) × (k < length (s ∷ ss)) × ((d : SeatState) → (get_or (s ∷ ss) k d).number ≡ n)
number_at n s ss true e ih h = (0, omega arith, λ d. let same : s.number ≡ n = grind (arith, nat_tests) in same)
number_at n s ss false e ih h = let f = ih (omega arith) in (suc f.0, (let lt = f.1 in omega arith), f.2)

find_number : (n : ℕ) (ss : List SeatState) → 0 < times n ss → (k : ℕ) × (k < length ss) × ((d : SeatState) → (get_or ss k d).number ≡ n)
find_number n [] h = absurd (omega arith)
find_number n (s ∷ ss) h = number_at n s ss (s.number == n) refl (find_number n ss) h

-- where no number at a place is there twice, none is
pub apart_all : (ss : List SeatState) → ((k : ℕ) (d : SeatState) → k < length ss → times (get_or ss k d).number ss ≤ 1) → (n : ℕ) → times n ss ≤ 1
apart_all [] h n = omega arith
apart_all (s ∷ ss) h n =
    let some : 0 < times n (s ∷ ss) → times n (s ∷ ss) ≤ 1 = λ lt.
    let f = find_number n (s ∷ ss) lt in
    subst (λ (m : ℕ). times m (s ∷ ss) ≤ 1) (f.2 s) (h f.0 s f.1) in
    let none : times n (s ∷ ss) ≤ 0 → times n (s ∷ ss) ≤ 1 = λ le. omega arith in
    ⊎_elim some none (cases_lt 0 (times n (s ∷ ss)))

-- ---- a seat's entries and its list

longer : (b : Bool) (x : MadeCall) (xs : List MadeCall) (m : ℕ) → m ≤ length xs → m ≤ length (cond b (x ∷ xs) xs)
longer true x xs m h = omega arith
longer false x xs m h = h

seat_is : (n : ℕ) (e : Entry) (c : MadeCall) → e ≡ entry n c.step c.reply → (n == e.seat) ≡ true
seat_is n e c is = let eq : e.seat ≡ n = ap (λ (x : Entry). x.seat) is in grind (arith, nat_tests)

fits_fewer : (n k : ℕ) (es : List Entry) (cs : List MadeCall) → Fits n k es cs → length cs ≤ length (calls_by n k es)
fits_fewer n k [] [] fits = omega arith
fits_fewer n k [] (c ∷ cs) fits = absurd fits
fits_fewer n k (e ∷ es) [] fits = omega arith
fits_fewer n k (e ∷ es) (c ∷ cs) (inl p) =
    let less : length cs ≤ length (calls_by n (k + 1) es) = fits_fewer n (k + 1) es cs p.2 in
    rw (seat_is n e c p.1) (omega arith)
fits_fewer n k (e ∷ es) (c ∷ cs) (inr q) =
    longer (n == e.seat) (call k e.step e.reply) (calls_by n (k + 1) es) (length (c ∷ cs)) (fits_fewer n (k + 1) es (c ∷ cs) q)

call_is : (n k : ℕ) (e : Entry) (c : MadeCall) → c.turn ≡ k → e ≡ entry n c.step c.reply → call k e.step e.reply ≡ c
call_is n k e c turn is = rw (is, ← turn) refl

only_none : (xs cs : List MadeCall) (b : Bool) (x c : MadeCall) → length (c ∷ cs) ≤ length xs → (length xs ≤ length (c ∷ cs) → xs ≡ c ∷ cs) → length (cond b (x ∷ xs) xs) ≤ length (c ∷ cs) → cond b (x ∷ xs) xs ≡ c ∷ cs
only_none xs cs true x c less more most = absurd (omega arith)
only_none xs cs false x c less more most = more most

fits_equal : (n k : ℕ) (es : List Entry) (cs : List MadeCall) → Fits n k es cs → length (calls_by n k es) ≤ length cs → calls_by n k es ≡ cs
fits_equal n k [] [] fits most = refl
fits_equal n k [] (c ∷ cs) fits most = absurd fits
fits_equal n k (e ∷ es) [] fits most = nil_from_length (calls_by n k (e ∷ es)) (omega arith)
fits_equal n k (e ∷ es) (c ∷ cs) (inl p) most =
    let seat = seat_is n e c p.1 in
    let less : length (calls_by n (k + 1) es) ≤ length cs = let m = rw seat at most in omega arith in
    rw seat (rw (call_is n k e c p.0 p.1) (ap (λ (l : List MadeCall). c ∷ l) (fits_equal n (k + 1) es cs p.2 less)))
fits_equal n k (e ∷ es) (c ∷ cs) (inr q) most =
    only_none (calls_by n (k + 1) es) cs (n == e.seat) (call k e.step e.reply) c (fits_fewer n (k + 1) es (c ∷ cs) q) (λ m. fits_equal n (k + 1) es (c ∷ cs) q m) most

-- ---- all seats' entries

-- how many entries a seat has
abbrev pub own : ℕ → List Entry → SeatState → ℕ
own k es s = length (calls_by s.number k es)

more_by : (b : Bool) (x : MadeCall) (xs : List MadeCall) (n m p : ℕ) → m ≡ n + p → length (cond b (x ∷ xs) xs) + m ≡ cond b 1 0 + n + (length xs + p)
more_by true x xs n m p h = omega arith
more_by false x xs n m p h = omega arith

-- one entry adds one to the sum for each seat of its number
one_more : (k : ℕ) (e : Entry) (es : List Entry) (ss : List SeatState) → sum_by (own k (e ∷ es)) ss ≡ times e.seat ss + sum_by (own (k + 1) es) ss
one_more k e es [] = refl
one_more k e es (s ∷ ss) =
    sum_by-cons (own k (e ∷ es)) s ss
    ∙ more_by (s.number == e.seat) (call k e.step e.reply) (calls_by s.number (k + 1) es) (times e.seat ss) (sum_by (own k (e ∷ es)) ss) (sum_by (own (k + 1) es) ss) (one_more k e es ss)
    ∙ ap (λ n. times e.seat (s ∷ ss) + n) (sym (sum_by-cons (own (k + 1) es) s ss))

none_own : (k : ℕ) (ss : List SeatState) → sum_by (own k []) ss ≡ 0
none_own k [] = refl
none_own k (s ∷ ss) =
    let none : own k [] s ≡ 0 = refl in
    omega (arith, sum_by-cons (own k []) s ss, none, none_own k ss)

-- the entries of the seats, added up, are at most all entries; and where they are all, each entry is of one seat
shared : (k : ℕ) (es : List Entry) (ss : List SeatState) → ((n : ℕ) → times n ss ≤ 1) → sum_by (own k es) ss ≤ length es
shared k [] ss apart = omega (arith, none_own k ss)
shared k (e ∷ es) ss apart =
    omega (arith, one_more k e es ss, shared (k + 1) es ss apart, apart e.seat)

covered : (k : ℕ) (es : List Entry) (ss : List SeatState) → ((n : ℕ) → times n ss ≤ 1) → length es ≤ sum_by (own k es) ss → All (λ (e : Entry). times e.seat ss ≡ 1) es
covered k [] ss apart all j d lt = absurd (omega arith)
covered k (e ∷ es) ss apart all zero d lt = omega (arith, one_more k e es ss, shared (k + 1) es ss apart, apart e.seat)
covered k (e ∷ es) ss apart all (suc j) d lt = covered (k + 1) es ss apart (omega (arith, one_more k e es ss, apart e.seat)) j d (omega arith)

sum_less : (f g : SeatState → ℕ) (ss : List SeatState) → All (λ (s : SeatState). f s ≤ g s) ss → sum_by f ss ≤ sum_by g ss
sum_less f g [] h = omega arith
sum_less f g (s ∷ ss) h = omega (arith, sum_by-cons f s ss, sum_by-cons g s ss, h 0 s (omega arith), sum_less f g ss (λ k d lt. h (suc k) d (omega arith)))

sum_same : (f g : SeatState → ℕ) (ss : List SeatState) → All (λ (s : SeatState). f s ≤ g s) ss → sum_by g ss ≤ sum_by f ss → All (λ (s : SeatState). g s ≤ f s) ss
sum_same f g [] h most j d lt = absurd (omega arith)
sum_same f g (s ∷ ss) h most zero d lt =
    let rest : sum_by f ss ≤ sum_by g ss = sum_less f g ss (λ k d lt. h (suc k) d (omega arith)) in
    let here : g s ≤ f s = omega (arith, sum_by-cons f s ss, sum_by-cons g s ss, h 0 s (omega arith), rest, most) in
    here
sum_same f g (s ∷ ss) h most (suc j) d lt =
    let least : f s ≤ g s = h 0 s (omega arith) in
    let rest : sum_by g ss ≤ sum_by f ss = omega (arith, sum_by-cons f s ss, sum_by-cons g s ss, least, most) in
    sum_same f g ss (λ k d lt. h (suc k) d (omega arith)) rest j d (omega arith)

-- where each seat's calls are in order, and there are as many calls as entries, the audit is the seats' lists
pub agrees : (name : List ℕ) (a : Log) (ss : List SeatState) → ((n : ℕ) → times n ss ≤ 1) → All (λ (s : SeatState). IsInOrder name a.entries s) ss
    → length a.entries ≡ made_on name ss → Agrees name a ss
agrees name a ss apart orders sums =
    let made : SeatState → ℕ = λ s. length (calls_on name s) in
    let fits : All (λ (s : SeatState). Fits s.number 0 a.entries (calls_on name s)) ss = λ k d lt. in_order_fits (get_or ss k d).number 0 [] a.entries (calls_on name (get_or ss k d)) refl (orders k d lt) in
    let less : All (λ (s : SeatState). made s ≤ own 0 a.entries s) ss = λ k d lt. fits_fewer (get_or ss k d).number 0 a.entries (calls_on name (get_or ss k d)) (fits k d lt) in
    let most : sum_by (own 0 a.entries) ss ≤ sum_by made ss = omega (arith, shared 0 a.entries ss apart, sums) in
    let same = sum_same made (own 0 a.entries) ss less most in
    record {
      lists = λ k d lt. fits_equal (get_or ss k d).number 0 a.entries (calls_on name (get_or ss k d)) (fits k d lt) (same k d lt);
      others = covered 0 a.entries ss apart (omega (arith, sums, sum_less made (own 0 a.entries) ss less));
    }
