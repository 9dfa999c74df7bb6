-- The sheets of tenants, and what closing them tells.
use Rattle.std.specs.Prelude.{Result, Ok, Err, IfErr}
use Rattle.std.proofs.Common.{◌≡◌, ℕ, List, [], ◌∷◌, ◌++◌, Vec, ap, sym, ◌∙◌, refl, append_assoc}
use Rattle.std.proofs.lemmas.List.{map-append}
use Rattle.tenant_audit.specs.declared.audit.Opening.{Opening}
use Rattle.tenant_audit.specs.declared.comparing.Sheet.{Sheet}
use Rattle.tenant_audit.specs.declared.closed.CloseFault.{CloseFault}
use Rattle.tenant_audit.specs.Closed.{AreLawful, HasFault, IsFault, given_of}
use Rattle.tenant_audit.specs.Seats.{SeatState}
use Rattle.tenant_audit.proofs.ClosedLemmas.{given_in}
use Rattle.tenant_registry.specs.declared.tenant.Tenant.{Tenant}
use Rattle.std.proofs.Common.{inl, subst, true, false, cond, Bool, is_some, Some}
use Rattle.std.specs.Prelude.{◌⊎◌}
use Rattle.std.specs.Str.{bytes_eq}
use Rattle.std.specs.Map.{lookup}
use Rattle.std.specs.Cmp.Lexicographic.{bytes_decides}
use Rattle.tenant_registry.specs.Registries.{HasKeyOut, is_among, tenants_of}

-- the first of the tenants that are left becomes a sheet
pub given_step : {A : Type 0} (ss : List Sheet) (s : Sheet) (name : Vec ℕ A) (t : Tenant) (left rest : List (Vec ℕ A × Tenant)) (all : List (List ℕ × Opening))
    → given_of ss ++ tenants_of left ≡ all → left ≡ (name, t) ∷ rest → s.name.items ≡ name.items → s.opening ≡ t.opening → given_of (ss ++ s ∷ []) ++ tenants_of rest ≡ all
given_step ss s name t left rest all same cut named opening =
    ap (λ xs. xs ++ tenants_of rest) (map-append given_in ss (s ∷ [])) ∙ append_assoc (given_of ss) (given_in s ∷ []) (tenants_of rest)
    ∙ ap (λ n. given_of ss ++ (n, s.opening) ∷ tenants_of rest) named ∙ ap (λ o. given_of ss ++ (name.items, o) ∷ tenants_of rest) opening
    ∙ ap (λ es. given_of ss ++ tenants_of es) (sym cut) ∙ same

no_more : {X : Type 0} (xs : List X) → xs ++ [] ≡ xs
no_more [] = refl
no_more (x ∷ xs) = ap (λ ys. x ∷ ys) (no_more xs)

-- none is left
pub given_all : {A : Type 0} (ss : List Sheet) (left : List (Vec ℕ A × Tenant)) (all : List (List ℕ × Opening)) → given_of ss ++ tenants_of left ≡ all → left ≡ [] → given_of ss ≡ all
given_all ss left all same none = sym (no_more (given_of ss)) ∙ ap (λ es. given_of ss ++ tenants_of es) (sym none) ∙ same

-- ---- faults

-- a fault of these sheets is one of the tenants that they are of
pub tells_fault : {B : Type 0} (r : Result B CloseFault) (given : List (List ℕ × Opening)) (seats : List SeatState) (ss : List Sheet) → given_of ss ≡ given → AreLawful ss
    → IfErr r (λ f. IsFault ss seats f) → IfErr r (λ f. HasFault given seats f ⊎ HasKeyOut given f)
tells_fault (Ok x) given seats ss names lawful h = h
tells_fault (Err f) given seats ss names lawful h = inl (record { sheets = ss; names = names; lawful = lawful; is = h })

-- ---- a tenant among others

self_eq : (n : List ℕ) → bytes_eq n n ≡ true
self_eq n = (bytes_decides n n).1 refl

among_there : (xs ys : List (List ℕ × Opening)) (n : List ℕ) (o : Opening) → is_among (xs ++ (n, o) ∷ ys) n ≡ true
among_there [] ys n o = ap (λ (b : Bool). is_some (cond b (Some o) (lookup (bytes_eq n) ys))) (self_eq n)
among_there (x ∷ xs) ys n o = by (bytes_eq n x.0) (among_there xs ys n o)
  where
    by : (b : Bool) → is_among (xs ++ (n, o) ∷ ys) n ≡ true → is_some (cond b (Some x.1) (lookup (bytes_eq n) (xs ++ (n, o) ∷ ys))) ≡ true
    by true rest = refl
    by false rest = rest

-- the first of the tenants that are left is among all
pub left_is_among : {A : Type 0} (ss : List Sheet) (name : Vec ℕ A) (t : Tenant) (left rest : List (Vec ℕ A × Tenant)) (all : List (List ℕ × Opening))
    → given_of ss ++ tenants_of left ≡ all → left ≡ (name, t) ∷ rest → is_among all name.items ≡ true
left_is_among ss name t left rest all same cut =
    subst (λ (ts : List (List ℕ × Opening)). is_among ts name.items ≡ true) (ap (λ es. given_of ss ++ tenants_of es) (sym cut) ∙ same)
    (among_there (given_of ss) (tenants_of rest) name.items t.opening)
