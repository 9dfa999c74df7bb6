-- One more line of a script, by what it asks for and what it is answered.
use Rattle.std.proofs.Common.{◌≡◌, ◌∙◌, ap, refl, ℕ, List, [], ◌∷◌, ◌++◌, map}
use Rattle.std.proofs.Common.{Option, None, Some}
use Rattle.std.proofs.lemmas.List.{map-append}
use Rattle.host_front.specs.declared.line.LineAnswer.TheVariants.{Done}
use Rattle.host_front.specs.Lines.{LineTurn}
use Rattle.script_replay.specs.Script.{Live, Pool}
use Rattle.script_replay.specs.Replaying.{asked_in, told_in}

asked_more : (pool : Option ℕ) (xs : List LineTurn) (x : LineTurn)
    → asked_in pool (xs ++ x ∷ []) ≡ asked_in pool xs ++ Live x.line ∷ []
asked_more None xs x = map-append (λ (y : LineTurn). Live y.line) xs (x ∷ [])
asked_more (Some n) xs x = ap (λ qs. Pool n ∷ qs) (map-append (λ (y : LineTurn). Live y.line) xs (x ∷ []))

pub read_more : (pool : Option ℕ) (xs : List LineTurn) (x : LineTurn)
    → map Some (asked_in pool (xs ++ x ∷ [])) ≡ map Some (asked_in pool xs) ++ Some (Live x.line) ∷ []
read_more pool xs x =
    ap (map Some) (asked_more pool xs x) ∙ map-append Some (asked_in pool xs) (Live x.line ∷ [])

pub told_more : (pool : Option ℕ) (xs : List LineTurn) (x : LineTurn)
    → told_in pool (xs ++ x ∷ []) ≡ told_in pool xs ++ x.answer ∷ []
told_more None xs x = map-append (λ (y : LineTurn). y.answer) xs (x ∷ [])
told_more (Some n) xs x = ap (λ qs. Done ∷ qs) (map-append (λ (y : LineTurn). y.answer) xs (x ∷ []))

-- where nothing was asked, nothing was told
pub none_told : (pool : Option ℕ) (xs : List LineTurn) → [] ≡ map Some (asked_in pool xs) → told_in pool xs ≡ []
none_told None [] is = refl
none_told None (x ∷ xs) is = cc
none_told (Some n) xs is = cc
