-- A front of the bytes that are given.
use Rattle.std.proofs.Common.{◌≡◌, ℕ, List, ◌++◌, length, take, refl, sym, ap, ◌∙◌}
use Rattle.std.proofs.lemmas.List.{append_assoc, append_cancel_left, take_at}
use Rattle.std.specs.Prelude.{Result, Ok, Err, OnOk, OnErr}
use Rattle.cell_arena.specs.Region.{IsFrontOf}

-- what was given before the rest is a front of all
pub front_of : (start now given rest all : List ℕ) → now ≡ start ++ given → now ++ rest ≡ start ++ all → IsFrontOf all start now
front_of start now given rest all is whole =
    let joined : start ++ (given ++ rest) ≡ start ++ all = sym (append_assoc start given rest) ∙ ap (λ xs. xs ++ rest) (sym is) ∙ whole in
    let tail : given ++ rest ≡ all = append_cancel_left start (given ++ rest) all joined in
    (length given, is ∙ ap (λ xs. start ++ xs) (sym (take_at given rest (length given) refl) ∙ ap (take (length given)) tail))

-- one more piece is given
pub begun : (start now given piece then' : List ℕ) → now ≡ start ++ given → then' ≡ now ++ piece → then' ≡ start ++ (given ++ piece)
begun start now given piece then' is more = more ∙ ap (λ xs. xs ++ piece) is ∙ append_assoc start given piece

-- a claim for one outcome, from another
pub on_ok : {T E : Type 0} (r : Result T E) (P Q : Type 0) → (P → Q) → OnOk r P → OnOk r Q
on_ok (Ok x) P Q f p = f p
on_ok (Err e) P Q f p = p

pub on_err : {T E : Type 0} (r : Result T E) (P Q : Type 0) → (P → Q) → OnErr r P → OnErr r Q
on_err (Ok x) P Q f p = p
on_err (Err e) P Q f p = f p

-- a claim that holds in any case
pub held_err : {T E : Type 0} (r : Result T E) (Q : Type 0) → Q → OnErr r Q
held_err (Ok x) Q q = tt
held_err (Err e) Q q = q
