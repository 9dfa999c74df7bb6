-- What a tenant is answered alone is a function of its state and its own events.
use Rattle.std.proofs.Common.{◌≡◌, List, [], ◌∷◌, refl, ap, ◌∙◌, sym, ℕ}
use Rattle.std.specs.Prelude.{Bool, true, false, cond, filter}
use Rattle.etcd_model.specs.declared.state.History.{History}
use Rattle.etcd_model.specs.declared.state.State.{State}
use Rattle.etcd_model.specs.Alone.{is_own, own, asked, alone, alone_after, Turn, told}

filter_twice : {X : Type 0} (p : X → Bool) (xs : List X) → filter p (filter p xs) ≡ filter p xs
filter_twice p [] = refl
filter_twice p (x ∷ xs) = elim (p x) as (λ b. p x ≡ b → filter p (cond b (x ∷ filter p xs) (filter p xs)) ≡ cond b (x ∷ filter p xs) (filter p xs)) [
  | true ↦ λ e. ap (λ b. cond b (x ∷ filter p (filter p xs)) (filter p (filter p xs))) e ∙ ap (λ ys. x ∷ ys) (filter_twice p xs)
  | false ↦ λ e. filter_twice p xs
] refl

pub own_of_own : (tenant : List ℕ) (turns : List Turn) → own tenant (own tenant turns) ≡ own tenant turns
own_of_own tenant turns = filter_twice (is_own tenant) turns

pub two_worlds : (tenant : List ℕ) (S T : State History) (here there : List Turn) → S ≡ T → asked (own tenant here) ≡ asked (own tenant there)
    → told (own tenant here) ≡ alone S (asked (own tenant here))
    → told (own tenant there) ≡ alone T (asked (own tenant there))
    → (told (own tenant here) ≡ told (own tenant there)) × (alone_after S (asked (own tenant here)) ≡ alone_after T (asked (own tenant there)))
two_worlds tenant S T here there state events first second =
    let answers = ap (λ (U : State History). alone U (asked (own tenant here))) state ∙ ap (alone T) events in
    let states = ap (λ (U : State History). alone_after U (asked (own tenant here))) state ∙ ap (alone_after T) events in
    (first ∙ answers ∙ sym second, states)
