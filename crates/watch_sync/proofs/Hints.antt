-- The bits of a hint, slot by slot.
use Rattle.std.proofs.Common.{◌≡◌, ℕ, zero, suc, ◌+◌, ◌<◌, List, [], ◌∷◌, length, get_or, refl, sym, ap, ◌∙◌, subst, arith, inl, inr}
use Rattle.std.specs.Prelude.{Option, Some, None, false, slice_get, slice_set}
use Rattle.std.specs.Option.{option_map_or}
use Rattle.std.proofs.lemmas.Bool.{cases_lt}
use Rattle.std.proofs.lemmas.Option.{slice_get-get_or}
use Rattle.std.proofs.lemmas.List.{get_or-set_same, get_or-set_other}
use Rattle.revision_store.specs.Stored.{StoreState}
use Rattle.watch_sync.specs.declared.hint.SlotHint.{SlotHint}
use Rattle.watch_sync.specs.Agreeing.{WatchState}
use Rattle.watch_sync.specs.Slots.{hinted, watch_in}

-- the first bits are those of the first slots
abbrev pub AreTold : StoreState → ℕ → List (Option WatchState) → List SlotHint → ℕ → Type 0
AreTold s moment slots hints n =
    (j : ℕ) (h : SlotHint) (o : Option WatchState) → j < n → (get_or hints j h).may_tell ≡ hinted s moment (get_or slots j o)

pub told_more : (s : StoreState) (moment : ℕ) (slots : List (Option WatchState)) (hints : List SlotHint) (i : ℕ) (hint : SlotHint) (slot : Option WatchState) → i < length hints
    → hint.may_tell ≡ hinted s moment slot → ((o : Option WatchState) → get_or slots i o ≡ slot) → AreTold s moment slots hints i → AreTold s moment slots (slice_set hints i hint) (i + 1)
told_more s moment slots hints i hint slot lt told at before j h o within = elim (cases_lt j i) [
  | inl below ↦ subst (λ (g : SlotHint). g.may_tell ≡ hinted s moment (get_or slots j o)) (sym (get_or-set_other hints i j hint h (λ e. absurd (omega (arith, e, below))))) (before j h o below)
  | inr above ↦
      let here : j ≡ i = omega (arith, above, within) in
      subst (λ k. (get_or (slice_set hints i hint) k h).may_tell ≡ hinted s moment (get_or slots k o)) (sym here)
      (subst (λ (g : SlotHint). g.may_tell ≡ hinted s moment (get_or slots i o)) (sym (get_or-set_same hints i hint h lt))
      (subst (λ w. hint.may_tell ≡ hinted s moment w) (sym (at o)) told))
]

-- what is at a place, whatever would stand for what is past the end
pub same_at : (slots : List (Option WatchState)) (i : ℕ) (slot o : Option WatchState) → i < length slots → slot ≡ get_or slots i slot → get_or slots i o ≡ slot
same_at slots i slot o lt is =
    let both : Some (get_or slots i o) ≡ Some (get_or slots i slot) = sym (slice_get-get_or slots i o lt) ∙ slice_get-get_or slots i slot lt in
    let same : get_or slots i o ≡ get_or slots i slot = cc in
    same ∙ sym is

-- all of them
pub all_told : (s : StoreState) (moment : ℕ) (slots : List (Option WatchState)) (hints : List SlotHint) → length hints ≡ length slots → AreTold s moment slots hints (length slots)
    → (slot : ℕ) → option_map_or (λ (h : SlotHint). h.may_tell) (slice_get hints slot) false ≡ hinted s moment (watch_in slots slot)
all_told s moment [] [] long told zero = refl
all_told s moment [] [] long told (suc slot) = refl
all_told s moment [] (h ∷ hints) long told slot = absurd (omega (arith, long))
all_told s moment (w ∷ slots) [] long told slot = absurd (omega (arith, long))
all_told s moment (w ∷ slots) (h ∷ hints) long told zero = told 0 h w (omega arith)
all_told s moment (w ∷ slots) (h ∷ hints) long told (suc slot) =
    all_told s moment slots hints (omega (arith, long)) (λ j g o lt. told (suc j) g o (omega (arith, lt))) slot
