-- Loans from one call to the next.
use Rattle.std.proofs.Common.{◌≡◌, ℕ, List, [], ◌∷◌, ◌++◌, refl, sym, subst, arith, ◌∙◌}
use Rattle.std.proofs.lemmas.List.Sorted.{IsPermutation-refl, IsPermutation-sym, IsPermutation-trans, IsPermutation-append_left, IsPermutation-append_right, IsPermutation-map, IsPermutation-to_front, IsPermutation-middle}
use Rattle.std.specs.List.Sorted.{IsPermutation}
use Rattle.cell_arena.specs.declared.segments.Segment.{Segment}
use Rattle.cell_arena.specs.Loan.{Loan, Share, IsLent, Settles, KeepsShare}
use Rattle.cell_arena.specs.Segments.{numbers_of}

pub settles_none : (s : Share) (l : Loan) → Settles s l s l
settles_none s l = record { rooms = refl; reserved = refl; left = refl; room = refl; numbers = IsPermutation-refl _; others = refl }

pub settles_both : (a b c : Share) (k l m : Loan) → Settles a k b l → Settles b l c m → Settles a k c m
settles_both a b c k l m one two = record {
  rooms = two.rooms ∙ one.rooms;
  reserved = two.reserved ∙ one.reserved;
  left = two.left ∙ one.left;
  room = omega (arith, one.room, two.room);
  numbers = IsPermutation-trans _ _ _ one.numbers two.numbers;
  others = two.others ∙ one.others;
}

-- what was lent is lent still
pub lent_still : (a b : Share) (k l : Loan) → IsLent a k → Settles a k b l → IsLent b l
lent_still a b k l lent settles = record {
  left = omega (arith, lent.left, settles.left, settles.reserved);
  room = omega (arith, lent.room, settles.room);
}

-- a call that draws and gives back nothing leaves a loan as it found it
pub settles_kept : (a b c : Share) (k l : Loan) → Settles a k b l → KeepsShare b c → Settles a k c l
settles_kept a b c k l settles kept = record {
  rooms = kept.rooms ∙ settles.rooms;
  reserved = kept.reserved ∙ settles.reserved;
  left = omega (arith, settles.left, kept.drawn);
  room = omega (arith, settles.room, kept.drawn);
  numbers = IsPermutation-trans _ _ _ settles.numbers (IsPermutation-append_right l.numbers _ _ kept.numbers);
  others = settles.others;
}

-- a segment that stands after others
pub numbers_pushed : (fewer more : List Segment) (s : Segment) → more ≡ fewer ++ s ∷ [] → IsPermutation (numbers_of more) (s.number ∷ numbers_of fewer)
numbers_pushed fewer more s is =
    IsPermutation-map (λ (x : Segment). x.number) more (s ∷ fewer) (subst (λ (xs : List Segment). IsPermutation xs (s ∷ fewer)) (sym is) (IsPermutation-to_front fewer s))

-- a number goes from one list to another
pub moved_over : (a b c d : List ℕ) (x y : ℕ) → IsPermutation a (x ∷ b) → y ≡ x → IsPermutation (y ∷ c) d → IsPermutation (a ++ c) (b ++ d)
moved_over a b c d x y out same into =
    IsPermutation-trans _ _ _ (IsPermutation-append_left c a (x ∷ b) out)
    (IsPermutation-trans _ _ _ (IsPermutation-sym _ _ (IsPermutation-middle b x c)) (IsPermutation-append_right b (x ∷ c) d (subst (λ n. IsPermutation (n ∷ c) d) same into)))
