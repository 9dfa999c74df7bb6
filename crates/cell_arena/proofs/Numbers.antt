-- The numbers of the segments that a table has drawn.
use Rattle.std.proofs.Common.{◌≡◌, ℕ, zero, suc, ◌+◌, ◌-◌, ◌<◌, List, [], ◌∷◌, ◌++◌, length, get_or, set, drop, replicate, refl, sym, ap, ◌∙◌, subst, arith}
use Rattle.std.proofs.lemmas.List.{length-set, append_assoc, drop_more}
use Rattle.std.proofs.lemmas.List.Sorted.{IsPermutation-refl, IsPermutation-sym, IsPermutation-trans, IsPermutation-append_left, IsPermutation-append_right, IsPermutation-append_comm}
use Rattle.std.specs.List.Sorted.{IsPermutation}
use Rattle.cell_arena.specs.declared.bay.Bay.{Bay}
use Rattle.cell_arena.specs.declared.table.Table.{Table}
use Rattle.cell_arena.specs.Loan.{Loan, Draws, KeepsShare, Settles}
use Rattle.cell_arena.specs.Order.{place_of}
use Rattle.cell_arena.specs.Table.{IsTable, busy_of, numbers_in, share_of}
use Rattle.cell_arena.proofs.Loans.{moved_over}

-- the number of a bay that has a cell in use
abbrev own : Bay → List ℕ
own bay = replicate (busy_of bay) bay.number

front_swap : (a b c : List ℕ) → IsPermutation (a ++ (b ++ c)) (b ++ (a ++ c))
front_swap a b c =
    subst (λ (xs : List ℕ). IsPermutation xs (b ++ (a ++ c))) (append_assoc a b c)
    (subst (IsPermutation ((a ++ b) ++ c)) (append_assoc b a c) (IsPermutation-append_left c (a ++ b) (b ++ a) (IsPermutation-append_comm a b)))

-- another bay in the place of one
numbers_set : (bays : List Bay) (i : ℕ) (old new : Bay) → i < length bays → get_or bays i old ≡ old → IsPermutation (own new ++ numbers_in bays) (own old ++ numbers_in (set bays i new))
numbers_set [] i old new less read = absurd (omega arith)
numbers_set (bay ∷ bays) zero old new less read =
    subst (λ (s : Bay). IsPermutation (own new ++ (own bay ++ numbers_in bays)) (own s ++ (own new ++ numbers_in bays))) read (front_swap (own new) (own bay) (numbers_in bays))
numbers_set (bay ∷ bays) (suc i) old new less read =
    IsPermutation-trans _ _ _ (front_swap (own new) (own bay) (numbers_in bays))
    (IsPermutation-trans _ _ _ (IsPermutation-append_right (own bay) _ _ (numbers_set bays i old new (omega (arith, less)) read)) (front_swap (own bay) (own old) (numbers_in (set bays i new))))

-- as busy as before, and of the same number
numbers_kept : (bays : List Bay) (i : ℕ) (old new : Bay) → get_or bays i old ≡ old → busy_of new ≡ busy_of old → new.number ≡ old.number → numbers_in (set bays i new) ≡ numbers_in bays
numbers_kept [] i old new read busy number = refl
numbers_kept (bay ∷ bays) zero old new read busy number =
    ap (λ b. replicate b new.number ++ numbers_in bays) busy ∙ ap (λ k. replicate (busy_of old) k ++ numbers_in bays) number ∙ ap (λ (s : Bay). own s ++ numbers_in bays) (sym read)
numbers_kept (bay ∷ bays) (suc i) old new read busy number = ap (λ (xs : List ℕ). own bay ++ xs) (numbers_kept bays i old new read busy number)

-- busy now, and not before
numbers_more : (bays : List Bay) (i : ℕ) (old new : Bay) → i < length bays → get_or bays i old ≡ old → busy_of old ≡ 0 → busy_of new ≡ 1 → IsPermutation (new.number ∷ numbers_in bays) (numbers_in (set bays i new))
numbers_more bays i old new less read idle busy =
    subst (λ b. IsPermutation (new.number ∷ numbers_in bays) (replicate b old.number ++ numbers_in (set bays i new))) idle
    (subst (λ b. IsPermutation (replicate b new.number ++ numbers_in bays) (own old ++ numbers_in (set bays i new))) busy (numbers_set bays i old new less read))

-- busy before, and no more
numbers_fewer : (bays : List Bay) (i : ℕ) (old new : Bay) → i < length bays → get_or bays i old ≡ old → busy_of old ≡ 1 → busy_of new ≡ 0 → IsPermutation (numbers_in bays) (old.number ∷ numbers_in (set bays i new))
numbers_fewer bays i old new less read busy idle =
    subst (λ b. IsPermutation (numbers_in bays) (replicate b old.number ++ numbers_in (set bays i new))) busy
    (subst (λ b. IsPermutation (replicate b new.number ++ numbers_in bays) (own old ++ numbers_in (set bays i new))) idle (numbers_set bays i old new less read))

numbers_left : (bays : List Bay) (i : ℕ) (bay : Bay) → i < length bays → get_or bays i bay ≡ bay → numbers_in (drop i bays) ≡ own bay ++ numbers_in (drop (i + 1) bays)
numbers_left bays i bay less read = ap numbers_in (drop_more bays i bay less) ∙ ap (λ (s : Bay). own s ++ numbers_in (drop (i + 1) bays)) read

-- of some bays the next one's segment is given back
pub left_given : (bays : List Bay) (i : ℕ) (bay : Bay) (all now after : List ℕ) → i < length bays → get_or bays i bay ≡ bay → busy_of bay ≡ 1 → IsPermutation all (now ++ numbers_in (drop i bays)) → IsPermutation after (bay.number ∷ now) → IsPermutation all (after ++ numbers_in (drop (i + 1) bays))
left_given bays i bay all now after less read busy were given =
    let here = numbers_left bays i bay less read ∙ ap (λ b. replicate b bay.number ++ numbers_in (drop (i + 1) bays)) busy in
    IsPermutation-trans _ _ _ were (IsPermutation-sym _ _ (moved_over after now _ _ bay.number bay.number given refl (subst (IsPermutation (bay.number ∷ numbers_in (drop (i + 1) bays))) (sym here) (IsPermutation-refl _))))

-- the next one has none
pub left_idle : (bays : List Bay) (i : ℕ) (bay : Bay) (all now : List ℕ) → i < length bays → get_or bays i bay ≡ bay → busy_of bay ≡ 0 → IsPermutation all (now ++ numbers_in (drop i bays)) → IsPermutation all (now ++ numbers_in (drop (i + 1) bays))
left_idle bays i bay all now less read idle were =
    subst (λ (xs : List ℕ). IsPermutation all (now ++ xs)) (numbers_left bays i bay less read ∙ ap (λ b. replicate b bay.number ++ numbers_in (drop (i + 1) bays)) idle) were

-- a drawn bay that still has a cell in use
still_busy : (t : Table) (s : ℕ) (old new : Bay) → IsTable t → s < length t.bays.items → get_or t.bays.items s old ≡ old → place_of t.order s < t.drawn → length new.cells.items ≡ length old.cells.items → new.free < 64 → busy_of new ≡ busy_of old
still_busy t s old new was less read in_use size low =
    let bay = was.bays s old less read in
    omega (arith, bay.whole in_use, bay.used in_use, size, low)

-- a bay is written whose segment stays in use
pub share_kept : (t : Table) (s : ℕ) (old new : Bay) → IsTable t → s < length t.bays.items → get_or t.bays.items s old ≡ old → place_of t.order s < t.drawn → length new.cells.items ≡ length old.cells.items → new.free < 64 → new.number ≡ old.number → KeepsShare (share_of t) (record { rooms = length (set t.bays.items s new); reserved = t.reserved; drawn = t.drawn; numbers = numbers_in (set t.bays.items s new) })
share_kept t s old new was less read in_use size low number =
    let busy = still_busy t s old new was less read in_use size low in
    record {
      rooms = length-set t.bays.items s new;
      reserved = refl;
      drawn = refl;
      numbers = subst (IsPermutation (numbers_in t.bays.items)) (sym (numbers_kept t.bays.items s old new read busy number)) (IsPermutation-refl _);
    }

-- of a drawn bay some cell is in use
pub below_64 : (t : Table) (s : ℕ) (old : Bay) → IsTable t → s < length t.bays.items → get_or t.bays.items s old ≡ old → place_of t.order s < t.drawn → old.free < 64
below_64 t s old was less read in_use = (was.bays s old less read).used in_use

-- a segment comes into a bay that had none
pub settles_drawn : (t : Table) (k l : Loan) (s number : ℕ) (old new : Bay) → IsTable t → s < length t.bays.items → get_or t.bays.items s old ≡ old → place_of t.order s ≡ t.drawn → length new.cells.items ≡ 64 → new.free + 1 ≡ 64 → new.number ≡ number → Draws number k l → Settles (share_of t) k (record { rooms = length (set t.bays.items s new); reserved = t.reserved; drawn = t.drawn + 1; numbers = numbers_in (set t.bays.items s new) }) l
settles_drawn t k l s number old new was less read here size free same draws =
    let empty = (was.bays s old less read).empty (omega (arith, here)) in
    let idle : busy_of old ≡ 0 = omega (arith, empty) in
    let busy : busy_of new ≡ 1 = omega (arith, size, free) in
    record {
      rooms = length-set t.bays.items s new;
      reserved = refl;
      left = omega (arith, draws.left);
      room = omega (arith, draws.room);
      numbers = moved_over k.numbers l.numbers _ _ number new.number draws.numbers same (numbers_more t.bays.items s old new less read idle busy);
      others = draws.others;
    }

-- a segment goes out of a bay, of which one cell was in use
pub settles_given : (t : Table) (k l : Loan) (s number : ℕ) (old new : Bay) → IsTable t → s < length t.bays.items → get_or t.bays.items s old ≡ old → place_of t.order s < t.drawn → old.free ≡ 63 → length new.cells.items ≡ 0 → old.number ≡ number → Draws number l k → Settles (share_of t) k (record { rooms = length (set t.bays.items s new); reserved = t.reserved; drawn = t.drawn - 1; numbers = numbers_in (set t.bays.items s new) }) l
settles_given t k l s number old new was less read in_use last size same draws =
    let whole = (was.bays s old less read).whole in_use in
    let busy : busy_of old ≡ 1 = omega (arith, whole, last) in
    let idle : busy_of new ≡ 0 = omega (arith, size) in
    record {
      rooms = length-set t.bays.items s new;
      reserved = refl;
      left = omega (arith, draws.left, in_use);
      room = omega (arith, draws.room, in_use);
      numbers = IsPermutation-sym _ _ (moved_over l.numbers k.numbers _ _ number old.number draws.numbers same (IsPermutation-sym _ _ (numbers_fewer t.bays.items s old new less read busy idle)));
      others = sym draws.others;
    }
