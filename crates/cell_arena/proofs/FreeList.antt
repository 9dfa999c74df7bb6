-- The list of the free cells over writes.
use Rattle.std.proofs.Common.{◌≡◌, ◌≢◌, ℕ, zero, suc, Bool, true, false, ◌+◌, ◌-◌, ◌<◌, ◌≤◌, List, [], ◌∷◌, ◌++◌, length, get_or, set, Option, Some, None, count_by, cond, refl, sym, ap, ◌∙◌, inl, inr, arith, add-one, subst}
use Rattle.std.proofs.lemmas.List.{length_push, get_or_push, get_or_append_left, get_or-set_same, get_or-set_other, length-set, get_or_past, get_or_default}
use Rattle.std.proofs.lemmas.List.Sums.{sum_by-set, sum_by-cons, sum_by_push, count_by-le-length}
use Rattle.std.proofs.lemmas.Bool.{cases_lt, cases_eq, true≢false}
use Rattle.cell_arena.specs.declared.cell.Cell.{Cell}
use Rattle.cell_arena.specs.declared.cell.Cell.TheVariants.{Free, Head, Rest}
use Rattle.std.specs.Vec.{with_item}
use Rattle.std.specs.Global.{Vec}
use Rattle.cell_arena.specs.declared.bay.Bay.{Bay}
use Rattle.cell_arena.specs.Chain.{is_free, cell_at, bay_at, Writes, IsFreeList, IsListed}

-- two lists from one link are of one length
pub same_count : (at : ℕ → Cell) (bound n m : ℕ) (link : Option ℕ) → IsFreeList at bound n link → IsFreeList at bound m link → n ≡ m
same_count at bound zero zero link p q = refl
same_count at bound zero (suc m) link p q = absurd (cc (p, q.2))
same_count at bound (suc n) zero link p q = absurd (cc (p.2, q))
same_count at bound (suc n) (suc m) link p q =
    let same : p.0 ≡ q.0 = cc (p.2, q.2) in
    let next : p.1 ≡ q.1 = cc (p.4, q.4, same) in
    ap suc (same_count at bound n m p.1 p.5 (rw next q.5))

-- a list shorter than the one from k doesn't meet k
pub kept_before : (old new : ℕ → Cell) (bound k n : ℕ) (cell : Cell) → Writes old new k cell → IsFreeList old bound n (Some k) → (m : ℕ) (link : Option ℕ) → m < n → IsFreeList old bound m link → IsFreeList new bound m link
kept_before old new bound k n cell written long zero link less p = p
kept_before old new bound k n cell written long (suc m) link less p =
    elim (cases_eq p.0 k) [
      | inl same ↦ absurd (omega (arith, same_count old bound n (suc m) (Some k) long (rw (ap Some (sym same) ∙ sym p.2) p)))
      | inr other ↦ (p.0, p.1, p.2, p.3, written.others p.0 other ∙ p.4, kept_before old new bound k n cell written long m p.1 (omega arith) p.5)
    ]

-- a cell in use is on no list
pub kept_used : (old new : ℕ → Cell) (bound k : ℕ) (cell : Cell) → Writes old new k cell → is_free (old k) ≡ false → (m : ℕ) (link : Option ℕ) → IsFreeList old bound m link → IsFreeList new bound m link
kept_used old new bound k cell written used zero link p = p
kept_used old new bound k cell written used (suc m) link p =
    let other : p.0 ≢ k = λ same. true≢false (sym (ap is_free p.4) ∙ ap (λ i. is_free (old i)) same ∙ used) in
    (p.0, p.1, p.2, p.3, written.others p.0 other ∙ p.4, kept_used old new bound k cell written used m p.1 p.5)

-- a cell that is not free is within
pub within : (cells : List Cell) (k : ℕ) → is_free (cell_at cells k) ≡ false → k < length cells
within cells k used =
    elim (cases_lt k (length cells)) [
      | inl less ↦ less
      | inr past ↦ absurd (cc (ap is_free (get_or_past cells k (Free None) past), used))
    ]

-- what an index within reads
pub read_is : (cells : List Cell) (k : ℕ) (x : Cell) → k < length cells → x ≡ get_or cells k x → x ≡ cell_at cells k
read_is cells k x less read = read ∙ get_or_default cells k x (Free None) less

-- a write within
pub written_at : (cells : List Cell) (k : ℕ) (cell : Cell) → k < length cells → Writes (cell_at cells) (cell_at (set cells k cell)) k cell
written_at cells k cell less = record {
  here = get_or-set_same cells k cell (Free None) less;
  others = λ n other. get_or-set_other cells k n cell (Free None) other;
}

abbrev one : Bool → ℕ
one b = cond b 1 0

-- how many are free after a write
pub count_freed : (cells : List Cell) (k : ℕ) (cell : Cell) → k < length cells → is_free (cell_at cells k) ≡ false → is_free cell ≡ true → count_by is_free (set cells k cell) ≡ count_by is_free cells + 1
count_freed cells k cell less was now =
    let e = sum_by-set (λ c. one (is_free c)) cells k cell (Free None) less in
    let a : one (is_free (cell_at cells k)) ≡ 0 = ap one was in
    let b : one (is_free cell) ≡ 1 = ap one now in
    omega arith

pub count_taken : (cells : List Cell) (k : ℕ) (cell : Cell) → k < length cells → is_free (cell_at cells k) ≡ true → is_free cell ≡ false → count_by is_free (set cells k cell) + 1 ≡ count_by is_free cells
count_taken cells k cell less was now =
    let e = sum_by-set (λ c. one (is_free c)) cells k cell (Free None) less in
    let a : one (is_free (cell_at cells k)) ≡ 1 = ap one was in
    let b : one (is_free cell) ≡ 0 = ap one now in
    omega arith

pub room_to_free : (cells : List Cell) (k : ℕ) → is_free (cell_at cells k) ≡ false → count_by is_free cells + 1 ≤ length cells
room_to_free cells k used =
    let less = within cells k used in
    let e = count_freed cells k (Free None) less used refl in
    omega (arith, e, count_by-le-length is_free (set cells k (Free None)), length-set cells k (Free None))

-- a cell in use goes to the front of the list
pub listed_freed : (t : Bay) (at : ℕ) → IsListed t → is_free (bay_at t at) ≡ false → IsListed (record { number = t.number; cells = with_item t.cells at (Free t.first); first = Some at; free = t.free + 1 })
listed_freed t at was used =
    let cells = t.cells.items in
    let less : at < length cells = within cells at used in
    let count = count_freed cells at (Free t.first) less used refl in
    let new = set cells at (Free t.first) in
    let same : length cells ≡ length new = sym (length-set cells at (Free t.first)) in
    let written : Writes (cell_at cells) (cell_at new) at (Free t.first) = written_at cells at (Free t.first) less in
    let rest = kept_used (cell_at cells) (cell_at new) (length cells) at (Free t.first) written used t.free t.first was.listed in
    record {
      short = omega (arith, same, was.short);
      counted = omega (arith, count, was.counted);
      listed = rw add-one (at, t.first, refl, omega (arith, same, less), written.here, subst (λ b. IsFreeList (cell_at new) b t.free t.first) same rest);
    }

-- the first of the list is taken
pub listed_taken : (t : Bay) (at : ℕ) (next : Option ℕ) (cell : Cell) → IsListed t → 0 < t.free → t.first ≡ Some at → bay_at t at ≡ Free next → is_free cell ≡ false → IsListed (record { number = t.number; cells = with_item t.cells at cell; first = next; free = t.free - 1 })
listed_taken t at next cell was room is read used = by_count t.free refl
  where
    by_count : (n : ℕ) → t.free ≡ n → IsListed (record { number = t.number; cells = with_item t.cells at cell; first = next; free = t.free - 1 })
    by_count zero e = absurd (omega arith)
    by_count (suc n) e =
        let cells = t.cells.items in
        let list : IsFreeList (bay_at t) (length cells) (suc n) t.first = subst (λ m. IsFreeList (bay_at t) (length cells) m t.first) e was.listed in
        let same : list.0 ≡ at = cc (list.2, is) in
        let less : at < length cells = subst (λ k. k < length cells) same list.3 in
        let after : list.1 ≡ next = cc (list.4, read, same) in
        let long : IsFreeList (bay_at t) (length cells) (suc n) (Some at) = subst (λ l. IsFreeList (bay_at t) (length cells) (suc n) l) is list in
        let tail : IsFreeList (bay_at t) (length cells) n next = subst (λ l. IsFreeList (bay_at t) (length cells) n l) after list.5 in
        let new = set cells at cell in
        let size : length cells ≡ length new = sym (length-set cells at cell) in
        let written : Writes (cell_at cells) (cell_at new) at cell = written_at cells at cell less in
        let kept = kept_before (cell_at cells) (cell_at new) (length cells) at (suc n) cell written long n next (omega arith) tail in
        let count = count_taken cells at cell less (ap is_free read) used in
        let fewer : t.free - 1 ≡ n = omega arith in
        record {
          short = omega (arith, size, was.short);
          counted = omega (arith, count, was.counted);
          listed = subst (λ m. IsFreeList (cell_at new) (length new) m next) (sym fewer) (subst (λ b. IsFreeList (cell_at new) b n next) size kept);
        }

-- a list that is not empty has a first cell
pub first_of_list : (t : Bay) → IsListed t → 0 < t.free → (n : ℕ) × (next : Option ℕ) × (t.first ≡ Some n) × (n < length t.cells.items) × (bay_at t n ≡ Free next)
first_of_list t was room = by_count t.free refl
  where
    by_count : (m : ℕ) → t.free ≡ m → (n : ℕ) × (next : Option ℕ) × (t.first ≡ Some n) × (n < length t.cells.items) × (bay_at t n ≡ Free next)
    by_count zero e = absurd (omega arith)
    by_count (suc m) e =
        let list : IsFreeList (bay_at t) (length t.cells.items) (suc m) t.first = subst (λ m. IsFreeList (bay_at t) (length t.cells.items) m t.first) e was.listed in
        (list.0, list.1, list.2, list.3, list.4)

-- the first cell of the list, where the link names it
pub first_is : (t : Bay) (at : ℕ) → IsListed t → 0 < t.free → t.first ≡ Some at → (at < length t.cells.items) × ((next : Option ℕ) × (bay_at t at ≡ Free next))
first_is t at was room is =
    let found = first_of_list t was room in
    let same : found.0 ≡ at = cc (found.2, is) in
    (subst (λ n. n < length t.cells.items) same found.3, (found.1, subst (λ n. bay_at t n ≡ Free found.1) same found.4))

-- there are so many cells, each free and listed before the last ones
pub record IsListing (cells : List Cell) (count : ℕ) (first : Option ℕ) : Type 0 where
  pub size : length cells ≡ count
  pub listed : IsFreeList (cell_at cells) count count first
  pub counted : count_by is_free cells ≡ count
  pub all : (n : ℕ) → is_free (cell_at cells n) ≡ true

list_grown : (cells : List Cell) (cell : Cell) (bound m : ℕ) (link : Option ℕ) → length cells ≡ bound → IsFreeList (cell_at cells) bound m link → IsFreeList (cell_at (cells ++ cell ∷ [])) (suc bound) m link
list_grown cells cell bound zero link size p = p
list_grown cells cell bound (suc m) link size p =
    (p.0, p.1, p.2, omega (arith, p.3), get_or_append_left cells (cell ∷ []) (Free None) p.0 (omega (arith, p.3)) ∙ p.4, list_grown cells cell bound m p.1 size p.5)

free_grown : (cells : List Cell) (next : Option ℕ) → ((n : ℕ) → is_free (cell_at cells n) ≡ true) → (n : ℕ) → is_free (cell_at (cells ++ Free next ∷ []) n) ≡ true
free_grown [] next all zero = refl
free_grown [] next all (suc n) = refl
free_grown (c ∷ cells) next all zero = all zero
free_grown (c ∷ cells) next all (suc n) = free_grown cells next (λ k. all (suc k)) n

pub listing_more : (cells : List Cell) (count : ℕ) (first : Option ℕ) → IsListing cells count first → IsListing (cells ++ Free first ∷ []) (count + 1) (Some count)
listing_more cells count first was = record {
  size = length_push cells (Free first) ∙ omega (arith, was.size);
  listed = rw add-one (count, first, refl, omega arith, get_or_push cells (Free first) (Free None) count was.size, list_grown cells (Free first) count count first was.size was.listed);
  counted = sum_by_push (λ c. one (is_free c)) cells (Free first) ∙ omega (arith, was.counted);
  all = free_grown cells first was.all;
}

pub listing_none : IsListing [] 0 None
listing_none = record { size = refl; listed = refl; counted = refl; all = λ n. refl }

-- cells that are listed are those of a bay
pub listed_from : (number : ℕ) (cells : Vec Cell) (first : Option ℕ) → IsListing cells.items 64 first → IsListed (record { number = number; cells = cells; first = first; free = 64 })
listed_from number cells first all = record {
  short = omega (arith, all.size);
  counted = sym all.counted;
  listed = subst (λ b. IsFreeList (cell_at cells.items) b 64 first) (sym all.size) all.listed;
}

-- where as many are free as there are, each is
pub all_from_count : (xs : List Cell) → count_by is_free xs ≡ length xs → (n : ℕ) → is_free (cell_at xs n) ≡ true
all_from_count [] count n = refl
all_from_count (Free next ∷ xs) count zero = refl
all_from_count (Free next ∷ xs) count (suc n) = all_from_count xs (omega (arith, count, sum_by-cons (λ c. one (is_free c)) (Free next) xs)) n
all_from_count (Head kind head ∷ xs) count n = absurd (omega (arith, count, sum_by-cons (λ c. one (is_free c)) (Head kind head) xs, count_by-le-length is_free xs))
all_from_count (Rest bytes next ∷ xs) count n = absurd (omega (arith, count, sum_by-cons (λ c. one (is_free c)) (Rest bytes next) xs, count_by-le-length is_free xs))

-- where one alone is in use, each other is free
pub others_free : (xs : List Cell) (p : ℕ) → is_free (cell_at xs p) ≡ false → count_by is_free xs + 1 ≡ length xs → (n : ℕ) → n ≢ p → is_free (cell_at xs n) ≡ true
others_free xs p used count n other =
    let less = within xs p used in
    let freed = count_freed xs p (Free None) less used refl in
    ap is_free (sym (get_or-set_other xs p n (Free None) (Free None) other)) ∙ all_from_count (set xs p (Free None)) (omega (arith, freed, count, length-set xs p (Free None))) n

-- a cell in use is written, and stays in use
pub listed_rewritten : (t : Bay) (at : ℕ) (cell : Cell) → IsListed t → is_free (bay_at t at) ≡ false → is_free cell ≡ false → IsListed (record { number = t.number; cells = with_item t.cells at cell; first = t.first; free = t.free })
listed_rewritten t at cell was used stays =
    let cells = t.cells.items in
    let less : at < length cells = within cells at used in
    let new = set cells at cell in
    let same : length cells ≡ length new = sym (length-set cells at cell) in
    let e = sum_by-set (λ c. one (is_free c)) cells at cell (Free None) less in
    let a : one (is_free (cell_at cells at)) ≡ 0 = ap one used in
    let b : one (is_free cell) ≡ 0 = ap one stays in
    record {
      short = omega (arith, same, was.short);
      counted = omega (arith, was.counted, a, b, e);
      listed = subst (λ b. IsFreeList (cell_at new) b t.free t.first) same (kept_used (cell_at cells) (cell_at new) (length cells) at cell (written_at cells at cell less) used t.free t.first was.listed);
    }
