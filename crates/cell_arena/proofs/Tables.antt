-- A table of segments over writes.
use Rattle.std.proofs.Common.{◌≡◌, ◌≢◌, ℕ, zero, suc, true, false, ◌+◌, ◌-◌, ◌*◌, ◌/◌, ◌%◌, ◌<◌, ◌≤◌, List, [], ◌∷◌, length, map, get_or, set, Option, None, count_by, sum_by, vec_capacity, refl, sym, ap, ◌∙◌, inl, inr, ◌⊎◌, arith, subst}
use Rattle.std.proofs.lemmas.Bool.{cases_lt}
use Rattle.std.proofs.lemmas.List.{nil_from_length, get_or_past, get_or_default, length-map}
use Rattle.std.proofs.lemmas.List.Sums.{sum_by-cons, get_or-le-sum_by, count_by-le-length}
use Rattle.std.specs.Vec.{with_item}
use Rattle.cell_arena.specs.declared.cell.Cell.{Cell}
use Rattle.cell_arena.specs.declared.cell.Cell.TheVariants.{Free}
use Rattle.cell_arena.specs.declared.bay.Bay.{Bay}
use Rattle.cell_arena.specs.declared.order.Order.{Order}
use Rattle.cell_arena.specs.declared.table.Table.{Table}
use Rattle.cell_arena.specs.Chain.{is_free, cell_at, bay_at, Writes, IsListed, IsFreeList}
use Rattle.cell_arena.proofs.FreeList.{within, read_is, others_free}
use Rattle.cell_arena.specs.Order.{IsOrder, count_of, place_of, swapped}
use Rattle.cell_arena.specs.Table.{hidden, bay_cells, at_bays, table_at, free_of, used_of, busy_of, IsBay, IsTable}
use Rattle.cell_arena.proofs.Zones.{swapped_cases, swapped_first, place_other, parts, at_set, at_is, hidden_used, hidden_free, free_hidden, table_changed}

-- the first ready bay has one free cell fewer, and still some
pub put_kept : (t : Table) (s : ℕ) (old new : Bay) → IsTable t → 0 < t.ready → s < length t.bays.items → place_of t.order s ≡ 0 → get_or t.bays.items s old ≡ old → IsListed new → new.free + 1 ≡ old.free → length new.cells.items ≡ length old.cells.items → 0 < new.free → IsTable (record { bays = with_item t.bays s new; order = t.order; ready = t.ready; drawn = t.drawn; reserved = t.reserved; used = t.used + 1; alloc = t.alloc })
put_kept t s old new was some less here read listed fewer size left =
    let bay = was.bays s old less read in
    let had = bay.used (omega (arith, was.ready)) in
    let whole = bay.whole (omega (arith, was.ready)) in
    table_changed t s old new t.order t.ready t.drawn (t.used + 1) was less read was.order refl was.ready was.drawn
    (record {
      listed = listed;
      empty = λ h. absurd (omega (arith, was.ready));
      bare = λ h. absurd (omega (arith, was.ready));
      whole = λ h. size ∙ bay.whole h;
      used = λ h. omega (arith, bay.used h);
      spare = λ h. left;
      full = λ h. absurd (omega arith);
    })
    (record { a = λ q l n h. h; b = λ q l n h. h; d = λ q l n h. h; e = λ q l n h. h })
    (omega (arith, had, whole, size)) (omega arith) (omega (arith, had, whole, size))

-- the first ready bay has its last free cell taken
pub put_closed : (t : Table) (s : ℕ) (old new : Bay) (o : Order) → IsTable t → 0 < t.ready → s < length t.bays.items → place_of t.order s ≡ 0 → get_or t.bays.items s old ≡ old → IsListed new → new.free + 1 ≡ old.free → length new.cells.items ≡ length old.cells.items → new.free ≡ 0 → IsOrder o → count_of o ≡ count_of t.order → ((q : ℕ) → q < count_of t.order → place_of o q ≡ swapped 0 (t.ready - 1) (place_of t.order q)) → IsTable (record { bays = with_item t.bays s new; order = o; ready = t.ready - 1; drawn = t.drawn; reserved = t.reserved; used = t.used + 1; alloc = t.alloc })
put_closed t s old new o was some less here read listed fewer size none order count places =
    let bay = was.bays s old less read in
    let had = bay.used (omega (arith, was.ready)) in
    let whole = bay.whole (omega (arith, was.ready)) in
    let goes : place_of o s ≡ t.ready - 1 = places s (omega (arith, was.size)) ∙ ap (swapped 0 (t.ready - 1)) here in
    table_changed t s old new o (t.ready - 1) t.drawn (t.used + 1) was less read order count (omega (arith, was.ready)) was.drawn
    (record {
      listed = listed;
      empty = λ h. absurd (omega (arith, was.ready));
      bare = λ h. absurd (omega (arith, was.ready));
      whole = λ h. size ∙ bay.whole (omega (arith, was.ready));
      used = λ h. omega arith;
      spare = λ h. absurd (omega arith);
      full = λ h. none;
    })
    (record {
      a = λ q l n h. (zone q l n).0 h;
      b = λ q l n h. (zone q l n).1 h;
      d = λ q l n h. (zone q l n).2 h;
      e = λ q l n h. (zone q l n).3 h;
    })
    (omega (arith, had, whole, size)) (omega arith) (omega (arith, had, whole, size))
  where
    zone : (q : ℕ) → q < length t.bays.items → q ≢ s → (place_of o q < t.ready - 1 → place_of t.order q < t.ready) × (t.ready - 1 ≤ place_of o q → t.ready ≤ place_of t.order q) × (place_of o q < t.drawn → place_of t.order q < t.drawn) × (t.drawn ≤ place_of o q → t.drawn ≤ place_of t.order q)
    zone q l n =
        let apart : place_of t.order q ≢ place_of t.order s = place_other t.order q s was.order (omega (arith, was.size)) (omega (arith, was.size)) n in
        let to : place_of o q ≡ swapped 0 (t.ready - 1) (place_of t.order q) = places q (omega (arith, was.size)) in
        elim (swapped_cases 0 (t.ready - 1) (place_of t.order q)) [
          | inl first ↦ absurd (omega (arith, first.0))
          | inr (inl second) ↦ (λ h. omega (arith, was.ready, second.0, second.1, second.2), λ h. omega (arith, was.ready, second.0, second.1, second.2), λ h. omega (arith, was.ready, second.0, second.1, second.2), λ h. omega (arith, was.ready, second.0, second.1, second.2))
          | inr (inr neither) ↦ (λ h. omega (arith, was.ready, neither.0, neither.1, neither.2), λ h. omega (arith, was.ready, neither.0, neither.1, neither.2), λ h. omega (arith, was.ready, neither.0, neither.1, neither.2), λ h. omega (arith, was.ready, neither.0, neither.1, neither.2))
        ]

-- the first ready bay
pub first_ready : (t : Table) (s : ℕ) → IsTable t → 0 < t.ready → s ≡ get_or t.order.order.items 0 s → (s < length t.bays.items) × (place_of t.order s ≡ 0)
first_ready t s was some read =
    let first : 0 < count_of t.order = omega (arith, was.ready, was.drawn, was.reserved, was.size) in
    let is : get_or t.order.order.items 0 0 ≡ s = get_or_default t.order.order.items 0 0 s first ∙ sym read in
    (omega (arith, was.order.at 0 first, is, was.size), ap (place_of t.order) (sym is) ∙ was.order.back 0 first)

-- what a write in a ready bay is to the table
pub put_written : (t : Table) (s p : ℕ) (old new : Bay) (cell : Cell) → IsTable t → 0 < t.ready → s < length t.bays.items → place_of t.order s ≡ 0 → get_or t.bays.items s old ≡ old → p < length old.cells.items → Writes (bay_at old) (bay_at new) p cell → is_free cell ≡ false → Writes (table_at t) (at_bays (set t.bays.items s new)) (s * 64 + p) cell
put_written t s p old new cell was some less here read within written used =
    let whole = (was.bays s old less read).whole (omega (arith, was.ready)) in
    subst (λ x. Writes (table_at t) (at_bays (set t.bays.items s new)) (s * 64 + p) x) (hidden_used cell used)
    (at_set t.bays.items s p old new cell less (omega (arith, whole)) read (ap hidden written.here) (λ n other. ap hidden (written.others n other)))

pub put_was_free : (t : Table) (s p : ℕ) (old : Bay) → IsTable t → 0 < t.ready → s < length t.bays.items → place_of t.order s ≡ 0 → get_or t.bays.items s old ≡ old → p < length old.cells.items → is_free (bay_at old p) ≡ true → is_free (table_at t (s * 64 + p)) ≡ true
put_was_free t s p old was some less here read within free =
    let whole = (was.bays s old less read).whole (omega (arith, was.ready)) in
    ap is_free (at_is t.bays.items s p old less (omega (arith, whole)) read) ∙ free_hidden (bay_at old p) ∙ free

sum_zero : (xs : List Bay) → ((k : ℕ) (c : Bay) → k < length xs → get_or xs k c ≡ c → c.free ≡ 0) → sum_by free_of xs ≡ 0
sum_zero [] none = refl
sum_zero (x ∷ xs) none =
    sum_by-cons free_of x xs ∙ omega (arith, none 0 x (omega arith) refl, sum_zero xs (λ k c less read. none (suc k) c (omega arith) read))

-- with no bay ready, each cell that is drawn is in use
pub none_left : (t : Table) → IsTable t → t.ready ≡ 0 → t.used ≡ 64 * t.drawn
none_left t was none = omega (arith, was.used, sum_zero t.bays.items (λ k c less read. (was.bays k c less read).full (omega arith)))

-- the first bay without a segment
pub first_empty : (t : Table) (s : ℕ) → IsTable t → t.drawn < length t.bays.items → s ≡ get_or t.order.order.items t.drawn s → (s < length t.bays.items) × (place_of t.order s ≡ t.drawn)
first_empty t s was some read =
    let first : t.drawn < count_of t.order = omega (arith, was.size) in
    let is : get_or t.order.order.items t.drawn 0 ≡ s = get_or_default t.order.order.items t.drawn 0 s first ∙ sym read in
    (omega (arith, was.order.at t.drawn first, is, was.size), ap (place_of t.order) (sym is) ∙ was.order.back t.drawn first)

pub again : (xs : List Bay) (s : ℕ) (d : Bay) → s < length xs → get_or xs s (get_or xs s d) ≡ get_or xs s d
again xs s d less = get_or_default xs s (get_or xs s d) d less

no_free : (c : Bay) → IsListed c → length c.cells.items ≡ 0 → c.free ≡ 0
no_free c listed none = omega (arith, listed.counted, count_by-le-length is_free c.cells.items, none)

-- a drawn segment with one cell in use takes an empty bay
pub put_table : (t : Table) (s : ℕ) (new : Bay) (o : Order) → IsTable t → t.ready ≡ 0 → t.drawn < t.reserved → s < length t.bays.items → place_of t.order s ≡ t.drawn → IsListed new → new.free + 1 ≡ 64 → length new.cells.items ≡ 64 → IsOrder o → count_of o ≡ count_of t.order → ((q : ℕ) → q < count_of t.order → place_of o q ≡ swapped 0 t.drawn (place_of t.order q)) → IsTable (record { bays = with_item t.bays s new; order = o; ready = 1; drawn = t.drawn + 1; reserved = t.reserved; used = t.used + 1; alloc = t.alloc })
put_table t s new o was none some less here listed fewer size order count places =
    let old = get_or t.bays.items s new in
    let read : get_or t.bays.items s old ≡ old = again t.bays.items s new less in
    let bay = was.bays s old less read in
    let zero_free : old.free ≡ 0 = no_free old bay.listed (bay.empty (omega (arith, here))) in
    let goes : place_of o s ≡ 0 = places s (omega (arith, was.size)) ∙ ap (swapped 0 t.drawn) here ∙ back t.drawn in
    table_changed t s old new o 1 (t.drawn + 1) (t.used + 1) was less read order count (omega arith) (omega arith)
    (record {
      listed = listed;
      empty = λ h. absurd (omega arith);
      bare = λ h. absurd (omega arith);
      whole = λ h. size;
      used = λ h. omega arith;
      spare = λ h. omega arith;
      full = λ h. absurd (omega arith);
    })
    (record {
      a = λ q l n h. (zone q l n).0 h;
      b = λ q l n h. omega arith;
      d = λ q l n h. (zone q l n).1 h;
      e = λ q l n h. (zone q l n).2 h;
    })
    (omega (arith, bay.empty (omega (arith, here)), size)) (omega arith) (omega (arith, bay.empty (omega (arith, here)), size))
  where
    back : (d : ℕ) → swapped 0 d d ≡ 0
    back d = elim (swapped_cases 0 d d) [
      | inl first ↦ first.1 ∙ first.0
      | inr (inl second) ↦ second.2
      | inr (inr neither) ↦ absurd (neither.1 refl)
    ]

    zone : (q : ℕ) → q < length t.bays.items → q ≢ s → (place_of o q < 1 → place_of t.order q < t.ready) × (place_of o q < t.drawn + 1 → place_of t.order q < t.drawn) × (t.drawn + 1 ≤ place_of o q → t.drawn ≤ place_of t.order q)
    zone q l n =
        let apart : place_of t.order q ≢ place_of t.order s = place_other t.order q s was.order (omega (arith, was.size)) (omega (arith, was.size)) n in
        let differs : place_of t.order q ≢ t.drawn = λ e. apart (e ∙ sym here) in
        let to : place_of o q ≡ swapped 0 t.drawn (place_of t.order q) = places q (omega (arith, was.size)) in
        elim (swapped_cases 0 t.drawn (place_of t.order q)) [
          | inl first ↦ (λ h. absurd (differs (omega (arith, first.0, first.1))), λ h. omega (arith, differs, first.0, first.1), λ h. omega (arith, first.0, first.1))
          | inr (inl second) ↦ absurd (differs second.1)
          | inr (inr neither) ↦ (λ h. absurd (neither.0 (omega (arith, neither.2))), λ h. omega (arith, differs, neither.2), λ h. omega (arith, neither.2))
        ]

-- what that is to the numbers
pub drawn_written : (t : Table) (s p : ℕ) (clean new : Bay) (cell : Cell) → IsTable t → s < length t.bays.items → place_of t.order s ≡ t.drawn → p < 64 → ((n : ℕ) → is_free (bay_at clean n) ≡ true) → Writes (bay_at clean) (bay_at new) p cell → is_free cell ≡ false → Writes (table_at t) (at_bays (set t.bays.items s new)) (s * 64 + p) cell
drawn_written t s p clean new cell was less here small all written used =
    let old = get_or t.bays.items s new in
    let read : get_or t.bays.items s old ≡ old = again t.bays.items s new less in
    let bay = was.bays s old less read in
    let bare : old.cells.items ≡ [] = nil_from_length old.cells.items (bay.empty (omega (arith, here))) in
    subst (λ x. Writes (table_at t) (at_bays (set t.bays.items s new)) (s * 64 + p) x) (hidden_used cell used)
    (at_set t.bays.items s p old new cell less small read (ap hidden written.here) (λ n other.
    ap hidden (written.others n other) ∙ hidden_free (bay_at clean n) (all n) ∙ sym (ap (λ xs. hidden (cell_at xs n)) bare)))

pub empty_was_free : (t : Table) (s p : ℕ) (d : Bay) → IsTable t → s < length t.bays.items → place_of t.order s ≡ t.drawn → p < 64 → is_free (table_at t (s * 64 + p)) ≡ true
empty_was_free t s p d was less here small =
    let old = get_or t.bays.items s d in
    let read : get_or t.bays.items s old ≡ old = again t.bays.items s d less in
    let bare : old.cells.items ≡ [] = nil_from_length old.cells.items ((was.bays s old less read).empty (omega (arith, here))) in
    ap is_free (at_is t.bays.items s p old less small read) ∙ ap (λ xs. is_free (hidden (cell_at xs p))) bare

-- a cell in use stands in a bay
pub used_within : (t : Table) (s p : ℕ) → p < 64 → is_free (table_at t (s * 64 + p)) ≡ false → s < length t.bays.items
used_within t s p small used =
    elim (cases_lt s (length t.bays.items)) [
      | inl less ↦ less
      | inr past ↦
          let xs = map bay_cells t.bays.items in
          let nothing : get_or xs ((s * 64 + p) / 64) [] ≡ [] = get_or_past xs ((s * 64 + p) / 64) [] (omega (arith, length-map t.bays.items bay_cells, (parts s p small).0)) in
          let free : is_free (table_at t (s * 64 + p)) ≡ true = ap (λ ys. is_free (hidden (cell_at ys ((s * 64 + p) % 64)))) nothing in
          absurd (cc (free, used))
    ]

pub used_in : (t : Table) (s p : ℕ) (c : Bay) → p < 64 → is_free (table_at t (s * 64 + p)) ≡ false → get_or t.bays.items s c ≡ c → is_free (bay_at c p) ≡ false
used_in t s p c small used read =
    sym (free_hidden (bay_at c p)) ∙ ap is_free (sym (at_is t.bays.items s p c (used_within t s p small used) small read)) ∙ used

pub used_drawn : (t : Table) (s p : ℕ) (c : Bay) → IsTable t → p < 64 → is_free (table_at t (s * 64 + p)) ≡ false → get_or t.bays.items s c ≡ c → place_of t.order s < t.drawn
used_drawn t s p c was small used read =
    elim (cases_lt (place_of t.order s) t.drawn) [
      | inl less ↦ less
      | inr past ↦
          let none = (was.bays s c (used_within t s p small used) read).empty past in
          absurd (omega (arith, none, within c.cells.items p (used_in t s p c small used read)))
    ]

-- what freeing in a bay is to the numbers
pub freed_written : (t : Table) (s p : ℕ) (old new : Bay) (next : Option ℕ) → p < 64 → is_free (table_at t (s * 64 + p)) ≡ false → get_or t.bays.items s old ≡ old → Writes (bay_at old) (bay_at new) p (Free next) → Writes (table_at t) (at_bays (set t.bays.items s new)) (s * 64 + p) (Free None)
freed_written t s p old new next small used read written =
    at_set t.bays.items s p old new (Free next) (used_within t s p small used) small read (ap hidden written.here) (λ n other. ap hidden (written.others n other))

pub some_used : (t : Table) (s : ℕ) (c : Bay) → IsTable t → s < length t.bays.items → get_or t.bays.items s c ≡ c → place_of t.order s < t.drawn → 0 < t.used
some_used t s c was less read in_use =
    let bay = was.bays s c less read in
    omega (arith, was.held, get_or-le-sum_by used_of t.bays.items s c less, ap used_of read, bay.whole in_use, bay.used in_use)

-- a bay with a free cell is ready
ready_place : (ready drawn place : ℕ) (c : Bay) → IsBay ready drawn place c → 0 < c.free → place < ready
ready_place ready drawn place c bay some = elim (cases_lt place ready) [
  | inl low ↦ low
  | inr past ↦ absurd (omega (arith, some, bay.full past))
]

-- one more free cell in a bay that had some
pub free_kept : (t : Table) (s p : ℕ) (old new : Bay) → IsTable t → p < 64 → is_free (table_at t (s * 64 + p)) ≡ false → get_or t.bays.items s old ≡ old → old.free ≢ 63 → IsListed new → new.free ≡ old.free + 1 → length new.cells.items ≡ length old.cells.items → new.free ≢ 1 → IsTable (record { bays = with_item t.bays s new; order = t.order; ready = t.ready; drawn = t.drawn; reserved = t.reserved; used = t.used - 1; alloc = t.alloc })
free_kept t s p old new was small used read not_last listed more size not_first =
    let less = used_within t s p small used in
    let bay = was.bays s old less read in
    let in_use = used_drawn t s p old was small used read in
    let had = bay.used in_use in
    let whole = bay.whole in_use in
    let some = ready_place t.ready t.drawn (place_of t.order s) old bay (omega (arith, more, not_first)) in
    let total : 0 < t.used = some_used t s old was less read in_use in
    table_changed t s old new t.order t.ready t.drawn (t.used - 1) was less read was.order refl was.ready was.drawn
    (record {
      listed = listed;
      empty = λ h. absurd (omega arith);
      bare = λ h. absurd (omega arith);
      whole = λ h. size ∙ bay.whole h;
      used = λ h. omega (arith, had);
      spare = λ h. omega arith;
      full = λ h. absurd (omega arith);
    })
    (record { a = λ q l n h. h; b = λ q l n h. h; d = λ q l n h. h; e = λ q l n h. h })
    (omega (arith, had, whole, size)) (omega arith) (omega (arith, had, whole, size))

-- the first free cell of a full bay
pub free_opened : (t : Table) (s p : ℕ) (old new : Bay) (o : Order) → IsTable t → p < 64 → is_free (table_at t (s * 64 + p)) ≡ false → get_or t.bays.items s old ≡ old → IsListed new → new.free ≡ old.free + 1 → length new.cells.items ≡ length old.cells.items → new.free ≡ 1 → IsOrder o → count_of o ≡ count_of t.order → ((q : ℕ) → q < count_of t.order → place_of o q ≡ swapped (place_of t.order s) t.ready (place_of t.order q)) → IsTable (record { bays = with_item t.bays s new; order = o; ready = t.ready + 1; drawn = t.drawn; reserved = t.reserved; used = t.used - 1; alloc = t.alloc })
free_opened t s p old new o was small used read listed more size first order count places =
    let less = used_within t s p small used in
    let bay = was.bays s old less read in
    let in_use = used_drawn t s p old was small used read in
    let total : 0 < t.used = some_used t s old was less read in_use in
    let full : t.ready ≤ place_of t.order s = by_zone (cases_lt (place_of t.order s) t.ready) (λ h. bay.spare h) in
    let goes : place_of o s ≡ t.ready = places s (omega (arith, was.size)) ∙ swapped_first (place_of t.order s) t.ready in
    table_changed t s old new o (t.ready + 1) t.drawn (t.used - 1) was less read order count (omega arith) was.drawn
    (record {
      listed = listed;
      empty = λ h. absurd (omega arith);
      bare = λ h. absurd (omega arith);
      whole = λ h. size ∙ bay.whole in_use;
      used = λ h. omega arith;
      spare = λ h. omega arith;
      full = λ h. absurd (omega arith);
    })
    (record {
      a = λ q l n h. (zone full in_use q l n).0 h;
      b = λ q l n h. (zone full in_use q l n).1 h;
      d = λ q l n h. (zone full in_use q l n).2 h;
      e = λ q l n h. (zone full in_use q l n).3 h;
    })
    (omega (arith, bay.whole in_use, size)) (omega arith) (omega (arith, bay.whole in_use, size))
  where
    by_zone : (place_of t.order s < t.ready) ⊎ (t.ready ≤ place_of t.order s) → (place_of t.order s < t.ready → 0 < old.free) → t.ready ≤ place_of t.order s
    by_zone (inl h) spare = absurd (omega (arith, spare h))
    by_zone (inr h) spare = h

    zone : t.ready ≤ place_of t.order s → place_of t.order s < t.drawn → (q : ℕ) → q < length t.bays.items → q ≢ s → (place_of o q < t.ready + 1 → place_of t.order q < t.ready) × (t.ready + 1 ≤ place_of o q → t.ready ≤ place_of t.order q) × (place_of o q < t.drawn → place_of t.order q < t.drawn) × (t.drawn ≤ place_of o q → t.drawn ≤ place_of t.order q)
    zone full in_use q l n =
        let apart : place_of t.order q ≢ place_of t.order s = place_other t.order q s was.order (omega (arith, was.size)) (omega (arith, was.size, used_within t s p small used)) n in
        let to : place_of o q ≡ swapped (place_of t.order s) t.ready (place_of t.order q) = places q (omega (arith, was.size)) in
        elim (swapped_cases (place_of t.order s) t.ready (place_of t.order q)) [
          | inl first ↦ absurd (apart first.0)
          | inr (inl second) ↦ (λ h. omega (arith, apart, second.1, second.2), λ h. omega (arith, apart, second.1, second.2), λ h. omega (arith, apart, second.1, second.2), λ h. omega (arith, apart, second.1, second.2))
          | inr (inr neither) ↦ (λ h. omega (arith, neither.1, neither.2), λ h. omega (arith, neither.1, neither.2), λ h. omega (arith, neither.1, neither.2), λ h. omega (arith, neither.1, neither.2))
        ]

-- a swap from the place that was read
pub place_read : (t : Table) (s at to : ℕ) (o : Order) → IsTable t → s < length t.bays.items → at ≡ get_or t.order.place.items s at → ((q : ℕ) → q < count_of t.order → place_of o q ≡ swapped at to (place_of t.order q)) → (q : ℕ) → q < count_of t.order → place_of o q ≡ swapped (place_of t.order s) to (place_of t.order q)
place_read t s at to o was less read places q within =
    let is : at ≡ place_of t.order s = read ∙ get_or_default t.order.place.items s at 0 (omega (arith, was.order.size, was.size)) in
    places q within ∙ ap (λ i. swapped i to (place_of t.order q)) is

pub place_within : (t : Table) (s at : ℕ) → IsTable t → s < length t.bays.items → at ≡ get_or t.order.place.items s at → at < count_of t.order
place_within t s at was less read =
    let is : at ≡ place_of t.order s = read ∙ get_or_default t.order.place.items s at 0 (omega (arith, was.order.size, was.size)) in
    omega (arith, is, was.order.of s (omega (arith, less, was.size)))

-- a place that moves twice
moved : (at p m p' ready drawn : ℕ) → at < ready → ready ≤ drawn → p ≢ at → m ≡ swapped at (ready - 1) p → p' ≡ swapped (ready - 1) (drawn - 1) m → (p' < ready - 1 → p < ready) × (ready - 1 ≤ p' → ready ≤ p) × (p' < drawn - 1 → p < drawn) × (drawn - 1 ≤ p' → drawn ≤ p)
moved at p m p' ready drawn below low apart via to =
    elim (swapped_cases at (ready - 1) p) [
      | inl first ↦ absurd (apart first.0)
      | inr (inl second) ↦ then' (via ∙ second.2) second.1
      | inr (inr neither) ↦ last' (via ∙ neither.2) neither.1
    ]
  where
    all : (p' < ready - 1 → p < ready) → (ready - 1 ≤ p' → ready ≤ p) → (p' < drawn - 1 → p < drawn) → (drawn - 1 ≤ p' → drawn ≤ p) → (p' < ready - 1 → p < ready) × (ready - 1 ≤ p' → ready ≤ p) × (p' < drawn - 1 → p < drawn) × (drawn - 1 ≤ p' → drawn ≤ p)
    all a b d e = (a, b, d, e)

    then' : m ≡ at → p ≡ ready - 1 → (p' < ready - 1 → p < ready) × (ready - 1 ≤ p' → ready ≤ p) × (p' < drawn - 1 → p < drawn) × (drawn - 1 ≤ p' → drawn ≤ p)
    then' is e =
        elim (swapped_cases (ready - 1) (drawn - 1) m) [
          | inl first ↦ absurd (apart (e ∙ sym first.0 ∙ is))
          | inr (inl second) ↦ absurd (apart (omega (arith, second.0, second.1)))
          | inr (inr neither) ↦ all (λ h. omega (arith, neither.2)) (λ h. absurd (neither.0 (omega (arith, neither.2)))) (λ h. omega (arith, neither.2)) (λ h. absurd (neither.1 (omega (arith, neither.2))))
        ]

    last' : m ≡ p → p ≢ ready - 1 → (p' < ready - 1 → p < ready) × (ready - 1 ≤ p' → ready ≤ p) × (p' < drawn - 1 → p < drawn) × (drawn - 1 ≤ p' → drawn ≤ p)
    last' is differs =
        elim (swapped_cases (ready - 1) (drawn - 1) m) [
          | inl first ↦ absurd (differs (sym is ∙ first.0))
          | inr (inl second) ↦ all (λ h. omega (arith, second.1, second.2)) (λ h. omega (arith, second.1, second.2)) (λ h. omega (arith, second.1, second.2)) (λ h. omega (arith, second.1, second.2, differs))
          | inr (inr neither) ↦ all (λ h. omega (arith, neither.2)) (λ h. omega (arith, neither.2)) (λ h. omega (arith, neither.2)) (λ h. omega (arith, neither.1, neither.2))
        ]

-- the last cell in use of a segment, and the segment with it, goes
pub emptied_written : (t : Table) (s p : ℕ) (old new : Bay) → IsTable t → p < 64 → is_free (table_at t (s * 64 + p)) ≡ false → get_or t.bays.items s old ≡ old → old.free ≡ 63 → new.cells.items ≡ [] → Writes (table_at t) (at_bays (set t.bays.items s new)) (s * 64 + p) (Free None)
emptied_written t s p old new was small used read last bare =
    let less = used_within t s p small used in
    let bay = was.bays s old less read in
    let whole = bay.whole (used_drawn t s p old was small used read) in
    let nothing : (n : ℕ) → hidden (bay_at new n) ≡ Free None = λ n. ap (λ xs. hidden (cell_at xs n)) bare in
    at_set t.bays.items s p old new (Free None) less small read (nothing p)
    (λ n other. nothing n ∙ sym (hidden_free (bay_at old n) (others_free old.cells.items p (used_in t s p old small used read) (omega (arith, bay.listed.counted, last, whole)) n other)))

pub emptied_ready : (t : Table) (s p : ℕ) (old : Bay) → IsTable t → p < 64 → is_free (table_at t (s * 64 + p)) ≡ false → get_or t.bays.items s old ≡ old → old.free ≡ 63 → place_of t.order s < t.ready
emptied_ready t s p old was small used read last =
    ready_place t.ready t.drawn (place_of t.order s) old (was.bays s old (used_within t s p small used) read) (omega (arith, last))

pub emptied : (t : Table) (s p : ℕ) (old new : Bay) (mid o : Order) → IsTable t → p < 64 → is_free (table_at t (s * 64 + p)) ≡ false → get_or t.bays.items s old ≡ old → old.free ≡ 63 → IsListed new → length new.cells.items ≡ 0 → vec_capacity new.cells ≡ 0 → new.free ≡ 0 → count_of mid ≡ count_of t.order → ((q : ℕ) → q < count_of t.order → place_of mid q ≡ swapped (place_of t.order s) (t.ready - 1) (place_of t.order q)) → IsOrder o → count_of o ≡ count_of mid → ((q : ℕ) → q < count_of mid → place_of o q ≡ swapped (t.ready - 1) (t.drawn - 1) (place_of mid q)) → IsTable (record { bays = with_item t.bays s new; order = o; ready = t.ready - 1; drawn = t.drawn - 1; reserved = t.reserved; used = t.used - 1; alloc = t.alloc })
emptied t s p old new mid o was small used read last listed bare room none count_mid places_mid order count places =
    let less = used_within t s p small used in
    let bay = was.bays s old less read in
    let in_use = used_drawn t s p old was small used read in
    let whole = bay.whole in_use in
    let some : 0 < t.used = some_used t s old was less read in_use in
    let at = emptied_ready t s p old was small used read last in
    let goes : place_of o s ≡ t.drawn - 1 = places s (omega (arith, count_mid, was.size)) ∙ ap (swapped (t.ready - 1) (t.drawn - 1)) (places_mid s (omega (arith, was.size)) ∙ swapped_first (place_of t.order s) (t.ready - 1)) ∙ swapped_first (t.ready - 1) (t.drawn - 1) in
    table_changed t s old new o (t.ready - 1) (t.drawn - 1) (t.used - 1) was less read order (count ∙ count_mid) (omega (arith, was.ready)) (omega (arith, was.drawn))
    (record {
      listed = listed;
      empty = λ h. bare;
      bare = λ h. room;
      whole = λ h. absurd (omega arith);
      used = λ h. absurd (omega arith);
      spare = λ h. absurd (omega (arith, was.ready));
      full = λ h. none;
    })
    (record {
      a = λ q l n h. (zone at less q l n).0 h;
      b = λ q l n h. (zone at less q l n).1 h;
      d = λ q l n h. (zone at less q l n).2 h;
      e = λ q l n h. (zone at less q l n).3 h;
    })
    (omega (arith, whole, bare, none, last)) (omega (arith, none, last)) (omega (arith, whole, bare, none, last, at, was.ready))
  where
    zone : place_of t.order s < t.ready → s < length t.bays.items → (q : ℕ) → q < length t.bays.items → q ≢ s → (place_of o q < t.ready - 1 → place_of t.order q < t.ready) × (t.ready - 1 ≤ place_of o q → t.ready ≤ place_of t.order q) × (place_of o q < t.drawn - 1 → place_of t.order q < t.drawn) × (t.drawn - 1 ≤ place_of o q → t.drawn ≤ place_of t.order q)
    zone at less q l n =
        let apart : place_of t.order q ≢ place_of t.order s = place_other t.order q s was.order (omega (arith, was.size)) (omega (arith, was.size)) n in
        let via : place_of mid q ≡ swapped (place_of t.order s) (t.ready - 1) (place_of t.order q) = places_mid q (omega (arith, was.size)) in
        let to : place_of o q ≡ swapped (t.ready - 1) (t.drawn - 1) (place_of mid q) = places q (omega (arith, count_mid, was.size)) in
        moved (place_of t.order s) (place_of t.order q) (place_of mid q) (place_of o q) t.ready t.drawn at was.ready apart via to

-- no cells
pub none_listed : (c : Bay) → c.cells.items ≡ [] → c.first ≡ None → c.free ≡ 0 → IsListed c
none_listed c bare first none = record {
  short = omega (arith, ap length bare);
  counted = none ∙ sym (ap (count_by is_free) bare);
  listed = subst (λ n. IsFreeList (bay_at c) (length c.cells.items) n c.first) (sym none) first;
}

whole_number : (n : ℕ) → n ≡ n / 64 * 64 + n % 64
whole_number n = omega arith

used_part : (t : Table) (n : ℕ) → is_free (table_at t n) ≡ false → is_free (table_at t (n / 64 * 64 + n % 64)) ≡ false
used_part t n used = subst (λ k. is_free (table_at t k) ≡ false) (whole_number n) used

-- where a cell in use is found
pub used_bay : (t : Table) (n : ℕ) → is_free (table_at t n) ≡ false → n / 64 < length t.bays.items
used_bay t n used = used_within t (n / 64) (n % 64) (omega arith) (used_part t n used)

pub used_place : (t : Table) (n : ℕ) (c : Bay) → is_free (table_at t n) ≡ false → get_or t.bays.items (n / 64) c ≡ c → n % 64 < length c.cells.items
used_place t n c used read = within c.cells.items (n % 64) (used_in t (n / 64) (n % 64) c (omega arith) (used_part t n used) read)

pub look_is : (t : Table) (n : ℕ) (c : Bay) (x : Cell) → is_free (table_at t n) ≡ false → get_or t.bays.items (n / 64) c ≡ c → x ≡ get_or c.cells.items (n % 64) x → table_at t n ≡ x
look_is t n c x used read reads =
    ap (table_at t) (whole_number n)
    ∙ at_is t.bays.items (n / 64) (n % 64) c (used_bay t n used) (omega arith) read
    ∙ hidden_used (bay_at c (n % 64)) (used_in t (n / 64) (n % 64) c (omega arith) (used_part t n used) read)
    ∙ sym (read_is c.cells.items (n % 64) x (used_place t n c used read) reads)

-- a cell in use is written, and stays in use
pub rewritten : (t : Table) (s p : ℕ) (old new : Bay) → IsTable t → p < 64 → is_free (table_at t (s * 64 + p)) ≡ false → get_or t.bays.items s old ≡ old → IsListed new → new.free ≡ old.free → length new.cells.items ≡ length old.cells.items → IsTable (record { bays = with_item t.bays s new; order = t.order; ready = t.ready; drawn = t.drawn; reserved = t.reserved; used = t.used; alloc = t.alloc })
rewritten t s p old new was small used read listed same size =
    let less = used_within t s p small used in
    let bay = was.bays s old less read in
    table_changed t s old new t.order t.ready t.drawn t.used was less read was.order refl was.ready was.drawn
    (record {
      listed = listed;
      empty = λ h. size ∙ bay.empty h;
      bare = λ h. absurd (omega (arith, used_drawn t s p old was small used read));
      whole = λ h. size ∙ bay.whole h;
      used = λ h. omega (arith, bay.used h);
      spare = λ h. omega (arith, bay.spare h);
      full = λ h. same ∙ bay.full h;
    })
    (record { a = λ q l n h. h; b = λ q l n h. h; d = λ q l n h. h; e = λ q l n h. h })
    (omega (arith, same, size)) (omega arith) (omega (arith, same, size))

pub rewritten_here : (t : Table) (s p : ℕ) (old new : Bay) (cell : Cell) → p < 64 → is_free (table_at t (s * 64 + p)) ≡ false → get_or t.bays.items s old ≡ old → Writes (bay_at old) (bay_at new) p cell → is_free cell ≡ false → Writes (table_at t) (at_bays (set t.bays.items s new)) (s * 64 + p) cell
rewritten_here t s p old new cell small used read written stays =
    subst (λ x. Writes (table_at t) (at_bays (set t.bays.items s new)) (s * 64 + p) x) (hidden_used cell stays)
    (at_set t.bays.items s p old new cell (used_within t s p small used) small read (ap hidden written.here) (λ n other. ap hidden (written.others n other)))

item_of : (xs : List Bay) (k : ℕ) → k < length xs → (c : Bay) × ((d : Bay) → get_or xs k d ≡ c)
item_of [] k less = absurd (omega arith)
item_of (x ∷ xs) zero less = (x, λ d. refl)
item_of (x ∷ xs) (suc k) less = item_of xs k (omega arith)

-- with a bay ready, a cell that is drawn is free
pub some_left : (t : Table) → IsTable t → 0 < t.ready → t.used < 64 * t.drawn
some_left t was some =
    let first : 0 < count_of t.order = omega (arith, was.ready, was.drawn, was.reserved, was.size) in
    let s = get_or t.order.order.items 0 0 in
    let less : s < length t.bays.items = omega (arith, was.order.at 0 first, was.size) in
    let item = item_of t.bays.items s less in
    let read : get_or t.bays.items s item.0 ≡ item.0 = item.1 item.0 in
    let here : place_of t.order s ≡ 0 = was.order.back 0 first in
    let spare : 0 < item.0.free = (was.bays s item.0 less read).spare (omega arith) in
    omega (arith, was.used, get_or-le-sum_by free_of t.bays.items s item.0 less, ap free_of read)

busy_sum : (bays : List Bay) → sum_by busy_of bays ≤ sum_by used_of bays
busy_sum [] = omega arith
busy_sum (x ∷ bays) = omega (arith, busy_sum bays, sum_by-cons busy_of x bays, sum_by-cons used_of x bays)

-- each drawn segment has a cell in use
pub busy_fits : (t : Table) → IsTable t → t.drawn ≤ t.used
busy_fits t was = omega (arith, was.busy, was.held, busy_sum t.bays.items)
