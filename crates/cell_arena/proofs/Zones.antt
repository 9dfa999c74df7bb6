-- The zones of a table's bays, and what stands at a number.
use Rattle.std.proofs.Common.{◌≡◌, ◌≢◌, ℕ, true, false, ◌+◌, ◌*◌, ◌/◌, ◌%◌, ◌<◌, ◌≤◌, ◌==◌, List, [], length, map, get_or, set, None, cond, refl, sym, ap, ◌∙◌, inl, inr, ◌⊎◌, arith, subst}
use Rattle.std.proofs.lemmas.Bool.{cases_eq, eq-eqb, ne_eqb}
use Rattle.std.proofs.lemmas.List.{get_or-set_same, get_or-set_other, length-set, length-map, get_or-map, map-set}
use Rattle.std.proofs.lemmas.List.Sums.{sum_by-set}
use Rattle.std.specs.Vec.{with_item}
use Rattle.cell_arena.specs.declared.cell.Cell.{Cell}
use Rattle.cell_arena.specs.declared.cell.Cell.TheVariants.{Free, Head, Rest}
use Rattle.cell_arena.specs.declared.bay.Bay.{Bay}
use Rattle.cell_arena.specs.declared.order.Order.{Order}
use Rattle.cell_arena.specs.declared.table.Table.{Table}
use Rattle.cell_arena.specs.Chain.{is_free, cell_at, bay_at, Writes}
use Rattle.cell_arena.proofs.FreeList.{within}
use Rattle.cell_arena.specs.Order.{IsOrder, count_of, place_of, swapped}
use Rattle.cell_arena.specs.Table.{hidden, bay_cells, at_bays, IsBay, free_of, used_of, busy_of, IsTable}

-- where a place goes, by cases
pub swapped_cases : (i j p : ℕ) → ((p ≡ i) × (swapped i j p ≡ j)) ⊎ (((p ≢ i) × (p ≡ j) × (swapped i j p ≡ i)) ⊎ ((p ≢ i) × (p ≢ j) × (swapped i j p ≡ p)))
swapped_cases i j p =
    elim (cases_eq p i) [
      | inl first ↦ inl (first, ap (λ b. cond b j (cond (p == j) i p)) (eq-eqb p i first))
      | inr other ↦ inr (elim (cases_eq p j) [
        | inl second ↦ inl (other, second, ap (λ b. cond b j (cond (p == j) i p)) (ne_eqb p i other) ∙ ap (λ b. cond b i p) (eq-eqb p j second))
        | inr neither ↦ inr (other, neither, ap (λ b. cond b j (cond (p == j) i p)) (ne_eqb p i other) ∙ ap (λ b. cond b i p) (ne_eqb p j neither))
      ])
    ]

pub swapped_first : (i j : ℕ) → swapped i j i ≡ j
swapped_first i j = ap (λ b. cond b j (cond (i == j) i i)) (eq-eqb i i refl)

-- two numbers have two places
pub place_other : (o : Order) (q s : ℕ) → IsOrder o → q < count_of o → s < count_of o → q ≢ s → place_of o q ≢ place_of o s
place_other o q s is less less' other same = other (sym (is.there q less) ∙ ap (λ p. get_or o.order.items p 0) same ∙ is.there s less')

-- a bay whose place stays in its zone
pub zone_same : (ready drawn place ready' drawn' place' : ℕ) (c : Bay) → IsBay ready drawn place c → (place' < ready' → place < ready) → (ready' ≤ place' → ready ≤ place) → (place' < drawn' → place < drawn) → (drawn' ≤ place' → drawn ≤ place) → IsBay ready' drawn' place' c
zone_same ready drawn place ready' drawn' place' c was a b d e = record {
  listed = was.listed;
  empty = λ h. was.empty (e h);
  bare = λ h. was.bare (e h);
  whole = λ h. was.whole (d h);
  used = λ h. was.used (d h);
  spare = λ h. was.spare (a h);
  full = λ h. was.full (b h);
}

-- what holds of each bay after one is written
pub bays_set : (bays : List Bay) (s : ℕ) (new : Bay) (P : ℕ → Bay → Type 0) → s < length bays → P s new → ((q : ℕ) (c : Bay) → q ≢ s → q < length bays → get_or bays q c ≡ c → P q c) → (q : ℕ) (c : Bay) → q < length bays → get_or (set bays s new) q c ≡ c → P q c
bays_set bays s new P less here others q c within read =
    elim (cases_eq q s) [
      | inl same ↦
          let is : new ≡ c = sym (get_or-set_same bays s new c less) ∙ ap (λ k. get_or (set bays s new) k c) (sym same) ∙ read in
          subst (λ k. P k c) (sym same) (subst (λ x. P s x) is here)
      | inr other ↦ others q c other within (sym (get_or-set_other bays s q new c other) ∙ read)
    ]

pub parts : (s p : ℕ) → p < 64 → ((s * 64 + p) / 64 ≡ s) × ((s * 64 + p) % 64 ≡ p)
parts s p less = (omega arith, omega arith)

pub bay_is : (bays : List Bay) (s : ℕ) (c : Bay) → s < length bays → get_or bays s c ≡ c → get_or (map bay_cells bays) s [] ≡ bay_cells c
bay_is bays s c less read = get_or-map bay_cells bays s c [] less ∙ ap bay_cells read

-- a cell of a bay is written, and what is hidden in the others may change
pub at_set : (bays : List Bay) (s p : ℕ) (old new : Bay) (cell : Cell) → s < length bays → p < 64 → get_or bays s old ≡ old → hidden (bay_at new p) ≡ hidden cell → ((n : ℕ) → n ≢ p → hidden (bay_at new n) ≡ hidden (bay_at old n)) → Writes (at_bays bays) (at_bays (set bays s new)) (s * 64 + p) (hidden cell)
at_set bays s p old new cell less small read stands stays = record { here = here; others = others }
  where
    now : (n : ℕ) → n / 64 ≡ s → get_or (map bay_cells (set bays s new)) (n / 64) [] ≡ bay_cells new
    now n is = ap (λ k. get_or (map bay_cells (set bays s new)) k []) is ∙ ap (λ xs. get_or xs s []) (map-set bay_cells bays s new) ∙ get_or-set_same (map bay_cells bays) s (bay_cells new) [] (omega (arith, length-map bays bay_cells))

    before : (n : ℕ) → n / 64 ≡ s → get_or (map bay_cells bays) (n / 64) [] ≡ bay_cells old
    before n is = ap (λ k. get_or (map bay_cells bays) k []) is ∙ bay_is bays s old less read

    here : at_bays (set bays s new) (s * 64 + p) ≡ hidden cell
    here = ap (λ xs. hidden (cell_at xs ((s * 64 + p) % 64))) (now (s * 64 + p) (parts s p small).0) ∙ ap (λ k. hidden (cell_at (bay_cells new) k)) (parts s p small).1 ∙ stands

    others : (n : ℕ) → n ≢ s * 64 + p → at_bays (set bays s new) n ≡ at_bays bays n
    others n other =
        elim (cases_eq (n / 64) s) [
          | inl same ↦
              let differs : n % 64 ≢ p = λ e. other (omega arith) in
              ap (λ xs. hidden (cell_at xs (n % 64))) (now n same) ∙ stays (n % 64) differs ∙ sym (ap (λ xs. hidden (cell_at xs (n % 64))) (before n same))
          | inr apart ↦ ap (λ xs. hidden (cell_at xs (n % 64))) (ap (λ xs. get_or xs (n / 64) []) (map-set bay_cells bays s new) ∙ get_or-set_other (map bay_cells bays) s (n / 64) (bay_cells new) [] apart)
        ]

-- what stands at a number of a bay
pub at_is : (bays : List Bay) (s p : ℕ) (c : Bay) → s < length bays → p < 64 → get_or bays s c ≡ c → at_bays bays (s * 64 + p) ≡ hidden (bay_at c p)
at_is bays s p c less small read =
    ap (λ k. hidden (cell_at (get_or (map bay_cells bays) k []) ((s * 64 + p) % 64))) (parts s p small).0
    ∙ ap (λ xs. hidden (cell_at xs ((s * 64 + p) % 64))) (bay_is bays s c less read)
    ∙ ap (λ k. hidden (bay_at c k)) (parts s p small).1

pub hidden_used : (c : Cell) → is_free c ≡ false → hidden c ≡ c
hidden_used (Free next) e = absurd (cc)
hidden_used (Head kind head) e = refl
hidden_used (Rest bytes next) e = refl

pub hidden_free : (c : Cell) → is_free c ≡ true → hidden c ≡ Free None
hidden_free (Free next) e = refl
hidden_free (Head kind head) e = absurd (cc)
hidden_free (Rest bytes next) e = absurd (cc)

pub free_hidden : (c : Cell) → is_free (hidden c) ≡ is_free c
free_hidden (Free next) = refl
free_hidden (Head kind head) = refl
free_hidden (Rest bytes next) = refl

-- the places of the others keep their zones
pub record KeepsZones (t : Table) (s : ℕ) (o : Order) (ready drawn : ℕ) : Type 0 where
  pub a : (q : ℕ) → q < length t.bays.items → q ≢ s → place_of o q < ready → place_of t.order q < t.ready
  pub b : (q : ℕ) → q < length t.bays.items → q ≢ s → ready ≤ place_of o q → t.ready ≤ place_of t.order q
  pub d : (q : ℕ) → q < length t.bays.items → q ≢ s → place_of o q < drawn → place_of t.order q < t.drawn
  pub e : (q : ℕ) → q < length t.bays.items → q ≢ s → drawn ≤ place_of o q → t.drawn ≤ place_of t.order q

-- a bay is written, and moves
pub table_changed : (t : Table) (s : ℕ) (old new : Bay) (o : Order) (ready drawn used : ℕ) → IsTable t → s < length t.bays.items → get_or t.bays.items s old ≡ old → IsOrder o → count_of o ≡ count_of t.order → ready ≤ drawn → drawn ≤ t.reserved → IsBay ready drawn (place_of o s) new → KeepsZones t s o ready drawn → used + used_of old ≡ t.used + used_of new → used + new.free + 64 * t.drawn ≡ t.used + old.free + 64 * drawn → drawn + busy_of old ≡ t.drawn + busy_of new → IsTable (record { bays = with_item t.bays s new; order = o; ready = ready; drawn = drawn; reserved = t.reserved; used = used; alloc = t.alloc })
table_changed t s old new o ready drawn used was less read order count low high here zones one total busy =
    let bays = t.bays.items in
    let size : length (set bays s new) ≡ length bays = length-set bays s new in
    let change = sum_by-set free_of bays s new old less in
    let is : free_of (get_or bays s old) ≡ old.free = ap free_of read in
    let change' = sum_by-set used_of bays s new old less in
    let is' : used_of (get_or bays s old) ≡ used_of old = ap used_of read in
    let change'' = sum_by-set busy_of bays s new old less in
    let is'' : busy_of (get_or bays s old) ≡ busy_of old = ap busy_of read in
    record {
      few = omega (arith, size, was.few);
      room = was.room ∙ sym count;
      order = order;
      size = count ∙ was.size ∙ sym size;
      ready = low;
      drawn = high;
      reserved = omega (arith, size, was.reserved);
      bays = λ q c within reads. bays_set bays s new (λ q c. IsBay ready drawn (place_of o q) c) less here
          (λ q c other within reads. zone_same t.ready t.drawn (place_of t.order q) ready drawn (place_of o q) c (was.bays q c within reads) (zones.a q within other) (zones.b q within other) (zones.d q within other) (zones.e q within other)) q c (omega (arith, size, within)) reads;
      busy = omega (arith, change'', is'', was.busy, busy);
      held = omega (arith, change', is', was.held, one);
      used = omega (arith, change, is, was.used, total);
    }
