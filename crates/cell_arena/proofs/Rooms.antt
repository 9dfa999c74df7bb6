-- A table with more bays, and one that gives all its segments back.
use Rattle.std.proofs.Common.{◌≡◌, ℕ, zero, suc, ◌+◌, ◌-◌, ◌*◌, ◌/◌, ◌%◌, ◌<◌, ◌^◌, List, [], ◌∷◌, ◌++◌, length, map, get_or, replicate, sum_by, vec_capacity, refl, sym, ap, ◌∙◌, inl, inr, ◌⊎◌, arith, subst}
use Rattle.std.proofs.lemmas.Bool.{cases_eq, cases_lt}
use Rattle.std.proofs.lemmas.List.{length_push, get_or_push, get_or_append_left}
use Rattle.std.proofs.lemmas.List.Sums.{sum_by-cons}
use Rattle.std.specs.Cmp.{nat_cmp_total}
use Rattle.std.specs.FinMap.{same_map, nat_cmp-IsAntisymmetric}
use Rattle.cell_arena.specs.declared.order.Order.{Order}
use Rattle.cell_arena.specs.declared.bay.Bay.{Bay}
use Rattle.cell_arena.specs.declared.table.Table.{Table}
use Rattle.cell_arena.specs.Chain.{IsBare, IsLinked, cell_at, record_at}
use Rattle.cell_arena.specs.Loan.{Share, with_rooms}
use Rattle.cell_arena.specs.Order.{IsOrder, IsOrderIn, IsWider, count_of, place_of}
use Rattle.cell_arena.specs.Region.{IsRegion, region_of, roomier}
use Rattle.cell_arena.specs.Table.{IsTable, IsTableIn, IsBay, SameCells, bay_cells, hidden, share_of, table_at, free_of, used_of, busy_of, numbers_in}
use Rattle.cell_arena.proofs.Records.{get_held}
use Rattle.cell_arena.proofs.Tables.{none_listed}

-- the next number, in the last place
pub pushed_order : (o p : Order) (most : ℕ) → IsOrderIn most o → p.order.items ≡ o.order.items ++ count_of o ∷ [] → p.place.items ≡ o.place.items ++ count_of o ∷ [] → vec_capacity p.order ≡ most → vec_capacity p.place ≡ most → IsOrderIn most p
pushed_order o p most was order place order_room place_room =
    let more : count_of p ≡ count_of o + 1 = ap length order ∙ length_push o.order.items (count_of o) in
    let wider : length p.place.items ≡ count_of o + 1 = ap length place ∙ length_push o.place.items (count_of o) ∙ ap (λ n. n + 1) was.size in
    record {
      size = wider ∙ sym more;
      at = λ i less. by_at i (omega (arith, more)) (cases_eq i (count_of o));
      back = λ i less. by_back i (omega (arith, more)) (cases_eq i (count_of o));
      of = λ q less. by_of q (omega (arith, more)) (cases_eq q (count_of o));
      there = λ q less. by_there q (omega (arith, more)) (cases_eq q (count_of o));
      order_room = order_room;
      place_room = place_room;
    }
  where
    more : count_of p ≡ count_of o + 1
    more = ap length order ∙ length_push o.order.items (count_of o)

    number : (i : ℕ) → i < count_of o → get_or p.order.items i 0 ≡ get_or o.order.items i 0
    number i less = ap (λ xs. get_or xs i 0) order ∙ get_or_append_left o.order.items (count_of o ∷ []) 0 i less

    last_number : get_or p.order.items (count_of o) 0 ≡ count_of o
    last_number = ap (λ xs. get_or xs (count_of o) 0) order ∙ get_or_push o.order.items (count_of o) 0 (count_of o) refl

    placed : (q : ℕ) → q < count_of o → get_or p.place.items q 0 ≡ get_or o.place.items q 0
    placed q less = ap (λ xs. get_or xs q 0) place ∙ get_or_append_left o.place.items (count_of o ∷ []) 0 q (omega (arith, was.size))

    last_place : get_or p.place.items (count_of o) 0 ≡ count_of o
    last_place = ap (λ xs. get_or xs (count_of o) 0) place ∙ get_or_push o.place.items (count_of o) 0 (count_of o) was.size

    by_at : (i : ℕ) → i < count_of o + 1 → (i ≡ count_of o) ⊎ (i ≡ count_of o → ⊥) → get_or p.order.items i 0 < count_of p
    by_at i less (inl same) = omega (arith, ap (λ k. get_or p.order.items k 0) same, last_number, more)
    by_at i less (inr other) = omega (arith, number i (omega arith), was.at i (omega arith), more)

    by_back : (i : ℕ) → i < count_of o + 1 → (i ≡ count_of o) ⊎ (i ≡ count_of o → ⊥) → get_or p.place.items (get_or p.order.items i 0) 0 ≡ i
    by_back i less (inl same) = ap (λ k. get_or p.place.items (get_or p.order.items k 0) 0) same ∙ ap (λ k. get_or p.place.items k 0) last_number ∙ last_place ∙ sym same
    by_back i less (inr other) = ap (λ k. get_or p.place.items k 0) (number i (omega arith)) ∙ placed (get_or o.order.items i 0) (was.at i (omega arith)) ∙ was.back i (omega arith)

    by_of : (q : ℕ) → q < count_of o + 1 → (q ≡ count_of o) ⊎ (q ≡ count_of o → ⊥) → get_or p.place.items q 0 < count_of p
    by_of q less (inl same) = omega (arith, ap (λ k. get_or p.place.items k 0) same, last_place, more)
    by_of q less (inr other) = omega (arith, placed q (omega arith), was.of q (omega arith), more)

    by_there : (q : ℕ) → q < count_of o + 1 → (q ≡ count_of o) ⊎ (q ≡ count_of o → ⊥) → get_or p.order.items (get_or p.place.items q 0) 0 ≡ q
    by_there q less (inl same) = ap (λ k. get_or p.order.items (get_or p.place.items k 0) 0) same ∙ ap (λ k. get_or p.order.items k 0) last_place ∙ last_number ∙ sym same
    by_there q less (inr other) = ap (λ k. get_or p.order.items k 0) (placed q (omega arith)) ∙ number (get_or o.place.items q 0) (was.of q (omega arith)) ∙ was.there q (omega arith)

-- the same numbers in the same places
pub same_order : (o p : Order) (most : ℕ) → IsOrder o → p.order.items ≡ o.order.items → p.place.items ≡ o.place.items → vec_capacity p.order ≡ most → vec_capacity p.place ≡ most → IsWider most o p
same_order o p most was order place order_room place_room = record {
  order = record {
    size = rw (order, place) was.size;
    at = rw order was.at;
    back = rw (order, place) was.back;
    of = rw (order, place) was.of;
    there = rw (order, place) was.there;
    order_room = order_room;
    place_room = place_room;
  };
  numbers = order;
  places = place;
}

-- a table with more memory, and the same bays
pub widened_table : (t u : Table) (most : ℕ) → IsTable t → u.bays.items ≡ t.bays.items → vec_capacity u.bays ≡ most → IsWider most t.order u.order → u.ready ≡ t.ready → u.drawn ≡ t.drawn → u.reserved ≡ t.reserved → u.used ≡ t.used → IsTableIn most u
widened_table t u most was bays room order ready drawn reserved used = record {
  few = rw bays was.few;
  room = room;
  order = order.order;
  size = rw (order.numbers, bays) was.size;
  ready = rw (ready, drawn) was.ready;
  drawn = rw (drawn, reserved) was.drawn;
  reserved = rw (reserved, bays) was.reserved;
  bays = rw (ready, drawn, order.places, bays) was.bays;
  busy = rw (drawn, bays) was.busy;
  held = rw (used, bays) was.held;
  used = rw (used, bays, drawn) was.used;
}

pushed_cells : (bays : List Bay) (bare : Bay) → IsBare bare → (k : ℕ) → get_or (map bay_cells (bays ++ bare ∷ [])) k [] ≡ get_or (map bay_cells bays) k []
pushed_cells [] bare is zero = is.cells
pushed_cells [] bare is (suc k) = refl
pushed_cells (s ∷ bays) bare is zero = refl
pushed_cells (s ∷ bays) bare is (suc k) = pushed_cells bays bare is k

-- a bay without a segment has no cell
pub opened_cells : (t u : Table) (bare : Bay) → IsBare bare → u.bays.items ≡ t.bays.items ++ bare ∷ [] → SameCells t u
opened_cells t u bare is bays n =
    ap (λ (xs : List Bay). hidden (cell_at (get_or (map bay_cells xs) (n / 64) []) (n % 64))) bays
    ∙ ap (λ cells. hidden (cell_at cells (n % 64))) (pushed_cells t.bays.items bare is (n / 64))

pushed_sum : (f : Bay → ℕ) (bays : List Bay) (bare : Bay) → f bare ≡ 0 → sum_by f (bays ++ bare ∷ []) ≡ sum_by f bays
pushed_sum f [] bare none = sum_by-cons f bare [] ∙ omega (arith, none)
pushed_sum f (s ∷ bays) bare none = sum_by-cons f s (bays ++ bare ∷ []) ∙ ap (λ n. f s + n) (pushed_sum f bays bare none) ∙ sym (sum_by-cons f s bays)

-- a table with one more bay
pub opened_table : (t u : Table) (bare : Bay) (most : ℕ) → IsTableIn most t → vec_capacity u.bays ≡ most → IsBare bare → length t.bays.items < 2 ^ 14 → u.bays.items ≡ t.bays.items ++ bare ∷ [] → IsOrderIn most u.order → count_of u.order ≡ count_of t.order + 1 → place_of u.order (count_of t.order) ≡ count_of t.order → ((q : ℕ) → q < count_of t.order → place_of u.order q ≡ place_of t.order q) → u.ready ≡ t.ready → u.drawn ≡ t.drawn → u.reserved ≡ t.reserved → u.used ≡ t.used → IsTableIn most u
opened_table t u bare most was room is few bays order count last places ready drawn reserved used =
    record {
      few = omega (arith, long);
      room = room;
      order = order;
      size = omega (arith, count, was.size, long);
      ready = omega (arith, ready, drawn, was.ready);
      drawn = omega (arith, drawn, reserved, was.drawn);
      reserved = omega (arith, reserved, long, was.reserved);
      bays = λ s bay less read. by_bay s bay (omega (arith, long)) (sym (ap (λ (xs : List Bay). get_or xs s bay) bays) ∙ read) (cases_eq s (length t.bays.items));
      busy = drawn ∙ was.busy ∙ sym (ap (sum_by busy_of) bays ∙ pushed_sum busy_of t.bays.items bare (omega (arith, none_in)));
      held = used ∙ was.held ∙ sym (ap (sum_by used_of) bays ∙ pushed_sum used_of t.bays.items bare none_in);
      used = omega (arith, used, drawn, was.used, ap (sum_by free_of) bays ∙ pushed_sum free_of t.bays.items bare is.free);
    }
  where
    long : length u.bays.items ≡ length t.bays.items + 1
    long = ap length bays ∙ length_push t.bays.items bare

    none_in : used_of bare ≡ 0
    none_in = omega (arith, ap length is.cells)

    by_bay : (s : ℕ) (bay : Bay) → s < length t.bays.items + 1 → get_or (t.bays.items ++ bare ∷ []) s bay ≡ bay → (s ≡ length t.bays.items) ⊎ (s ≡ length t.bays.items → ⊥) → IsBay u.ready u.drawn (place_of u.order s) bay
    by_bay s bay less read (inl same) =
        let it : bay ≡ bare = sym read ∙ get_or_push t.bays.items bare bay s (sym same) in
        let place : place_of u.order s ≡ length t.bays.items = ap (place_of u.order) (same ∙ sym was.size) ∙ last ∙ was.size in
        subst (IsBay u.ready u.drawn (place_of u.order s)) (sym it) (record {
          listed = none_listed bare is.cells is.first is.free;
          empty = λ h. ap length is.cells;
          bare = λ h. is.room;
          whole = λ h. absurd (omega (arith, place, drawn, was.drawn, was.reserved));
          used = λ h. absurd (omega (arith, place, drawn, was.drawn, was.reserved));
          spare = λ h. absurd (omega (arith, place, ready, was.ready, was.drawn, was.reserved));
          full = λ h. is.free;
        })
    by_bay s bay less read (inr other) =
        let old = was.bays s bay (omega arith) (sym (get_or_append_left t.bays.items (bare ∷ []) bay s (omega arith)) ∙ read) in
        let place : place_of u.order s ≡ place_of t.order s = places s (omega (arith, was.size)) in
        record {
          listed = old.listed;
          empty = λ h. old.empty (omega (arith, place, drawn));
          bare = λ h. old.bare (omega (arith, place, drawn));
          whole = λ h. old.whole (omega (arith, place, drawn));
          used = λ h. old.used (omega (arith, place, drawn));
          spare = λ h. old.spare (omega (arith, place, ready));
          full = λ h. old.full (omega (arith, place, ready));
        }

-- and no more numbers
pub pushed_numbers : (bays : List Bay) (bare : Bay) → IsBare bare → numbers_in (bays ++ bare ∷ []) ≡ numbers_in bays
pushed_numbers [] bare is = let idle : busy_of bare ≡ 0 = omega (arith, ap length is.cells) in ap (λ b. replicate b bare.number ++ []) idle
pushed_numbers (s ∷ bays) bare is = ap (λ xs. replicate (busy_of s) s.number ++ xs) (pushed_numbers bays bare is)

-- ---- a region

-- the same cells are the same records
pub grown_region : (t u : Table) → IsRegion t → IsTable u → SameCells t u → IsRegion u
grown_region t u was table same = record {
  table = table;
  linked = subst IsLinked (sym all) was.linked;
}
  where
    all : table_at u ≡ table_at t
    all = λ i n. same n i

same_records : (t u : Table) → SameCells t u → (region_of u).records ≡ (region_of t).records
same_records t u same =
    same_map nat_cmp_total nat_cmp-IsAntisymmetric (region_of u).records (region_of t).records (λ q. get_held u q ∙ ap (λ at. record_at at q) all ∙ sym (get_held t q))
  where
    all : table_at u ≡ table_at t
    all = λ i n. same n i

-- with more rooms, and the same cells
pub grown_held : (t u : Table) (bays : ℕ) → IsTable t → IsTable u → SameCells t u → u.used ≡ t.used → share_of u ≡ with_rooms bays (share_of t) → region_of u ≡ roomier bays (region_of t)
grown_held t u bays was table same used share =
    let records = same_records t u same in
    let rooms : length u.bays.items ≡ (with_rooms bays (region_of t).share).rooms = ap (λ (s : Share). s.rooms) share in
    let reserved : u.reserved ≡ t.reserved = ap (λ (s : Share). s.reserved) share in
    let drawn : sum_by busy_of u.bays.items ≡ sum_by busy_of t.bays.items = sym table.busy ∙ ap (λ (s : Share). s.drawn) share ∙ was.busy in
    let numbers : numbers_in u.bays.items ≡ numbers_in t.bays.items = ap (λ (s : Share). s.numbers) share in
    let free : 64 * u.reserved - u.used ≡ 64 * t.reserved - t.used = omega (arith, reserved, used) in
    λ i. record { records = records i; free = free i; share = record { rooms = rooms i; reserved = reserved i; drawn = drawn i; numbers = numbers i } }

pub kept_held : (t u : Table) → IsTable t → IsTable u → SameCells t u → u.used ≡ t.used → share_of u ≡ share_of t → region_of u ≡ region_of t
kept_held t u was table same used share =
    let records = same_records t u same in
    let rooms : length u.bays.items ≡ length t.bays.items = ap (λ (s : Share). s.rooms) share in
    let reserved : u.reserved ≡ t.reserved = ap (λ (s : Share). s.reserved) share in
    let drawn : sum_by busy_of u.bays.items ≡ sum_by busy_of t.bays.items = sym table.busy ∙ ap (λ (s : Share). s.drawn) share ∙ was.busy in
    let numbers : numbers_in u.bays.items ≡ numbers_in t.bays.items = ap (λ (s : Share). s.numbers) share in
    let free : 64 * u.reserved - u.used ≡ 64 * t.reserved - t.used = omega (arith, reserved, used) in
    λ i. record { records = records i; free = free i; share = record { rooms = rooms i; reserved = reserved i; drawn = drawn i; numbers = numbers i } }

-- ---- all segments are given back

-- a bay with cells has all of a segment, and counts as drawn
pub full_bay : (t : Table) (s : ℕ) (bay : Bay) → IsTable t → s < length t.bays.items → get_or t.bays.items s bay ≡ bay → 0 < length bay.cells.items → (length bay.cells.items ≡ 64) × (busy_of bay ≡ 1)
full_bay t s bay was less read some =
    let is = was.bays s bay less read in
    elim (cases_lt (place_of t.order s) t.drawn) [
      | inl below ↦ (is.whole below, omega (arith, is.whole below, is.used below))
      | inr above ↦ absurd (omega (arith, is.empty above))
    ]
