-- A table and an order as they begin.
use Rattle.std.proofs.Common.{◌≡◌, ℕ, zero, suc, ◌+◌, ◌-◌, ◌*◌, ◌/◌, ◌%◌, ◌<◌, ◌≤◌, ◌^◌, List, [], ◌∷◌, ◌++◌, length, map, get_or, replicate, vec_capacity, Some, None, sum_by, refl, sym, ap, ◌∙◌, inl, inr, arith, subst}
use Rattle.std.proofs.lemmas.Bool.{cases_eq}
use Rattle.std.proofs.lemmas.List.{length_push, get_or_push, get_or_append_left}
use Rattle.std.proofs.lemmas.List.Sums.{sum_by-cons}
use Rattle.std.specs.FinMap.{empty}
use Rattle.cell_arena.specs.declared.cell.Cell.TheVariants.{Free, Head}
use Rattle.cell_arena.specs.declared.cell.HeadCell.{HeadCell}
use Rattle.cell_arena.specs.declared.cell.Kind.{Kind}
use Rattle.cell_arena.specs.declared.order.Order.{Order}
use Rattle.cell_arena.specs.declared.bay.Bay.{Bay}
use Rattle.cell_arena.specs.declared.table.Table.{Table}
use Rattle.cell_arena.specs.Chain.{IsBare, AllBare, cell_at, link_of, record_of}
use Rattle.cell_arena.specs.Region.{region_of, no_records, IsRegion}
use Rattle.cell_arena.specs.Order.{IsOrder, count_of}
use Rattle.cell_arena.specs.Table.{IsTable, IsBay, bay_cells, hidden, table_at, free_of, used_of, busy_of, numbers_in}
use Rattle.cell_arena.proofs.Records.{empty_is, get_held}
use Rattle.cell_arena.proofs.Tables.{none_listed}

-- each number below the count stands at its own place
pub record IsCounting (numbers : List ℕ) (count : ℕ) : Type 0 where
  pub size : length numbers ≡ count
  pub at : (k : ℕ) → k < count → get_or numbers k 0 ≡ k

pub counting_none : IsCounting [] 0
counting_none = record { size = refl; at = λ k less. absurd (omega arith) }

pub counting_more : (numbers : List ℕ) (count : ℕ) → IsCounting numbers count → IsCounting (numbers ++ count ∷ []) (count + 1)
counting_more numbers count was = record {
  size = length_push numbers count ∙ omega (arith, was.size);
  at = λ k less. elim (cases_eq k count) [
    | inl same ↦ ap (λ i. get_or (numbers ++ count ∷ []) i 0) same ∙ get_or_push numbers count 0 count was.size ∙ sym same
    | inr other ↦ get_or_append_left numbers (count ∷ []) 0 k (omega (arith, was.size)) ∙ was.at k (omega arith)
  ];
}

pub counted_order : (o : Order) (count : ℕ) → IsCounting o.order.items count → IsCounting o.place.items count → vec_capacity o.order ≡ count → vec_capacity o.place ≡ count → IsOrder o
counted_order o count order place order_room place_room = record {
  size = place.size ∙ sym order.size;
  at = λ i less. omega (arith, order.at i (omega (arith, order.size)), order.size);
  back = λ i less. ap (λ k. get_or o.place.items k 0) (order.at i (omega (arith, order.size))) ∙ place.at i (omega (arith, order.size));
  of = λ q less. omega (arith, place.at q (omega (arith, order.size)), order.size);
  there = λ q less. ap (λ k. get_or o.order.items k 0) (place.at q (omega (arith, order.size))) ∙ order.at q (omega (arith, order.size));
  order_room = order_room ∙ sym order.size;
  place_room = place_room ∙ sym order.size;
}

pub bare_more : (bays : List Bay) (bay : Bay) → AllBare bays → IsBare bay → AllBare (bays ++ bay ∷ [])
bare_more [] bay all bare = (bare, tt)
bare_more (s ∷ bays) bay all bare = (all.0, bare_more bays bay all.1 bare)

bare_at : (bays : List Bay) → AllBare bays → (k : ℕ) (bay : Bay) → k < length bays → get_or bays k bay ≡ bay → IsBare bay
bare_at [] all k bay less read = absurd (omega arith)
bare_at (s ∷ bays) all zero bay less read = subst IsBare read all.0
bare_at (s ∷ bays) all (suc k) bay less read = bare_at bays all.1 k bay (omega arith) read

bare_cells : (bays : List Bay) → AllBare bays → (k : ℕ) → get_or (map bay_cells bays) k [] ≡ []
bare_cells [] all k = refl
bare_cells (s ∷ bays) all zero = all.0.cells
bare_cells (s ∷ bays) all (suc k) = bare_cells bays all.1 k

bare_sum : (f : Bay → ℕ) (bays : List Bay) → ((bay : Bay) → IsBare bay → f bay ≡ 0) → AllBare bays → sum_by f bays ≡ 0
bare_sum f [] none all = refl
bare_sum f (s ∷ bays) none all = sum_by-cons f s bays ∙ omega (arith, none s all.0, bare_sum f bays none all.1)

bare_bay : (bay : Bay) (place : ℕ) → IsBare bay → IsBay 0 0 place bay
bare_bay bay place bare =
    let long : length bay.cells.items ≡ 0 = ap length bare.cells in
    record {
      listed = none_listed bay bare.cells bare.first bare.free;
      empty = λ h. long;
      bare = λ h. bare.room;
      whole = λ h. absurd (omega arith);
      used = λ h. absurd (omega arith);
      spare = λ h. absurd (omega arith);
      full = λ h. bare.free;
    }

-- a table without a segment
pub bare_table : (t : Table) → AllBare t.bays.items → length t.bays.items ≤ 2 ^ 14 → vec_capacity t.bays ≡ length t.bays.items → IsOrder t.order → count_of t.order ≡ length t.bays.items → t.ready ≡ 0 → t.drawn ≡ 0 → t.used ≡ 0 → t.reserved ≤ length t.bays.items → IsTable t
bare_table t all few room order size ready drawn used reserved =
    let none_free = bare_sum free_of t.bays.items (λ bay bare. bare.free) all in
    let none_busy = bare_sum busy_of t.bays.items (λ bay bare. omega (arith, none_in bay bare)) all in
    let none_used = bare_sum used_of t.bays.items (λ bay bare. none_in bay bare) all in
    record {
      few = few;
      room = room ∙ sym size;
      order = order;
      size = size;
      ready = omega arith;
      drawn = omega arith;
      reserved = reserved;
      bays = λ s bay less read. subst (λ r. IsBay r t.drawn (get_or t.order.place.items s 0) bay) (sym ready) (subst (λ d. IsBay 0 d (get_or t.order.place.items s 0) bay) (sym drawn) (bare_bay bay (get_or t.order.place.items s 0) (bare_at t.bays.items all s bay less read)));
      busy = drawn ∙ sym none_busy;
      held = used ∙ sym none_used;
      used = omega (arith, none_free);
    }
  where
    none_in : (bay : Bay) → IsBare bay → used_of bay ≡ 0
    none_in bay bare = omega (arith, ap length bare.cells)

-- no number stands for anything
pub bare_cell : (t : Table) → AllBare t.bays.items → (n : ℕ) → table_at t n ≡ Free None
bare_cell t all n = ap (λ cells. hidden (cell_at cells (n % 64))) (bare_cells t.bays.items all (n / 64))

pub bare_sound : (t : Table) → IsTable t → AllBare t.bays.items → IsRegion t
bare_sound t table all = record {
  table = table;
  linked = record {
    short = λ c kind head is. absurd (no_head c kind head is);
    heads = λ c kind head is. absurd (no_head c kind head is);
    rests = λ i n names. absurd (no_link i n names);
    single = λ i j n a b. absurd (no_link i n a);
  };
}
  where
    no_head : (c : ℕ) (kind : Kind) (head : HeadCell) → table_at t c ≡ Head kind head → ⊥
    no_head c kind head is = let free = bare_cell t all c in cc

    no_link : (i n : ℕ) → link_of (table_at t i) ≡ Some n → ⊥
    no_link i n names = let none = ap link_of (bare_cell t all i) in cc

bare_numbers : (bays : List Bay) → AllBare bays → numbers_in bays ≡ []
bare_numbers [] all = refl
bare_numbers (s ∷ bays) all =
    let idle : busy_of s ≡ 0 = omega (arith, ap length all.0.cells) in
    ap (λ b. replicate b s.number ++ numbers_in bays) idle ∙ bare_numbers bays all.1

pub bare_held : (t : Table) (cells : ℕ) → IsTable t → AllBare t.bays.items → t.reserved ≡ cells / 64 → length t.bays.items ≡ cells / 64 → t.drawn ≡ 0 → t.used ≡ 0 → cells % 64 ≡ 0 → region_of t ≡ no_records cells
bare_held t cells table all reserved rooms drawn used whole =
    let records : (region_of t).records ≡ empty = empty_is (region_of t).records (λ q. get_held t q ∙ ap (record_of (table_at t)) (bare_cell t all q)) in
    let free : 64 * t.reserved - t.used ≡ cells = omega (arith, reserved, used, whole) in
    let none : sum_by busy_of t.bays.items ≡ 0 = sym table.busy ∙ drawn in
    let numbers = bare_numbers t.bays.items all in
    λ i. record { records = records i; free = free i; share = record { rooms = rooms i; reserved = reserved i; drawn = none i; numbers = numbers i } }
