-- The map of the records.
use Rattle.std.proofs.Common.{◌≡◌, ◌≢◌, ℕ, zero, suc, true, false, ◌+◌, ◌-◌, ◌*◌, ◌/◌, ◌%◌, ◌<◌, ◌≤◌, List, [], length, take, drop, Option, Some, None, cond, refl, sym, ap, ◌∙◌, inl, inr, ◌⊎◌, arith, subst}
use Rattle.std.proofs.lemmas.Bool.{cases_eq, eq-eqb, ne_eqb, cases_order}
use Rattle.std.specs.Ordering.{nat_cmp, eq_by_cmp}
use Rattle.std.specs.Cmp.{unsigned_tied, nat_cmp_total}
use Rattle.std.specs.FinMap.{FinMap, get, insert, remove, empty, find, get-from_entries, get-insert, get-remove, get-empty, same_map, nat_cmp-IsAntisymmetric}
use Rattle.cell_arena.specs.declared.cell.Cell.{Cell}
use Rattle.cell_arena.specs.declared.cell.Cell.TheVariants.{Free, Head, Rest}
use Rattle.std.specs.Prelude.{IsSome, is_some, IfSome}
use Rattle.std.proofs.lemmas.List.{get_or_past, length-map, length-take, length-drop, length-append}
use Rattle.std.proofs.lemmas.List.Sorted.{IsPermutation-refl, IsPermutation-sym, IsPermutation-trans, IsPermutation-append_right}
use Rattle.std.specs.List.Sorted.{IsPermutation}
use Rattle.std.proofs.Common.{map as list_map}
use Rattle.cell_arena.specs.declared.cell.HeadCell.{HeadCell}
use Rattle.cell_arena.specs.declared.cell.Kind.{Kind}
use Rattle.cell_arena.specs.declared.table.Table.{Table}
use Rattle.cell_arena.specs.Loan.{Loan, IsLent, Settles, KeepsShare}
use Rattle.cell_arena.specs.Table.{IsTable, numbers_in, table_at, share_of, bay_cells, hidden}
use Rattle.cell_arena.specs.Chain.{is_head, cell_at, IsChain, chain_bytes, IsLinked, head_pieces, record_with, record_of, record_at, Record, SameRecordsBut, cost_at}
use Rattle.cell_arena.proofs.Chains.{bytes_next}
use Rattle.cell_arena.specs.Region.{entries_below, entry_before, records_of, RegionState, region_of, record_cost}

tied : (q n : ℕ) → q ≡ n → eq_by_cmp nat_cmp q n ≡ true
tied q n e = unsigned_tied q n ∙ eq-eqb q n e

untied : (q n : ℕ) → q ≢ n → eq_by_cmp nat_cmp q n ≡ false
untied q n e = unsigned_tied q n ∙ ne_eqb q n e

abbrev found : (ℕ → Option Record) → ℕ → ℕ → Option Record
found f n q = find nat_cmp q (entries_below f n)

find_other : (n q : ℕ) (o : Option Record) (es : List (ℕ × Record)) → q ≢ n → find nat_cmp q (entry_before n o es) ≡ find nat_cmp q es
find_other n q None es other = refl
find_other n q (Some r) es other = ap (λ b. cond b (Some r) (find nat_cmp q es)) (untied q n other)

find_here : (n : ℕ) (o : Option Record) (es : List (ℕ × Record)) → find nat_cmp n es ≡ None → find nat_cmp n (entry_before n o es) ≡ o
find_here n None es none = none
find_here n (Some r) es none = ap (λ b. cond b (Some r) (find nat_cmp n es)) (tied n n refl)

find_above : (f : ℕ → Option Record) (n q : ℕ) → n ≤ q → found f n q ≡ None
find_above f zero q past = refl
find_above f (suc n) q past = find_other n q (f n) (entries_below f n) (λ e. absurd (omega arith)) ∙ find_above f n q (omega arith)

find_below : (f : ℕ → Option Record) (n q : ℕ) → q < n → found f n q ≡ f q
find_below f zero q less = absurd (omega arith)
find_below f (suc n) q less =
    elim (cases_eq q n) [
      | inl same ↦ subst (λ k. found f (suc n) k ≡ f k) (sym same) (find_here n (f n) (entries_below f n) (find_above f n n (omega arith)))
      | inr other ↦ find_other n q (f n) (entries_below f n) other ∙ find_below f n q (omega arith)
    ]

-- what the map has at a number, where nothing stands past the bound
pub get-records_of : (at : ℕ → Cell) (bound : ℕ) → ((n : ℕ) → bound ≤ n → record_at at n ≡ None) → (q : ℕ) → get (records_of at bound) q ≡ record_at at q
unfolding records_of
get-records_of at bound past q =
    get-from_entries nat_cmp_total (entries_below (record_at at) bound) q ∙ by_order (cases_order q bound)
  where
    by_order : (q ≡ bound) ⊎ ((q < bound) ⊎ (bound < q)) → found (record_at at) bound q ≡ record_at at q
    by_order (inl same) = find_above (record_at at) bound q (omega arith) ∙ sym (past q (omega arith))
    by_order (inr (inl less)) = find_below (record_at at) bound q less
    by_order (inr (inr more)) = find_above (record_at at) bound q (omega arith) ∙ sym (past q (omega arith))

-- a map that has this at one number, and else what another has
pub insert_is : (m n : FinMap nat_cmp Record) (k : ℕ) (r : Record) → get n k ≡ Some r → ((q : ℕ) → q ≢ k → get n q ≡ get m q) → n ≡ insert m k r
insert_is m n k r here others =
    same_map nat_cmp_total nat_cmp-IsAntisymmetric n (insert m k r) (λ q. by_key q (cases_eq q k) ∙ sym (get-insert nat_cmp_total m k r q))
  where
    by_key : (q : ℕ) → (q ≡ k) ⊎ (q ≡ k → ⊥) → get n q ≡ cond (eq_by_cmp nat_cmp q k) (Some r) (get m q)
    by_key q (inl same) = ap (get n) same ∙ here ∙ sym (ap (λ b. cond b (Some r) (get m q)) (tied q k same))
    by_key q (inr other) = others q other ∙ sym (ap (λ b. cond b (Some r) (get m q)) (untied q k other))

pub remove_is : (m n : FinMap nat_cmp Record) (k : ℕ) → get n k ≡ None → ((q : ℕ) → q ≢ k → get n q ≡ get m q) → n ≡ remove m k
remove_is m n k here others =
    same_map nat_cmp_total nat_cmp-IsAntisymmetric n (remove m k) (λ q. by_key q (cases_eq q k) ∙ sym (get-remove nat_cmp_total m k q))
  where
    by_key : (q : ℕ) → (q ≡ k) ⊎ (q ≡ k → ⊥) → get n q ≡ cond (eq_by_cmp nat_cmp q k) None (get m q)
    by_key q (inl same) = ap (get n) same ∙ here ∙ sym (ap (λ b. cond b None (get m q)) (tied q k same))
    by_key q (inr other) = others q other ∙ sym (ap (λ b. cond b None (get m q)) (untied q k other))

pub empty_is : (n : FinMap nat_cmp Record) → ((q : ℕ) → get n q ≡ None) → n ≡ empty
empty_is n none = same_map nat_cmp_total nat_cmp-IsAntisymmetric n empty (λ q. none q ∙ sym (get-empty nat_cmp q))

-- nothing stands past the cells
pub past_none : (t : Table) (n : ℕ) → 64 * length t.bays.items ≤ n → record_at (table_at t) n ≡ None
past_none t n past =
    ap (λ xs. record_of (table_at t) (hidden (cell_at xs (n % 64)))) (get_or_past (list_map bay_cells t.bays.items) (n / 64) [] (omega (arith, length-map t.bays.items bay_cells)))

pub get_held : (t : Table) (q : ℕ) → get (region_of t).records q ≡ record_at (table_at t) q
get_held t q = get-records_of (table_at t) (64 * length t.bays.items) (past_none t) q

pub held_insert : (old new : Table) (k : ℕ) (r : Record) → record_at (table_at new) k ≡ Some r → SameRecordsBut k (table_at old) (table_at new) → (region_of new).records ≡ insert (region_of old).records k r
held_insert old new k r here others =
    insert_is (region_of old).records (region_of new).records k r (get_held new k ∙ here) (λ q other. get_held new q ∙ others q other ∙ sym (get_held old q))

pub held_remove : (old new : Table) (k : ℕ) → record_at (table_at new) k ≡ None → SameRecordsBut k (table_at old) (table_at new) → (region_of new).records ≡ remove (region_of old).records k
held_remove old new k here others =
    remove_is (region_of old).records (region_of new).records k (get_held new k ∙ here) (λ q other. get_held new q ∙ others q other ∙ sym (get_held old q))

-- a chain holds 48 bytes a cell
pub length-chain_bytes : (at : ℕ → Cell) (m : ℕ) (link : Option ℕ) → IsChain at m link → length (chain_bytes at m link) ≡ m * 48
length-chain_bytes at zero link p = refl
length-chain_bytes at (suc m) link p =
    ap length (bytes_next at m p.0 link p.2 p.1 p.3 p.4) ∙ length-append p.1 (chain_bytes at m p.2) ∙ omega (arith, p.5, length-chain_bytes at m p.2 p.6)

-- a head's chain has all of its cells
pub head_size : (at : ℕ → Cell) (k : ℕ) (kind : Kind) (head : HeadCell) → IsLinked at → at k ≡ Head kind head → length (chain_bytes at (head_pieces head) head.first) ≡ head_pieces head * 48
head_size at k kind head linked read = length-chain_bytes at (head_pieces head) head.first (linked.heads k kind head read)

-- so a key is as long as its head says
pub key_size : (at : ℕ → Cell) (k : ℕ) (kind : Kind) (head : HeadCell) → IsLinked at → at k ≡ Head kind head → length (take head.key_len (chain_bytes at (head_pieces head) head.first)) ≡ head.key_len
key_size at k kind head linked read = length-take head.key_len (chain_bytes at (head_pieces head) head.first) ∙ omega (arith, head_size at k kind head linked read)

-- and so is a value
pub value_size : (at : ℕ → Cell) (k : ℕ) (kind : Kind) (head : HeadCell) → IsLinked at → at k ≡ Head kind head
    → length (take head.value_len (drop head.key_len (chain_bytes at (head_pieces head) head.first))) ≡ head.value_len
value_size at k kind head linked read =
    let bytes = chain_bytes at (head_pieces head) head.first in
    length-take head.value_len (drop head.key_len bytes) ∙ omega (arith, head_size at k kind head linked read, length-drop head.key_len bytes)

-- a record costs its cells
pub cost_is : (at : ℕ → Cell) (k : ℕ) (kind : Kind) (head : HeadCell) → IsLinked at → at k ≡ Head kind head → record_cost (record_with kind head (chain_bytes at (head_pieces head) head.first)) ≡ 1 + head_pieces head
cost_is at k kind head linked read =
    let bytes = chain_bytes at (head_pieces head) head.first in
    ap (λ n. 1 + (n + length (take head.value_len (drop head.key_len bytes)) + 47) / 48) (key_size at k kind head linked read) ∙ ap (λ n. 1 + (head.key_len + n + 47) / 48) (value_size at k kind head linked read)

is_head_from : (at : ℕ → Cell) (c : Cell) → IsSome (record_of at c) → is_head c ≡ true
is_head_from at (Free next) some = absurd (cc)
is_head_from at (Head kind head) some = refl
is_head_from at (Rest bytes next) some = absurd (cc)

-- a number with a record is a head's
pub held_head : (t : Table) (k : ℕ) → IsSome (get (region_of t).records k) → is_head (table_at t k) ≡ true
held_head t k some = is_head_from (table_at t) (table_at t k) (subst IsSome (get_held t k) some)

is_head_some : (at : ℕ → Cell) (c : Cell) → is_head c ≡ is_some (record_of at c)
is_head_some at (Free next) = refl
is_head_some at (Head kind head) = refl
is_head_some at (Rest bytes next) = refl

pub held_cost : (t : Table) (k n : ℕ) → IsLinked (table_at t) → n ≡ (region_of t).free + cost_at (table_at t k) → is_head (table_at t k) ≡ true → IfSome (get (region_of t).records k) (λ r. n ≡ (region_of t).free + record_cost r)
held_cost t k n linked more is = subst (λ o. IfSome o (λ r. n ≡ (region_of t).free + record_cost r)) (sym (get_held t k)) (by_cell (table_at t k) refl is)
  where
    by_cell : (c : Cell) → table_at t k ≡ c → is_head c ≡ true → IfSome (record_of (table_at t) (table_at t k)) (λ r. n ≡ (region_of t).free + record_cost r)
    by_cell (Free next) e is = absurd (cc)
    by_cell (Head kind head) e is = subst (λ x. IfSome (record_of (table_at t) x) (λ r. n ≡ (region_of t).free + record_cost r)) (sym e) (more ∙ ap (λ x. (region_of t).free + cost_at x) e ∙ ap (λ c. (region_of t).free + c) (sym (cost_is (table_at t) k kind head linked e)))
    by_cell (Rest bytes next) e is = absurd (cc)

-- what the map has at a head
pub held_some : (t : Table) (k : ℕ) (kind : Kind) (head : HeadCell) → table_at t k ≡ Head kind head → get (region_of t).records k ≡ Some (record_with kind head (chain_bytes (table_at t) (head_pieces head) head.first))
held_some t k kind head read = get_held t k ∙ ap (record_of (table_at t)) read

-- the same of the value that a region is seen as
pub seen_insert : (old new : Table) (seen : RegionState) (k : ℕ) (r : Record) → region_of old ≡ seen → record_at (table_at new) k ≡ Some r → SameRecordsBut k (table_at old) (table_at new) → (region_of new).records ≡ insert seen.records k r
seen_insert old new seen k r is here others = held_insert old new k r here others ∙ ap (λ (h : RegionState). insert h.records k r) is

pub seen_remove : (old new : Table) (seen : RegionState) (k : ℕ) → region_of old ≡ seen → record_at (table_at new) k ≡ None → SameRecordsBut k (table_at old) (table_at new) → (region_of new).records ≡ remove seen.records k
seen_remove old new seen k is here others = held_remove old new k here others ∙ ap (λ (h : RegionState). remove h.records k) is

pub seen_get : (t : Table) (seen : RegionState) (q : ℕ) → region_of t ≡ seen → get seen.records q ≡ record_at (table_at t) q
seen_get t seen q is = ap (λ (h : RegionState). get h.records q) (sym is) ∙ get_held t q

pub seen_head : (t : Table) (seen : RegionState) (k : ℕ) → region_of t ≡ seen → IsSome (get seen.records k) → is_head (table_at t k) ≡ true
seen_head t seen k is some = held_head t k (subst (λ (h : RegionState). IsSome (get h.records k)) (sym is) some)

pub seen_has : (t : Table) (seen : RegionState) (k : ℕ) → region_of t ≡ seen → is_head (table_at t k) ≡ is_some (get seen.records k)
seen_has t seen k is = is_head_some (table_at t) (table_at t k) ∙ sym (ap is_some (seen_get t seen k is))

pub seen_cost : (t : Table) (seen : RegionState) (k n : ℕ) → region_of t ≡ seen → IsLinked (table_at t) → n ≡ (region_of t).free + cost_at (table_at t k) → is_head (table_at t k) ≡ true → IfSome (get seen.records k) (λ r. n ≡ seen.free + record_cost r)
seen_cost t seen k n is linked more head = subst (λ (h : RegionState). IfSome (get h.records k) (λ r. n ≡ h.free + record_cost r)) is (held_cost t k n linked more head)

-- the numbers that a region is seen with
pub seen_free : (t : Table) (seen : RegionState) → region_of t ≡ seen → seen.free ≡ 64 * t.reserved - t.used
seen_free t seen is = sym (ap (λ (h : RegionState). h.free) is)

-- what is seen of the segments is what the table has of them
pub seen_share : (t : Table) (seen : RegionState) → IsTable t → region_of t ≡ seen → KeepsShare (share_of t) seen.share
seen_share t seen table is = record {
  rooms = sym (ap (λ (h : RegionState). h.share.rooms) is);
  reserved = sym (ap (λ (h : RegionState). h.share.reserved) is);
  drawn = sym (ap (λ (h : RegionState). h.share.drawn) is) ∙ sym table.busy;
  numbers = subst (λ (h : RegionState). IsPermutation (numbers_in t.bays.items) h.share.numbers) is (IsPermutation-refl _);
}

pub share_seen : (t : Table) → IsTable t → KeepsShare (share_of t) (region_of t).share
share_seen t table = record { rooms = refl; reserved = refl; drawn = sym table.busy; numbers = IsPermutation-refl _ }

-- a loan is lent and settled as it is seen
pub seen_lent : (t : Table) (seen : RegionState) (l : Loan) → IsTable t → region_of t ≡ seen → IsLent seen.share l → IsLent (share_of t) l
seen_lent t seen l table is lent = let e = seen_share t seen table is in record {
  left = omega (arith, lent.left, e.reserved, e.drawn);
  room = omega (arith, lent.room, e.drawn);
}

pub seen_settles : (t u : Table) (seen : RegionState) (k l : Loan) → IsTable t → IsTable u → region_of t ≡ seen → Settles (share_of t) k (share_of u) l → Settles seen.share k (region_of u).share l
seen_settles t u seen k l table after is settles = let e = seen_share t seen table is in let f = share_seen u after in record {
  rooms = settles.rooms ∙ sym e.rooms;
  reserved = omega (arith, settles.reserved, e.reserved);
  left = omega (arith, settles.left, e.drawn, f.drawn);
  room = omega (arith, settles.room, e.drawn, f.drawn);
  numbers = IsPermutation-trans _ _ _ (IsPermutation-append_right k.numbers _ _ (IsPermutation-sym _ _ e.numbers)) settles.numbers;
  others = settles.others;
}

-- what holds of the record of a head
pub at_some : (at : ℕ → Cell) (k : ℕ) (kind : Kind) (head : HeadCell) (P : Record → Type 0) → at k ≡ Head kind head → P (record_with kind head (chain_bytes at (head_pieces head) head.first)) → IfSome (record_at at k) P
at_some at k kind head P read p = subst (λ c. IfSome (record_of at c) P) (sym read) p

pub seen_some : (t : Table) (seen : RegionState) (k : ℕ) (kind : Kind) (head : HeadCell) (P : Record → Type 0) → region_of t ≡ seen → table_at t k ≡ Head kind head → P (record_with kind head (chain_bytes (table_at t) (head_pieces head) head.first)) → IfSome (get seen.records k) P
seen_some t seen k kind head P is read p = subst (λ o. IfSome o P) (sym (seen_get t seen k is)) (at_some (table_at t) k kind head P read p)

if_some : (o : Option Record) (P Q : Record → Type 0) → ((r : Record) → P r → Q r) → IfSome o P → IfSome o Q
if_some None P Q f p = p
if_some (Some r) P Q f p = f r p

pub seen_if : (t : Table) (seen : RegionState) (k : ℕ) (P Q : Record → Type 0) → region_of t ≡ seen → ((r : Record) → P r → Q r) → IfSome (record_at (table_at t) k) P → IfSome (get seen.records k) Q
seen_if t seen k P Q is f p = subst (λ o. IfSome o Q) (sym (seen_get t seen k is)) (if_some (record_at (table_at t) k) P Q f p)

-- the cells in use fit in the reserved segments
pub used_fits : (t : Table) → IsTable t → t.used ≤ 64 * t.reserved
used_fits t table = omega (arith, table.used, table.drawn)

pub some_at : (at : ℕ → Cell) (k : ℕ) (kind : Kind) (head : HeadCell) (P : Record → Type 0) → at k ≡ Head kind head → IfSome (record_at at k) P → P (record_with kind head (chain_bytes at (head_pieces head) head.first))
some_at at k kind head P read p = subst (λ c. IfSome (record_of at c) P) read p

-- the other way: what holds of a record that is seen
pub if_seen : (t : Table) (seen : RegionState) (k : ℕ) (P Q : Record → Type 0) → region_of t ≡ seen → ((r : Record) → P r → Q r) → IfSome (get seen.records k) P → IfSome (record_at (table_at t) k) Q
if_seen t seen k P Q is f p = if_some (record_at (table_at t) k) P Q f (subst (λ o. IfSome o P) (seen_get t seen k is) p)
