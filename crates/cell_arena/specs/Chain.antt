-- How the cells are linked, over any look-up of them.
use Rattle.std.specs.Prelude.{◌≡◌, ◌≢◌, ℕ, zero, suc, Bool, true, false, ◌+◌, ◌/◌, ◌^◌, ◌<◌, ◌≤◌, List, []}
use Rattle.std.specs.Prelude.{◌∷◌, ◌++◌, length, Option, Some, None, count_by, slice_index_or, take, drop, vec_capacity}
use Rattle.cell_arena.specs.declared.cell.Cell.{Cell}
use Rattle.cell_arena.specs.declared.cell.Cell.TheVariants.{Free, Head, Rest}
use Rattle.cell_arena.specs.declared.cell.HeadCell.{HeadCell}
use Rattle.cell_arena.specs.declared.cell.Kind.{Kind}
use Rattle.cell_arena.specs.declared.cell.Fields.{Fields}
use Rattle.cell_arena.specs.declared.bay.Bay.{Bay}

abbrev pub is_free : Cell → Bool
is_free (Free next) = true
is_free (Head kind head) = false
is_free (Rest bytes next) = false

abbrev pub is_rest : Cell → Bool
is_rest (Free next) = false
is_rest (Head kind head) = false
is_rest (Rest bytes next) = true

abbrev pub is_head : Cell → Bool
is_head (Free next) = false
is_head (Head kind head) = true
is_head (Rest bytes next) = false

-- the next cell of the record
abbrev pub link_of : Cell → Option ℕ
link_of (Free next) = None
link_of (Head kind head) = head.first
link_of (Rest bytes next) = next

abbrev pub bytes_of : Cell → List ℕ
bytes_of (Free next) = []
bytes_of (Head kind head) = []
bytes_of (Rest bytes next) = bytes

-- what stands at a place of a segment, where what is past its end is free
abbrev pub cell_at : List Cell → ℕ → Cell
cell_at cells n = slice_index_or cells n (Free None)

abbrev pub bay_at : Bay → ℕ → Cell
bay_at bay = cell_at bay.cells.items

-- one cell is written, and all others stay
pub record Writes (old new : ℕ → Cell) (at : ℕ) (cell : Cell) : Type 0 where
  pub here : new at ≡ cell
  pub others : (n : ℕ) → n ≢ at → new n ≡ old n

-- from this link on, so many free cells each name the next, and the last names none
abbrev pub IsFreeList : (ℕ → Cell) → ℕ → ℕ → Option ℕ → Type 0
IsFreeList at bound zero link = link ≡ None
IsFreeList at bound (suc count) link =
    (n : ℕ) × (next : Option ℕ) × (link ≡ Some n) × (n < bound) × (at n ≡ Free next)
    × IsFreeList at bound count next

-- the list holds every free cell of the bay
pub record IsListed (bay : Bay) : Type 0 where
  pub short : length bay.cells.items ≤ 64
  pub counted : bay.free ≡ count_by is_free bay.cells.items
  pub listed : IsFreeList (bay_at bay) (length bay.cells.items) bay.free bay.first

-- a bay without a segment, which keeps no memory for cells
pub record IsBare (bay : Bay) : Type 0 where
  pub cells : bay.cells.items ≡ []
  pub room : vec_capacity bay.cells ≡ 0
  pub first : bay.first ≡ None
  pub free : bay.free ≡ 0

abbrev pub AllBare : List Bay → Type 0
AllBare [] = Unit {0}
AllBare (bay ∷ bays) = IsBare bay × AllBare bays

abbrev pub AllFree : Bay → Type 0
AllFree bay = (n : ℕ) → is_free (bay_at bay n) ≡ true

-- from this link on, so many cells of bytes each name the next, and the last names none
abbrev pub IsChain : (ℕ → Cell) → ℕ → Option ℕ → Type 0
IsChain at zero link = link ≡ None
IsChain at (suc count) link =
    (n : ℕ) × (bytes : List ℕ) × (next : Option ℕ) × (link ≡ Some n) × (at n ≡ Rest bytes next)
    × (length bytes ≡ 48) × IsChain at count next

-- what the cells of a chain hold
abbrev pub chain_bytes : (ℕ → Cell) → ℕ → Option ℕ → List ℕ
chain_bytes at zero link = []
chain_bytes at (suc count) None = []
chain_bytes at (suc count) (Some n) = bytes_of (at n) ++ chain_bytes at count (link_of (at n))

-- the same from the last cell to the first
abbrev pub turned_bytes : (ℕ → Cell) → ℕ → Option ℕ → List ℕ
turned_bytes at zero link = []
turned_bytes at (suc count) None = []
turned_bytes at (suc count) (Some n) = turned_bytes at count (link_of (at n)) ++ bytes_of (at n)

-- how many cells so many bytes fill
abbrev pub pieces : ℕ → ℕ
pieces n = (n + 47) / 48

abbrev pub head_pieces : HeadCell → ℕ
head_pieces head = pieces (head.key_len + head.value_len)

-- no cell names this one as the next of a record
abbrev pub IsUnlinked : (ℕ → Cell) → ℕ → Type 0
IsUnlinked at n = (i : ℕ) → link_of (at i) ≡ Some n → ⊥

-- the first of a chain is named by no cell
abbrev pub IsLoose : (ℕ → Cell) → Option ℕ → Type 0
IsLoose at link = (n : ℕ) → link ≡ Some n → IsUnlinked at n

-- each head has its chain, and no two chains meet
pub record IsLinked (at : ℕ → Cell) : Type 0 where
  pub short : (c : ℕ) (kind : Kind) (head : HeadCell) → at c ≡ Head kind head
      → head.key_len + head.value_len < 2 ^ 31
  pub heads : (c : ℕ) (kind : Kind) (head : HeadCell) → at c ≡ Head kind head
      → IsChain at (head_pieces head) head.first
  pub rests : (i n : ℕ) → link_of (at i) ≡ Some n → is_rest (at n) ≡ true
  pub single : (i j n : ℕ) → link_of (at i) ≡ Some n → link_of (at j) ≡ Some n → i ≡ j

-- what a head stands for
pub record Record : Type 0 where
  pub kind : Kind
  pub fields : Fields
  pub key : List ℕ
  pub value : List ℕ
  pub older : Option ℕ

abbrev pub record_with : Kind → HeadCell → List ℕ → Record
record_with kind head bytes = record {
  kind = kind;
  fields = head.fields;
  key = take head.key_len bytes;
  value = take head.value_len (drop head.key_len bytes);
  older = head.older;
}

abbrev pub record_of : (ℕ → Cell) → Cell → Option Record
record_of at (Free next) = None
record_of at (Head kind head) = Some (record_with kind head (chain_bytes at (head_pieces head) head.first))
record_of at (Rest bytes next) = None

abbrev pub record_at : (ℕ → Cell) → ℕ → Option Record
record_at at n = record_of at (at n)

-- every number stands for what it stood for
abbrev pub SameRecords : (ℕ → Cell) → (ℕ → Cell) → Type 0
SameRecords old new = (q : ℕ) → record_at new q ≡ record_at old q

abbrev pub SameRecordsBut : ℕ → (ℕ → Cell) → (ℕ → Cell) → Type 0
SameRecordsBut at old new = (q : ℕ) → q ≢ at → record_at new q ≡ record_at old q

-- the cells of the record that a head begins
abbrev pub cost_at : Cell → ℕ
cost_at (Free next) = 0
cost_at (Head kind head) = 1 + head_pieces head
cost_at (Rest bytes next) = 0
