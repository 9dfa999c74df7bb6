-- A part of a record's bytes.
use Rattle.std.specs.Prelude.{ℕ, ◌+◌, ◌*◌, ◌≤◌, List, take, drop}
use Rattle.cell_arena.specs.declared.cell.Cell.{Cell}
use Rattle.cell_arena.specs.declared.part.Part.{Part}
use Rattle.cell_arena.specs.Chain.{IsChain, chain_bytes}

-- the part lies in a chain that stands
pub record IsPart (at : ℕ → Cell) (part : Part) : Type 0 where
  pub chain : IsChain at part.cells part.first
  pub fits : part.from + part.count ≤ part.cells * 48

abbrev pub part_bytes : (ℕ → Cell) → Part → List ℕ
part_bytes at part = take part.count (drop part.from (chain_bytes at part.cells part.first))
