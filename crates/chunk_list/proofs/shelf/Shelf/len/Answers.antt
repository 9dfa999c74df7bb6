use Rattle.std.proofs.Common.{sym, arith}
use Rattle.chunk_list.proofs.Shelves.{read_of, spans_count}
use Rattle.chunk_list.proofs.shelf.Shelf.len.Goals as goal

pub index-requires : goal.index-requires
index-requires g c =
    let count = spans_count c.self.invariant c.self.view_is in
    omega arith

pub returns-clause-len : goal.returns-clause-len
returns-clause-len g c =
    let read = read_of c.self.invariant c.self.view_is c.requires c.index.ensures in
    sym read.len

pub returns-clause-short : goal.returns-clause-short
returns-clause-short g c =
    let read = read_of c.self.invariant c.self.view_is c.requires c.index.ensures in
    omega arith

pub returns-clause-fits : goal.returns-clause-fits
returns-clause-fits g c =
    let count = spans_count c.self.invariant c.self.view_is in
    omega arith
