use Rattle.std.proofs.Common.{◌≡◌, ◌++◌, List}
use Rattle.auto_compaction.specs.declared.order.Note.{Note}
use Rattle.auto_compaction.proofs.order.keep.Given as goal

-- the notes are the last ones of those that were there
abbrev pub invariant-loop : goal.invariant-loop
invariant-loop l = (gone : List Note) × (l.initial.notes.items ≡ gone ++ l.notes.items)
