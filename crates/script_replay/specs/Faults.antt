-- What a script that ends early tells outside.
use Rattle.std.specs.Prelude.{ℕ}
use Rattle.script_replay.specs.declared.fault.ReplayFault.{ReplayFault}
use Rattle.script_replay.specs.declared.fault.ReplayFault.TheVariants.{Line, Io, Memory}

-- the program's status
abbrev pub status_of : ReplayFault → ℕ
status_of (Line n) = 2
status_of Io = 3
status_of Memory = 4
