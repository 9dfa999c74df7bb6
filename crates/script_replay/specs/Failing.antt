-- What a replay tells of the failures that its reader and its writer remember.
use Rattle.std.specs.Prelude.{◌≡◌, ◌≤◌, ◌||◌, ◌⊎◌, ℕ, Bool, List, length, ⊤, IsTrue, IfSome, Option, Result, Ok, Err}
use Rattle.script_replay.specs.declared.fault.ReplayFault.{ReplayFault}
use Rattle.script_replay.specs.declared.fault.ReplayFault.TheVariants.{Line, Io, Memory}
use Rattle.script_replay.specs.Script.{lines_of}

-- the reader or the writer has failed
abbrev pub OneFailed : Bool → Bool → Type 0
OneFailed reader writer = IsTrue (reader || writer)

-- a script, if its bytes are known, has 4,294,967,295 lines or more
abbrev pub HasMostLines : Option (List ℕ) → Type 0
HasMostLines script = IfSome script (λ bytes. 4294967295 ≤ length (lines_of bytes))

-- why input or output is told: the reader or the writer has failed, or so many lines of the script were taken
abbrev pub TellsWhy : Option (List ℕ) → Bool → Bool → ℕ → Type 0
TellsWhy script reader writer taken = OneFailed reader writer ⊎ ((4294967295 ≤ taken) × HasMostLines script)

-- a stream has failed only if it had before: so it is at the script's end, and at a line that can't be read
abbrev pub MarksNone : {T : Type 0} → Bool → Bool → Result T ReplayFault → Type 0
MarksNone old new (Ok end) = new ≡ old
MarksNone old new (Err (Line n)) = new ≡ old
MarksNone old new (Err Memory) = ⊤
MarksNone old new (Err Io) = ⊤
