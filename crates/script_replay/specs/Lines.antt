-- A script's lines, as they are taken of what a reader has left.
use Rattle.std.specs.Prelude.{◌≡◌, ◌≢◌, ◌<◌, ℕ, List, length, Option, Result, IfErr, IfSome}
use Rattle.std.specs.Io.BufRead.{take_through, strip_last}
use Rattle.etcd_types.specs.Limits.{max_script_line}
use Rattle.script_replay.specs.declared.fault.ReplayFault.{ReplayFault}
use Rattle.script_replay.specs.declared.fault.ReplayFault.TheVariants.{Line}

-- known bytes begin with this line and its newline, or are this line and have none
abbrev pub BeginsWithLine : Option (List ℕ) → List ℕ → Type 0
BeginsWithLine known line = IfSome known (λ bytes. line ≡ take_through 10 bytes)

-- known bytes begin with a line that is longer than a line may be
abbrev pub BeginsTooLong : Option (List ℕ) → Type 0
BeginsTooLong known = IfSome known (λ bytes. max_script_line < length (strip_last 10 (take_through 10 bytes)))

-- a fault is not that of a line that can't be read
abbrev pub NamesNoLine : {T : Type 0} → Result T ReplayFault → Type 0
NamesNoLine result = IfErr result (λ fault. (n : ℕ) → fault ≢ Line n)
