-- What a replay writes: one answer line for each line of its script, and nothing else.
use Rattle.std.specs.Prelude.{◌≡◌, ℕ, ◌+◌, true, List, ◌∷◌, ◌++◌, length, map, flat_map, Option, None, Some}
use Rattle.std.specs.Prelude.{IfSome, Result, Ok, Err}
use Rattle.std.specs.Io.KnownBytes.{Appends}
use Rattle.steps_core.specs.Hosts.{HostState}
use Rattle.script_replay.specs.declared.fault.ReplayFault.{ReplayFault}
use Rattle.script_replay.specs.declared.fault.ReplayFault.TheVariants.{Line, Io, Memory}
use Rattle.script_replay.specs.Script.{lines_of, read_line, read_lines, is_first}
use Rattle.host_front.specs.Lines.{LineTurn}
use Rattle.host_front.specs.Living.{AllLived}
use Rattle.script_replay.specs.Answers.{answer_line}
use Rattle.script_replay.specs.Fronts.{AppendsFront}
use Rattle.script_replay.specs.Replaying.{asked_in, first_host, told_in}

-- These lines can all be read, and this is said of their answers. The first may name a pool; the others are asked of a
-- host of so many segments, which answers each tenant as if it were alone.
pub record Answered (says : List ℕ → Type 0) (lines : List (List ℕ)) : Type 0 where
  pub pool : Option ℕ
  pub turns : List LineTurn
  pub last : HostState
  pub read : read_lines true lines ≡ map Some (asked_in pool turns)
  pub lived : AllLived (first_host pool) turns last
  pub text : says (flat_map answer_line (told_in pool turns))

-- what was written is the answers of these lines
abbrev pub Wrote : Option (List ℕ) → Option (List ℕ) → List (List ℕ) → Type 0
Wrote old new lines = Answered (Appends old new) lines

-- the n-th line is the first that can't be read, and the lines before it are answered
pub record EndsAtLine (n : ℕ) (script : List ℕ) (old new : Option (List ℕ)) : Type 0 where
  pub before : List (List ℕ)
  pub line : List ℕ
  pub rest : List (List ℕ)
  pub lines : lines_of script ≡ before ++ line ∷ rest
  pub number : length before + 1 ≡ n
  pub unread : read_line (is_first before) line ≡ None
  pub wrote : Wrote old new before

-- this is said of the answers of some first lines
pub record EndsAmong (says : List ℕ → Type 0) (script : List ℕ) : Type 0 where
  pub before : List (List ℕ)
  pub rest : List (List ℕ)
  pub lines : lines_of script ≡ before ++ rest
  pub answered : Answered says before

-- some first lines are answered, and the others are not
abbrev pub EndsEarly : List ℕ → Option (List ℕ) → Option (List ℕ) → Type 0
EndsEarly script old new = EndsAmong (Appends old new) script

-- a front of the answers of some first lines is written
abbrev pub EndsCut : List ℕ → Option (List ℕ) → Option (List ℕ) → Type 0
EndsCut script old new = EndsAmong (AppendsFront old new) script

-- What a replay has written when it ends, if its script's bytes are known: at the script's end the answers of
-- all lines; at a line that can't be read those of the lines before it; if a line or the pool can't be held,
-- those of some first lines; after a fault of input or output a front of these.
abbrev pub Replays : {T : Type 0}
    → Option (List ℕ) → Option (List ℕ) → Option (List ℕ) → Result T ReplayFault → Type 0
Replays script old new (Ok end) = IfSome script (λ bytes. Wrote old new (lines_of bytes))
Replays script old new (Err (Line n)) = IfSome script (λ bytes. EndsAtLine n bytes old new)
Replays script old new (Err Memory) = IfSome script (λ bytes. EndsEarly bytes old new)
Replays script old new (Err Io) = IfSome script (λ bytes. EndsCut bytes old new)
