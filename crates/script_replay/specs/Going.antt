-- How far a replay has come.
use Rattle.std.specs.Prelude.{◌≡◌, ℕ, true, List, ◌++◌, length, map, flat_map, Option, Some}
use Rattle.std.specs.Io.KnownBytes.{Appends}
use Rattle.steps_core.specs.Hosts.{HostState}
use Rattle.host_front.specs.Lines.{LineTurn}
use Rattle.host_front.specs.Living.{AreLived}
use Rattle.script_replay.specs.Script.{lines_of, read_lines}
use Rattle.script_replay.specs.Answers.{answer_line}
use Rattle.script_replay.specs.Replaying.{asked_in, first_host, told_in}

-- n lines of the script are done, and the bytes after them are left
pub record Going (script : List ℕ) (left old new : Option (List ℕ)) (host : HostState) (n : ℕ) : Type 0 where
  pub done : List (List ℕ)
  pub rest : List ℕ
  pub remains : left ≡ Some rest
  pub lines : lines_of script ≡ done ++ lines_of rest
  pub number : length done ≡ n
  pub pool : Option ℕ
  pub turns : List LineTurn
  pub read : read_lines true done ≡ map Some (asked_in pool turns)
  pub lived : AreLived (first_host pool) turns host
  pub text : Appends old new (flat_map answer_line (told_in pool turns))
