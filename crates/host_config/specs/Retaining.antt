-- What of its history a tenant is told to keep.
use Rattle.std.specs.Prelude.{ℕ, ◌*◌, ◌^◌, ◌++◌, ◌==◌, nat_le, List, codes, if◌then◌else◌}
use Rattle.std.specs.Fmt.{decimal}
use Rattle.std.specs.Prelude.{Option, Some, None, option_and_then, option_map}
use Rattle.std.specs.Option.{option_or}
use Rattle.std.specs.Str.{bytes_eq}
use Rattle.serde_json.specs.Data.{Data}
use Rattle.serde_json.specs.Find.{as_str}
use Rattle.auto_compaction.specs.declared.retention.Retention.{Retention}
use Rattle.auto_compaction.specs.declared.retention.Retention.TheVariants.{All, Seconds, Revisions}
use Rattle.auto_compaction.specs.declared.retention.TheConstants.{MAX_RETENTION}
use Rattle.etcd_model.specs.Members.{unsigned_in}
use Rattle.host_config.specs.Durations.{seconds_of}
use Rattle.host_config.specs.Numbers.{member}
use Rattle.host_config.specs.declared.retention.Mode.{Mode}
use Rattle.host_config.specs.declared.retention.Mode.TheVariants.{Periodic, Revision}

-- what is counted of a retention; time where all is kept
abbrev pub counted_by : Retention → Mode
counted_by All = Periodic
counted_by (Seconds s) = Periodic
counted_by (Revisions n) = Revision

-- what is counted: the usual, unless something else is told
abbrev pub named_mode : List ℕ → Option Mode
named_mode name =
    if bytes_eq name (codes "periodic") then Some Periodic
    else if bytes_eq name (codes "revision") then Some Revision
    else None

abbrev pub mode_or : Mode → Option Data → Option Mode
mode_or usual None = Some usual
mode_or usual (Some d) = option_and_then named_mode (as_str d)

unfoldable pub mode_in : Mode → Data → Option Mode
mode_in usual d = mode_or usual (member (codes "auto_compaction_mode") d)

-- a time in seconds: the text of one, or else a number of hours
unfoldable pub time_of : Data → Option ℕ
time_of d = option_or (option_and_then seconds_of (as_str d)) (option_map (λ hours. hours * 3600) (unsigned_in d))

-- what is kept: nothing told and 0 are all
abbrev pub for_seconds : ℕ → Option Retention
for_seconds s = if s == 0 then Some All else if nat_le s MAX_RETENTION then Some (Seconds s) else None

abbrev pub for_revisions : ℕ → Option Retention
for_revisions n = if n == 0 then Some All else if nat_le n (2 ^ 62) then Some (Revisions n) else None

abbrev pub kept_by : Mode → Data → Option Retention
kept_by Periodic d = option_and_then for_seconds (time_of d)
kept_by Revision d = option_and_then for_revisions (unsigned_in d)

abbrev pub kept_or : Option Mode → Option Data → Option Retention
kept_or None d = None
kept_or (Some mode) None = Some All
kept_or (Some mode) (Some d) = kept_by mode d

unfoldable pub retention_by : Mode → Data → Option Retention
retention_by usual d = kept_or (mode_in usual d) (member (codes "auto_compaction_retention") d)

abbrev pub retention_in : Data → Option Retention
retention_in = retention_by Periodic

-- a change: none where no retention is told, and some none where it can't be read; what is counted stays
abbrev pub change_or : Option Data → Option Retention → Option (Option Retention)
change_or None kept = None
change_or (Some d) kept = Some kept

unfoldable pub retention_change_in : Retention → Data → Option (Option Retention)
retention_change_in before d = change_or (member (codes "auto_compaction_retention") d) (retention_by (counted_by before) d)

-- how a retention is told: the name of what it counts, and its text
abbrev pub mode_name : Retention → List ℕ
mode_name All = codes "periodic"
mode_name (Seconds s) = codes "periodic"
mode_name (Revisions n) = codes "revision"

abbrev pub retention_text : Retention → List ℕ
retention_text All = codes "0"
retention_text (Seconds s) = decimal s ++ codes "s"
retention_text (Revisions n) = decimal n
