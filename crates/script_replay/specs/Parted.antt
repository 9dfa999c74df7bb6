-- A parted text, by its values.
use Rattle.script_replay.specs.declared.script.Parts.{Parts as Parted}
use Rattle.script_replay.specs.Script.{Parts}

abbrev pub parts_by : Parted → Parts
parts_by p = record { field = p.field.now; rest = p.rest.now }
