use Rattle.std.proofs.Common.{◌≡◌, ◌<◌, ◌^◌, drop}
use Rattle.host_config.specs.Durations.{seconds_of, seconds_with}
use Rattle.host_config.proofs.retention.seconds_in.Given as goal

abbrev pub invariant-loop-byte : goal.invariant-loop-byte
invariant-loop-byte l = (seconds_of l.text ≡ seconds_with l.read (drop l.byte-index l.text)) × (l.read.all < 2 ^ 64)
