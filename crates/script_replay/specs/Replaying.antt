-- A replay: a host of a script, and what its lines are answered.
use Rattle.std.specs.Prelude.{◌≡◌, ℕ, ◌≤◌, List, [], ◌∷◌, map, Option, None, Some}
use Rattle.etcd_types.specs.declared.limits.TheConstants.{DEFAULT_SEGMENTS, MAX_SEGMENTS}
use Rattle.steps_core.specs.Hosts.{HostState}
use Rattle.host_front.specs.declared.front.Front.{Front}
use Rattle.host_front.specs.declared.line.LineAnswer.{LineAnswer}
use Rattle.host_front.specs.declared.line.LineAnswer.TheVariants.{Done}
use Rattle.host_front.specs.Lines.{LineTurn}
use Rattle.host_front.specs.Operating.{Lives}
use Rattle.script_replay.specs.Script.{Asked, Pool, Live}

-- ---- the host

-- a host of so many segments, and of no tenants
abbrev pub new_host : ℕ → HostState
new_host segments = record { tenants = []; segments = segments }

-- the host of a script that names this pool, or none
abbrev pub first_host : Option ℕ → HostState
first_host None = new_host DEFAULT_SEGMENTS
first_host (Some segments) = new_host segments

abbrev pub host_in : Option Front → HostState
host_in None = first_host None
host_in (Some front) = front.host

-- ---- one line

-- a pool is named first, and is no larger than a pool may be
pub record IsPoolInPlace (front : Option Front) (segments : ℕ) : Type 0 where
  pub first : front ≡ None
  pub some : 1 ≤ segments
  pub most : segments ≤ MAX_SEGMENTS

abbrev pub IsInPlace : Option Front → Asked → Type 0
IsInPlace front (Pool segments) = IsPoolInPlace front segments
IsInPlace front (Live line) = Unit {0}

-- what a line is told, and the host that it leaves
abbrev pub Tells : HostState → Asked → LineAnswer → HostState → Type 0
Tells old (Pool segments) answer new = (answer ≡ Done) × (new ≡ new_host segments)
Tells old (Live line) answer new = Lives old line answer new

-- ---- a whole script

abbrev pub asked_live : List LineTurn → List Asked
asked_live xs = map (λ x. Live x.line) xs

abbrev pub told_live : List LineTurn → List LineAnswer
told_live xs = map (λ x. x.answer) xs

-- what the lines ask for: the pool, if the first names one, and then what the host is asked
abbrev pub asked_in : Option ℕ → List LineTurn → List Asked
asked_in None xs = asked_live xs
asked_in (Some segments) xs = Pool segments ∷ asked_live xs

-- what the lines are answered
abbrev pub told_in : Option ℕ → List LineTurn → List LineAnswer
told_in None xs = told_live xs
told_in (Some segments) xs = Done ∷ told_live xs
