-- What a hint tells of a slot.
use Rattle.std.specs.Prelude.{ℕ, Bool, false, slice_get}
use Rattle.std.specs.Option.{option_map_or}
use Rattle.watch_sync.specs.declared.hint.Hint.{Hint}

-- the bit of the slot: its take may not be quiet
abbrev pub is_hinted : Hint → ℕ → Bool
is_hinted hint slot = option_map_or (λ h. h.may_tell) (slice_get hint.slots slot) false
