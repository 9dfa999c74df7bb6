-- Intervals of keys, by the first key and the end of a request.
-- etcd: API reference, RangeRequest: "range_end is the upper bound on the requested range [key, range_end)".
use Rattle.std.specs.Prelude.{ℕ, Bool, true, ◌&&◌, ◌||◌, List, [], ◌∷◌}
use Rattle.std.specs.Str.{bytes_eq}
use Rattle.etcd_model.specs.Order.{key_lt, key_le}

-- from the first key on, and below the end, unless the end is the single byte 0
abbrev pub is_between : List ℕ → List ℕ → List ℕ → Bool
is_between key end k = key_le key k && (bytes_eq end (0 ∷ []) || key_lt k end)

-- with no end, the one key
abbrev pub is_in : List ℕ → List ℕ → List ℕ → Bool
is_in key [] k = bytes_eq k key
is_in key (b ∷ bs) k = is_between key (b ∷ bs) k

abbrev pub every_key : List ℕ → Bool
every_key k = true
