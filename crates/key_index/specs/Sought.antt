-- The key that is looked up.
use Rattle.std.specs.Prelude.{ℕ, List, [], Option, Some, None, IsSome, Bool}
use Rattle.etcd_model.specs.Order.{key_lt}
use Rattle.key_index.specs.declared.search.Sought.{Sought}
use Rattle.key_index.specs.declared.search.Sought.TheVariants.{Key, KeyOf}
use Rattle.key_index.specs.Links.{Cells, Linked}

-- a record whose key is meant is there
abbrev pub IsThere : Cells → Sought → Type 0
IsThere cells (Key key) = Unit {0}
IsThere cells (KeyOf c) = IsSome (cells c)

abbrev pub entry_key : Option Linked → List ℕ
entry_key None = []
entry_key (Some e) = e.change.key

abbrev pub sought_key : Cells → Sought → List ℕ
sought_key cells (Key key) = key.now
sought_key cells (KeyOf c) = entry_key (cells c)

-- the key of the record under a cell comes before a key
abbrev pub comes_before : Cells → List ℕ → ℕ → Bool
comes_before cells key c = key_lt (entry_key (cells c)) key
