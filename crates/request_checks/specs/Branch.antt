-- What some operation of a branch is.
use Rattle.std.specs.Prelude.{ℕ, Bool, true, false, ◌&&◌, List, [], ◌∷◌, Option, Some, None}
use Rattle.std.specs.List.{list_any}
use Rattle.std.specs.Option.{option_map_or}
use Rattle.etcd_types.specs.declared.kv.PutReq.{PutReq}
use Rattle.etcd_types.specs.declared.kv.DeleteReq.{DeleteReq}
use Rattle.etcd_types.specs.declared.txn.Op.{Op}
use Rattle.etcd_model.specs.Fields.{op_put, op_delete}
use Rattle.etcd_model.specs.Order.{key_lt}

-- a put that passes
abbrev pub any_put : (PutReq → Bool) → List Op → Bool
any_put test ops = list_any (λ op. option_map_or test (op_put op) false) ops

-- a delete that passes
abbrev pub any_delete : (DeleteReq → Bool) → List Op → Bool
any_delete test ops = list_any (λ op. option_map_or test (op_delete op) false) ops

-- a key is above the one before it, if there is one
abbrev pub is_above : Option (List ℕ) → List ℕ → Bool
is_above None k = true
is_above (Some j) k = key_lt j k

-- each put's key is above that of the put before it, of which the first's is told
abbrev pub rise : Option (List ℕ) → List PutReq → Bool
rise before [] = true
rise before (p ∷ ps) = is_above before p.key && rise (Some p.key) ps
