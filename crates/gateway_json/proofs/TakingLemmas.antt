-- An empty body stands for an object with no members, which takes no memory.
use Rattle.std.proofs.Common.{◌≡◌, ℕ, List, [], ◌∷◌, length, Ok, subst, arith}
use Rattle.serde_json.specs.Data.{null}
use Rattle.serde_json.specs.View.{view}
use Rattle.serde_json.specs.declared.value.Value.{Value}
use Rattle.etcd_types.specs.declared.call.Call.{Call}
use Rattle.etcd_types.specs.declared.call.Call.TheVariants as call
use Rattle.etcd_model.specs.Calls.{read_body}
use Rattle.etcd_model.specs.Members.{member_of}
use Rattle.gateway_json.specs.Taking.{TakesNone}

null_takes_none : (c : Call) → TakesNone c null
unfolding member_of
null_takes_none call.Range = (tt, tt)
null_takes_none call.Put = (tt, tt)
null_takes_none call.DeleteRange = (tt, tt)
null_takes_none call.Txn = (tt, tt, tt)
null_takes_none call.Compaction = tt
null_takes_none call.Watch = tt
null_takes_none call.Grant = tt
null_takes_none call.Revoke = tt
null_takes_none call.KeepAlive = tt
null_takes_none call.TimeToLive = tt
null_takes_none call.Leases = tt
null_takes_none call.Alarm = tt
null_takes_none call.Status = tt
null_takes_none call.Defragment = tt

pub empty_takes_none : (c : Call) (body : List ℕ) (v : Value) → length body ≡ 0 → read_body body ≡ Ok (view v) → TakesNone c (view v)
unfolding read_body
empty_takes_none c [] v empty reads =
    let computed : Ok null ≡ Ok (view v) = reads in
    let same : null ≡ view v = cc computed in subst (TakesNone c) same (null_takes_none c)
empty_takes_none c (b ∷ bs) v empty reads = absurd (omega arith)
