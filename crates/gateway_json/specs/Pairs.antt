-- A body that has a key and at most one text beside it, and nothing else: its tokens, the object that it is, and its step.
use Rattle.std.specs.Prelude.{ℕ, pos, List, [], ◌∷◌, false, Option, Some, None, codes}
use Rattle.json.specs.Token.{Token}
use Rattle.serde_json.specs.Data.{Data, string, object, no_members, member, put}
use Rattle.etcd_types.specs.declared.call.Call.{Call}
use Rattle.etcd_types.specs.declared.call.Call.TheVariants as asked
use Rattle.etcd_types.specs.declared.kv.DeleteReq.{DeleteReq}
use Rattle.etcd_types.specs.declared.kv.PutReq.{PutReq}
use Rattle.etcd_types.specs.declared.kv.RangeReq.{RangeReq}
use Rattle.etcd_types.specs.declared.kv.SortOrder.TheVariants.{Unsorted}
use Rattle.etcd_types.specs.declared.kv.SortTarget.TheVariants as target
use Rattle.etcd_types.specs.declared.step.Step.{Step}
use Rattle.etcd_types.specs.declared.step.Step.TheVariants as step
use Rattle.gateway_json.specs.declared.pair.PairCall.{PairCall}
use Rattle.gateway_json.specs.declared.pair.PairCall.TheVariants.{Put, Range, Delete}

-- the call
abbrev pub call_of : PairCall → Call
call_of Put = asked.Put
call_of Range = asked.Range
call_of Delete = asked.DeleteRange

-- the name of what may stand beside the key
abbrev pub name_beside : PairCall → List ℕ
name_beside Put = codes "value"
name_beside Range = codes "range_end"
name_beside Delete = codes "range_end"

-- the tokens behind the key
abbrev pub tokens_beside : List ℕ → Option (List ℕ) → List Token
tokens_beside name None = Token.end_object ∷ []
tokens_beside name (Some text) = Token.key name ∷ Token.string text ∷ Token.end_object ∷ []

-- the tokens of such a body
abbrev pub pair_tokens : List ℕ → List ℕ → Option (List ℕ) → List Token
pair_tokens name key beside =
    Token.begin_object ∷ Token.key (codes "key") ∷ Token.string key ∷ tokens_beside name beside

-- the object that it is
abbrev pub pair_object : List ℕ → List ℕ → Option (List ℕ) → Data
pair_object name key None = object (member (codes "key") (string key) no_members)
pair_object name key (Some text) = object (put name (string text) (member (codes "key") (string key) no_members))

-- the requests of two texts, with all else as it is where it is absent
abbrev pub put_of : List ℕ → List ℕ → PutReq
put_of key value = record {
  key = key;
  value = value;
  lease = pos 0;
  prev_kv = false;
  ignore_value = false;
  ignore_lease = false;
}

abbrev pub range_of : List ℕ → List ℕ → RangeReq
range_of key range_end = record {
  key = key;
  range_end = range_end;
  limit = pos 0;
  revision = pos 0;
  sort_order = Unsorted;
  sort_target = target.Key;
  serializable = false;
  keys_only = false;
  count_only = false;
  min_mod_revision = pos 0;
  max_mod_revision = pos 0;
  min_create_revision = pos 0;
  max_create_revision = pos 0;
}

abbrev pub delete_of : List ℕ → List ℕ → DeleteReq
delete_of key range_end = record { key = key; range_end = range_end; prev_kv = false }

-- the step of a key and what stands beside it
abbrev pub step_of : PairCall → List ℕ → List ℕ → Step
step_of Put key value = step.Put (put_of key value)
step_of Range key range_end = step.Range (range_of key range_end)
step_of Delete key range_end = step.Delete (delete_of key range_end)
