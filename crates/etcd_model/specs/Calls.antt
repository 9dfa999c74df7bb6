-- What a call's method, target and body ask for.
-- etcd: the JSON gateway, under a tenant's path.
use Rattle.std.specs.Prelude.{ℕ, ◌==◌, ◌&&◌, not, List, [], ◌∷◌, length, drop, nat_lt, nat_eq, if◌then◌else◌}
use Rattle.std.specs.Prelude.{Option, Some, None, option_and_then, Result, Ok, Err, codes}
use Rattle.std.specs.List.{starts_with, before_first}
use Rattle.std.specs.Str.{is_utf8, bytes_eq}
use Rattle.serde_json.specs.Data.{Data, null, boolean, number, string, array, object}
use Rattle.serde_json.specs.Read as serde_json
use Rattle.serde_json.specs.View.{view}
use Rattle.serde_json.specs.declared.value.Value.{Value}
use Rattle.etcd_types.specs.Limits.{max_body}
use Rattle.etcd_types.specs.declared.call.Call.{Call}
use Rattle.etcd_types.specs.declared.call.Call.TheVariants as call
use Rattle.etcd_types.specs.declared.refusal.Refusal.{Refusal}
use Rattle.etcd_types.specs.declared.refusal.Refusal.TheVariants.{NoPath, NotPost, TooLarge}
use Rattle.etcd_types.specs.declared.step.Step.{Step}
use Rattle.etcd_types.specs.declared.step.Step.TheVariants as step
use Rattle.etcd_model.specs.Fields.{fields, is_empty}
use Rattle.etcd_model.specs.Members.{IsAnswer, and_then, or_bad, named}
use Rattle.etcd_model.specs.Requests.{read_alarm_request, read_compaction, read_delete, read_grant, read_id}
use Rattle.etcd_model.specs.Requests.{read_put, read_range, read_time_to_live, read_txn, read_watch}

-- ---- paths

-- the calls by what follows `/v3/`
abbrev pub calls : List (List ℕ × Call)
calls =
    (codes "kv/range", call.Range) ∷ (codes "kv/put", call.Put) ∷ (codes "kv/deleterange", call.DeleteRange)
    ∷ (codes "kv/txn", call.Txn) ∷ (codes "kv/compaction", call.Compaction) ∷ (codes "watch", call.Watch)
    ∷ (codes "lease/grant", call.Grant) ∷ (codes "lease/revoke", call.Revoke)
    ∷ (codes "kv/lease/revoke", call.Revoke) ∷ (codes "lease/keepalive", call.KeepAlive)
    ∷ (codes "lease/timetolive", call.TimeToLive) ∷ (codes "kv/lease/timetolive", call.TimeToLive)
    ∷ (codes "lease/leases", call.Leases) ∷ (codes "kv/lease/leases", call.Leases)
    ∷ (codes "maintenance/alarm", call.Alarm) ∷ (codes "maintenance/status", call.Status)
    ∷ (codes "maintenance/defragment", call.Defragment) ∷ []

unfoldable pub call_of : List ℕ → Option Call
call_of path = named path calls

-- a tenant's name, and what follows `/v3/`
pub record Target : Type 0 where
  pub tenant : List ℕ
  pub path : List ℕ

-- a target's part before its query
abbrev pub path_of : List ℕ → List ℕ
path_of target = before_first (λ c. c == 63) target

-- the name is not empty, and `/v3/` follows it
abbrev pub split_at : List ℕ → List ℕ → Option Target
split_at name rest =
    if not (is_empty name) && starts_with nat_eq rest (codes "/v3/")
    then Some (record { tenant = name; path = drop 4 rest })
    else None

abbrev pub after_root : List ℕ → Option Target
after_root rest = let name = before_first (λ c. c == 47) rest in split_at name (drop (length name) rest)

-- `/t/<tenant>/v3/<path>`
unfoldable pub target_of : List ℕ → Option Target
target_of target =
    if starts_with nat_eq (path_of target) (codes "/t/") then after_root (drop 3 (path_of target)) else None

-- ---- bodies

-- the JSON value of a body
abbrev pub body_value : List ℕ → Option Data
body_value body =
    if length body == 0 then Some null else (if is_utf8 body then serde_json.read body else None)

-- a null stands for an object with no members
abbrev pub as_members : Data → Option Data
as_members null = Some null
as_members (boolean b) = None
as_members (number n) = None
as_members (string s) = None
as_members (array ds) = None
as_members (object ms) = Some (object ms)

unfoldable pub read_body : List ℕ → Result Data Refusal
read_body body = or_bad (option_and_then as_members (body_value body))

abbrev pub result_map : {A B : Type 0} → (A → B) → Result A Refusal → Result B Refusal
result_map f (Ok x) = Ok (f x)
result_map f (Err e) = Err e

-- the value of a body that can be read is what was wanted, or memory ran out
abbrev pub IsBody : Result Value Refusal → List ℕ → Type 0
IsBody r body = IsAnswer (result_map view r) (read_body body)

-- ---- steps

-- the step that a call's members ask for
unfoldable pub read_members : Call → Data → Result Step Refusal
read_members call.Range d = and_then (read_range d) (λ q. Ok (step.Range q))
read_members call.Put d = and_then (read_put d) (λ p. Ok (step.Put p))
read_members call.DeleteRange d = and_then (read_delete d) (λ q. Ok (step.Delete q))
read_members call.Txn d = and_then (read_txn d) (λ t. Ok (step.Txn t))
read_members call.Compaction d = read_compaction d
read_members call.Watch d = and_then (read_watch d) (λ q. Ok (step.Watch q))
read_members call.Grant d = and_then (read_grant d) (λ q. Ok (step.Grant q))
read_members call.Revoke d = and_then (read_id d) (λ id. Ok (step.Revoke id))
read_members call.KeepAlive d = and_then (read_id d) (λ id. Ok (step.KeepAlive id))
read_members call.TimeToLive d = read_time_to_live d
read_members call.Leases d = Ok step.Leases
read_members call.Alarm d = and_then (read_alarm_request d) (λ q. Ok (step.Alarm q))
read_members call.Status d = Ok step.Status
read_members call.Defragment d = Ok step.Defragment

-- ---- calls

-- the fields of a step that was read
abbrev pub checked : Step → Option Refusal → Result Step Refusal
checked s None = Ok s
checked s (Some r) = Err r

abbrev pub check_fields : Step → Result Step Refusal
check_fields s = checked s (fields s)

-- the size goes before the body
abbrev pub within_size : List ℕ → Result Step Refusal → Result Step Refusal
within_size body r = if nat_lt max_body (length body) then Err TooLarge else r

-- the step of a call, by its body; a fault of any member goes before the fields
unfoldable pub read_step : Call → List ℕ → Result Step Refusal
read_step c body = within_size body (and_then (and_then (read_body body) (read_members c)) check_fields)

abbrev pub for_call : Option Call → (Call → Result Step Refusal) → Result Step Refusal
for_call None f = Err NoPath
for_call (Some c) f = f c

-- the step that a path, which follows `/v3/`, and a body ask for, or why they are refused
unfoldable pub read_call : List ℕ → List ℕ → Result Step Refusal
read_call path body = for_call (call_of path) (λ c. read_step c body)

-- the same, with the method, which goes after the path and before the body
abbrev pub read_posted : List ℕ → List ℕ → List ℕ → Result Step Refusal
read_posted method path body =
    for_call (call_of path) (λ c. if bytes_eq method (codes "POST") then read_step c body else Err NotPost)
