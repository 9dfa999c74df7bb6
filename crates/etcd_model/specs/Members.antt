-- The members of a JSON object, and what each kind of member reads as.
use Rattle.std.specs.Prelude.{◌≡◌, ◌≢◌, ℕ, ◌^◌, ◌-◌, ◌==◌, ◌&&◌, ℤ, pos, negsuc, neg_ℤ, int_le, int_lt, zero}
use Rattle.std.specs.Prelude.{suc, option_and_then, List, [], ◌∷◌, length, drop, Bool, false, nat_lt}
use Rattle.std.specs.Prelude.{if◌then◌else◌, Option, Some, None, Result, Ok, Err, MatchResult, codes}
use Rattle.std.specs.Char.{digit_value}
use Rattle.std.specs.Str.Parse.{starts_with_minus, digits_value}
use Rattle.serde_json.specs.Data.{Data, null, boolean, number, string, array, object, Items, no_items, item}
use Rattle.serde_json.specs.Find.{get, as_i64, as_u64}
use Rattle.std.specs.List.{list_all}
use Rattle.std.specs.Option.{option_or}
use Rattle.std.specs.Str.{bytes_eq}
use Rattle.etcd_types.specs.declared.kv.SortOrder.{SortOrder}
use Rattle.etcd_types.specs.declared.kv.SortOrder.TheVariants as order
use Rattle.etcd_types.specs.declared.kv.SortTarget.{SortTarget}
use Rattle.etcd_types.specs.declared.kv.SortTarget.TheVariants as target
use Rattle.etcd_types.specs.declared.txn.CompareResult.{CompareResult}
use Rattle.etcd_types.specs.declared.txn.CompareResult.TheVariants as result
use Rattle.etcd_types.specs.declared.txn.CompareTarget.{CompareTarget}
use Rattle.etcd_types.specs.declared.txn.CompareTarget.TheVariants as compared
use Rattle.etcd_types.specs.declared.alarm.AlarmAction.{AlarmAction}
use Rattle.etcd_types.specs.declared.alarm.AlarmAction.TheVariants as action
use Rattle.etcd_types.specs.declared.alarm.AlarmKind.{AlarmKind}
use Rattle.etcd_types.specs.declared.alarm.AlarmKind.TheVariants as alarm
use Rattle.etcd_types.specs.declared.key_value.EventKind.{EventKind}
use Rattle.etcd_types.specs.declared.key_value.EventKind.TheVariants as kind
use Rattle.etcd_types.specs.declared.call.MemberName.{MemberName}
use Rattle.etcd_types.specs.declared.call.MemberName.TheVariants as name
use Rattle.etcd_types.specs.declared.refusal.Refusal.{Refusal}
use Rattle.etcd_types.specs.declared.refusal.Refusal.TheVariants.{BadBody, Memory}
use Rattle.etcd_model.specs.Spelling.{spelled_bytes}

-- ---- what is read, and refusals

-- r is what was wanted, or memory ran out
abbrev pub IsAnswer : {T : Type 0} → Result T Refusal → Result T Refusal → Type 0
IsAnswer r wanted = MatchResult r (λ x. wanted ≡ Ok x) (λ e. e ≢ Memory → wanted ≡ Err e)

-- the second reading is of what the first one gave
abbrev pub and_then : {A B : Type 0} → Result A Refusal → (A → Result B Refusal) → Result B Refusal
and_then (Ok x) f = f x
and_then (Err e) f = Err e

-- a value, or a body that can't be read
abbrev pub or_bad : {T : Type 0} → Option T → Result T Refusal
or_bad None = Err BadBody
or_bad (Some x) = Ok x

-- ---- names

-- a member's underscored name
abbrev pub underscored : MemberName → List ℕ
underscored name.Key = codes "key"
underscored name.RangeEnd = codes "range_end"
underscored name.Value = codes "value"
underscored name.Lease = codes "lease"
underscored name.PrevKv = codes "prev_kv"
underscored name.IgnoreValue = codes "ignore_value"
underscored name.IgnoreLease = codes "ignore_lease"
underscored name.Limit = codes "limit"
underscored name.Revision = codes "revision"
underscored name.SortOrder = codes "sort_order"
underscored name.SortTarget = codes "sort_target"
underscored name.Serializable = codes "serializable"
underscored name.KeysOnly = codes "keys_only"
underscored name.CountOnly = codes "count_only"
underscored name.MinModRevision = codes "min_mod_revision"
underscored name.MaxModRevision = codes "max_mod_revision"
underscored name.MinCreateRevision = codes "min_create_revision"
underscored name.MaxCreateRevision = codes "max_create_revision"
underscored name.Compare = codes "compare"
underscored name.Success = codes "success"
underscored name.Failure = codes "failure"
underscored name.Result = codes "result"
underscored name.Target = codes "target"
underscored name.Version = codes "version"
underscored name.CreateRevision = codes "create_revision"
underscored name.ModRevision = codes "mod_revision"
underscored name.RequestRange = codes "request_range"
underscored name.RequestPut = codes "request_put"
underscored name.RequestDeleteRange = codes "request_delete_range"
underscored name.RequestTxn = codes "request_txn"
underscored name.CreateRequest = codes "create_request"
underscored name.CancelRequest = codes "cancel_request"
underscored name.ProgressRequest = codes "progress_request"
underscored name.StartRevision = codes "start_revision"
underscored name.Filters = codes "filters"
underscored name.WatchId = codes "watch_id"
underscored name.ProgressNotify = codes "progress_notify"
underscored name.Ttl = codes "TTL"
underscored name.Id = codes "ID"
underscored name.Keys = codes "keys"
underscored name.Action = codes "action"
underscored name.MemberId = codes "memberID"
underscored name.Alarm = codes "alarm"

abbrev pub capital_first : List ℕ → List ℕ
capital_first [] = []
capital_first (c ∷ cs) = (c - 32) ∷ cs

-- a letter before a name's rest: an underscore goes, and the letter after it becomes a capital
abbrev pub before_camel : ℕ → List ℕ → List ℕ
before_camel c rest = if c == 95 then capital_first rest else c ∷ rest

abbrev pub camel_of : List ℕ → List ℕ
camel_of [] = []
camel_of (c ∷ cs) = before_camel c (camel_of cs)

-- a member's lowerCamel name
abbrev pub lower_camel : MemberName → List ℕ
lower_camel n = camel_of (underscored n)

-- a member that is null is absent
abbrev pub unless_null : Option Data → Option Data
unless_null None = None
unless_null (Some null) = None
unless_null (Some (boolean b)) = Some (boolean b)
unless_null (Some (number n)) = Some (number n)
unless_null (Some (string s)) = Some (string s)
unless_null (Some (array ds)) = Some (array ds)
unless_null (Some (object ms)) = Some (object ms)

-- the member of an object under its underscored name, else under its lowerCamel one
unfoldable pub member_of : MemberName → Data → Option Data
member_of n d = option_or (unless_null (get (underscored n) d)) (unless_null (get (lower_camel n) d))

-- ---- the kinds of members

-- bytes: a string that spells them
abbrev pub bytes_in : Data → Option (List ℕ)
bytes_in null = None
bytes_in (boolean b) = None
bytes_in (number n) = None
bytes_in (string s) = spelled_bytes s
bytes_in (array ds) = None
bytes_in (object ms) = None

unfoldable pub read_bytes : Option Data → Result (List ℕ) Refusal
read_bytes None = Ok []
read_bytes (Some d) = or_bad (bytes_in d)

-- the digits of a number's text
abbrev pub magnitude : List ℕ → List ℕ
magnitude s = if starts_with_minus s then drop 1 s else s

abbrev pub is_number_text : List ℕ → Bool
is_number_text s = nat_lt 0 (length (magnitude s)) && list_all (λ c. nat_lt (digit_value c) 10) (magnitude s)

abbrev pub text_value : List ℕ → ℤ
text_value s =
    if starts_with_minus s
    then neg_ℤ (pos (digits_value 10 (magnitude s)))
    else pos (digits_value 10 (magnitude s))

abbrev pub fits_signed : ℤ → Bool
fits_signed z = int_le (negsuc (2 ^ 63 - 1)) z && int_lt z (pos (2 ^ 63))

-- a text of a number: an optional minus and digits, within the signed 64 bits
unfoldable pub signed_text : List ℕ → Option ℤ
signed_text s = if is_number_text s && fits_signed (text_value s) then Some (text_value s) else None

-- the same within the unsigned 64 bits, where a minus may stand before a 0
abbrev pub fits_unsigned : ℤ → Bool
fits_unsigned z = int_le (pos 0) z && int_lt z (pos (2 ^ 64))

unfoldable pub unsigned_text : List ℕ → Option ℕ
unsigned_text s =
    if is_number_text s && fits_unsigned (text_value s) then Some (digits_value 10 (magnitude s)) else None

-- a number: a whole JSON number or such a text
abbrev pub signed_in : Data → Option ℤ
signed_in null = None
signed_in (boolean b) = None
signed_in (number n) = as_i64 n
signed_in (string s) = signed_text s
signed_in (array ds) = None
signed_in (object ms) = None

unfoldable pub read_signed : Option Data → Result ℤ Refusal
read_signed None = Ok (pos 0)
read_signed (Some d) = or_bad (signed_in d)

abbrev pub unsigned_in : Data → Option ℕ
unsigned_in null = None
unsigned_in (boolean b) = None
unsigned_in (number n) = as_u64 n
unsigned_in (string s) = unsigned_text s
unsigned_in (array ds) = None
unsigned_in (object ms) = None

unfoldable pub read_unsigned : Option Data → Result ℕ Refusal
read_unsigned None = Ok 0
read_unsigned (Some d) = or_bad (unsigned_in d)

-- a truth value: true or false
abbrev pub flag_in : Data → Option Bool
flag_in null = None
flag_in (boolean b) = Some b
flag_in (number n) = None
flag_in (string s) = None
flag_in (array ds) = None
flag_in (object ms) = None

unfoldable pub read_flag : Option Data → Result Bool Refusal
read_flag None = Ok false
read_flag (Some d) = or_bad (flag_in d)

-- what a name stands for in a table, and what stands at a place of it
abbrev pub named : {T : Type 0} → List ℕ → List (List ℕ × T) → Option T
named s [] = None
named s (e ∷ es) = if bytes_eq e.0 s then Some e.1 else named s es

abbrev pub placed : {T : Type 0} → ℕ → List (List ℕ × T) → Option T
placed n [] = None
placed zero (e ∷ es) = Some e.1
placed (suc n) (e ∷ es) = placed n es

-- one of a table: by its name, or by its number, which is its place
unfoldable pub choice_in : {T : Type 0} → List (List ℕ × T) → Data → Option T
choice_in table null = None
choice_in table (boolean b) = None
choice_in table (number n) = option_and_then (λ k. placed k table) (as_u64 n)
choice_in table (string s) = named s table
choice_in table (array ds) = None
choice_in table (object ms) = None

-- one of a table, or what an absent member stands for
unfoldable pub read_choice : {T : Type 0} → List (List ℕ × T) → T → Option Data → Result T Refusal
read_choice table absent None = Ok absent
read_choice table absent (Some d) = or_bad (choice_in table d)

abbrev pub orders : List (List ℕ × SortOrder)
orders =
    (codes "NONE", order.Unsorted) ∷ (codes "ASCEND", order.Ascend) ∷ (codes "DESCEND", order.Descend) ∷ []

abbrev pub read_order : Option Data → Result SortOrder Refusal
read_order = read_choice orders order.Unsorted

abbrev pub targets : List (List ℕ × SortTarget)
targets =
    (codes "KEY", target.Key) ∷ (codes "VERSION", target.Version) ∷ (codes "CREATE", target.Create)
    ∷ (codes "MOD", target.Mod) ∷ (codes "VALUE", target.Value) ∷ []

abbrev pub read_sort_target : Option Data → Result SortTarget Refusal
read_sort_target = read_choice targets target.Key

abbrev pub results : List (List ℕ × CompareResult)
results =
    (codes "EQUAL", result.Equal) ∷ (codes "GREATER", result.Greater) ∷ (codes "LESS", result.Less)
    ∷ (codes "NOT_EQUAL", result.NotEqual) ∷ []

abbrev pub read_result : Option Data → Result CompareResult Refusal
read_result = read_choice results result.Equal

abbrev pub compare_targets : List (List ℕ × CompareTarget)
compare_targets =
    (codes "VERSION", compared.Version) ∷ (codes "CREATE", compared.Create) ∷ (codes "MOD", compared.Mod)
    ∷ (codes "VALUE", compared.Value) ∷ (codes "LEASE", compared.Lease) ∷ []

abbrev pub read_compare_target : Option Data → Result CompareTarget Refusal
read_compare_target = read_choice compare_targets compared.Version

abbrev pub actions : List (List ℕ × AlarmAction)
actions =
    (codes "GET", action.Get) ∷ (codes "ACTIVATE", action.Activate) ∷ (codes "DEACTIVATE", action.Deactivate)
    ∷ []

abbrev pub read_action : Option Data → Result AlarmAction Refusal
read_action = read_choice actions action.Get

abbrev pub alarms : List (List ℕ × AlarmKind)
alarms = (codes "NONE", alarm.Any) ∷ (codes "NOSPACE", alarm.NoSpace) ∷ (codes "CORRUPT", alarm.Corrupt) ∷ []

abbrev pub read_alarm : Option Data → Result AlarmKind Refusal
read_alarm = read_choice alarms alarm.Any

-- a filter of a watch, by the kind of event that it leaves out
abbrev pub filters : List (List ℕ × EventKind)
filters = (codes "NOPUT", kind.Put) ∷ (codes "NODELETE", kind.Delete) ∷ []

-- ---- objects and lists

-- an object inside another
abbrev pub as_object : Data → Result Data Refusal
as_object null = Err BadBody
as_object (boolean b) = Err BadBody
as_object (number n) = Err BadBody
as_object (string s) = Err BadBody
as_object (array ds) = Err BadBody
as_object (object ms) = Ok (object ms)

-- the elements of a list, one after another
abbrev pub read_elements : {T : Type 0} → (Data → Result T Refusal) → Items → Result (List T) Refusal
read_elements element no_items = Ok []
read_elements element (item d ds) =
    and_then (element d) (λ x. and_then (read_elements element ds) (λ xs. Ok (x ∷ xs)))

abbrev pub list_in : {T : Type 0} → (Data → Result T Refusal) → Data → Result (List T) Refusal
list_in element null = Err BadBody
list_in element (boolean b) = Err BadBody
list_in element (number n) = Err BadBody
list_in element (string s) = Err BadBody
list_in element (array ds) = read_elements element ds
list_in element (object ms) = Err BadBody

unfoldable pub read_list : {T : Type 0} → (Data → Result T Refusal) → Option Data → Result (List T) Refusal
read_list element None = Ok []
read_list element (Some d) = list_in element d
