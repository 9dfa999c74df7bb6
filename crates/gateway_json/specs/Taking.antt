-- What takes memory as it is read: texts with a symbol, and lists with an element that can be read. A request
-- that has neither in the members that hold bytes or lists is read with none. Numbers, truth values and the
-- members that are one of a table never take any.
use Rattle.std.specs.Prelude.{◌≡◌, length, Option, Some, None, Result}
use Rattle.std.specs.Result.{IsErr}
use Rattle.serde_json.specs.Data.{Data, null, boolean, number, string, array, object, Items, no_items, item}
use Rattle.etcd_types.specs.declared.call.Call.{Call}
use Rattle.etcd_types.specs.declared.call.Call.TheVariants as call
use Rattle.etcd_types.specs.declared.call.MemberName.{MemberName}
use Rattle.etcd_types.specs.declared.call.MemberName.TheVariants as name
use Rattle.etcd_types.specs.declared.refusal.Refusal.{Refusal}
use Rattle.etcd_model.specs.Members.{member_of}
use Rattle.etcd_model.specs.Requests.{compare_in, filter_in, op_in}

-- ---- members

-- a member, if it is there, meets P
abbrev pub IfThere : (Data → Type 0) → Option Data → Type 0
IfThere P None = Unit {0}
IfThere P (Some d) = P d

-- bytes: no text with a symbol
abbrev pub HasNoSymbol : Data → Type 0
HasNoSymbol null = Unit {0}
HasNoSymbol (boolean b) = Unit {0}
HasNoSymbol (number n) = Unit {0}
HasNoSymbol (string s) = length s ≡ 0
HasNoSymbol (array ds) = Unit {0}
HasNoSymbol (object ms) = Unit {0}

-- a list's elements: none, or a first one that is refused and takes no memory itself
abbrev pub IsFirstRefused : {T : Type 0} → (Data → Result T Refusal) → (Data → Type 0) → Items → Type 0
IsFirstRefused element TakesNone no_items = Unit {0}
IsFirstRefused element TakesNone (item d ds) = TakesNone d × IsErr (element d)

-- a list: no element is held
abbrev pub HoldsNone : {T : Type 0} → (Data → Result T Refusal) → (Data → Type 0) → Data → Type 0
HoldsNone element TakesNone null = Unit {0}
HoldsNone element TakesNone (boolean b) = Unit {0}
HoldsNone element TakesNone (number n) = Unit {0}
HoldsNone element TakesNone (string s) = Unit {0}
HoldsNone element TakesNone (array ds) = IsFirstRefused element TakesNone ds
HoldsNone element TakesNone (object ms) = Unit {0}

-- the bytes of that name take none
abbrev pub BytesTakeNone : MemberName → Data → Type 0
BytesTakeNone n d = IfThere HasNoSymbol (member_of n d)

-- ---- requests

-- a key and the end of an interval, of a range, a delete, a compare or a watch
abbrev pub IntervalTakesNone : Data → Type 0
IntervalTakesNone d = BytesTakeNone name.Key d × BytesTakeNone name.RangeEnd d

abbrev pub PutTakesNone : Data → Type 0
PutTakesNone d = BytesTakeNone name.Key d × BytesTakeNone name.Value d

abbrev pub CompareTakesNone : Data → Type 0
CompareTakesNone d = IntervalTakesNone d × BytesTakeNone name.Value d

abbrev pub OpTakesNone : Data → Type 0
OpTakesNone d =
    IfThere IntervalTakesNone (member_of name.RequestRange d) × IfThere PutTakesNone (member_of name.RequestPut d)
    × IfThere IntervalTakesNone (member_of name.RequestDeleteRange d)

abbrev pub OpsTakeNone : MemberName → Data → Type 0
OpsTakeNone n d = IfThere (HoldsNone op_in OpTakesNone) (member_of n d)

abbrev pub TxnTakesNone : Data → Type 0
TxnTakesNone d =
    IfThere (HoldsNone compare_in CompareTakesNone) (member_of name.Compare d)
    × OpsTakeNone name.Success d × OpsTakeNone name.Failure d

abbrev pub CreateTakesNone : Data → Type 0
CreateTakesNone d =
    IntervalTakesNone d × IfThere (HoldsNone filter_in (λ _. Unit {0})) (member_of name.Filters d)

abbrev pub WatchTakesNone : Data → Type 0
WatchTakesNone d = IfThere CreateTakesNone (member_of name.CreateRequest d)

-- a call's members take none
abbrev pub TakesNone : Call → Data → Type 0
TakesNone call.Range d = IntervalTakesNone d
TakesNone call.Put d = PutTakesNone d
TakesNone call.DeleteRange d = IntervalTakesNone d
TakesNone call.Txn d = TxnTakesNone d
TakesNone call.Watch d = WatchTakesNone d
TakesNone c d = Unit {0}
