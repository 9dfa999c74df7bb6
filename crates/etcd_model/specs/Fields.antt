-- What a step is refused for by its own fields.
-- etcd: API reference, KV and Lease: the checks that come before anything is looked up.
use Rattle.std.specs.Prelude.{ℕ, Bool, true, false, not, ◌&&◌, ◌||◌, List, [], ◌∷◌, ◌++◌, length, filter_map}
use Rattle.std.specs.Prelude.{pos, nat_lt, int_lt, Option, Some, None}
use Rattle.std.specs.List.{list_any}
use Rattle.std.specs.Ordering.{int_eq}
use Rattle.std.specs.Str.{bytes_eq}
use Rattle.etcd_types.specs.declared.kv.PutReq.{PutReq}
use Rattle.etcd_types.specs.declared.kv.DeleteReq.{DeleteReq}
use Rattle.etcd_types.specs.declared.txn.TxnReq.{TxnReq}
use Rattle.etcd_types.specs.declared.alarm.AlarmAction.{AlarmAction}
use Rattle.etcd_types.specs.declared.alarm.AlarmAction.TheVariants.{Activate}
use Rattle.etcd_types.specs.declared.alarm.AlarmKind.{AlarmKind}
use Rattle.etcd_types.specs.declared.alarm.AlarmKind.TheVariants.{Corrupt}
use Rattle.etcd_types.specs.declared.txn.Op.{Op}
use Rattle.etcd_types.specs.declared.txn.Op.TheVariants.{Range as RangeOp, Put as PutOp, Delete as DeleteOp}
use Rattle.etcd_types.specs.declared.txn.Op.TheVariants.{Nested}
use Rattle.etcd_types.specs.declared.step.Step.{Step}
use Rattle.etcd_types.specs.declared.step.Step.TheVariants.{Range, Put, Delete, Txn, Grant, Alarm}
use Rattle.etcd_types.specs.declared.refusal.Refusal.{Refusal}
use Rattle.etcd_types.specs.declared.refusal.Refusal.TheVariants.{NoKey, ValueGiven, LeaseGiven, TooManyOps}
use Rattle.etcd_types.specs.declared.refusal.Refusal.TheVariants.{DuplicateKey, TtlTooLarge, NotOffered}
use Rattle.etcd_types.specs.Limits.{max_ops, max_ttl}
use Rattle.etcd_model.specs.Interval.{is_in}
use Rattle.etcd_model.specs.Operations.{first_refusal}

abbrev pub refused_if : Bool → Refusal → Option Refusal
refused_if true r = Some r
refused_if false r = None

abbrev pub is_empty : {X : Type 0} → List X → Bool
is_empty [] = true
is_empty (x ∷ xs) = false

-- the present value is to stay, and yet there is one
abbrev pub gives_value : PutReq → Bool
gives_value p = p.ignore_value && not (is_empty p.value)

abbrev pub gives_lease : PutReq → Bool
gives_lease p = p.ignore_lease && not (int_eq p.lease (pos 0))

abbrev pub op_lacks_key : Op → Bool
op_lacks_key (RangeOp q) = is_empty q.key
op_lacks_key (PutOp p) = is_empty p.key
op_lacks_key (DeleteOp d) = is_empty d.key
op_lacks_key Nested = false

abbrev pub op_put : Op → Option PutReq
op_put (RangeOp q) = None
op_put (PutOp p) = Some p
op_put (DeleteOp d) = None
op_put Nested = None

abbrev pub op_delete : Op → Option DeleteReq
op_delete (RangeOp q) = None
op_delete (PutOp p) = None
op_delete (DeleteOp d) = Some d
op_delete Nested = None

abbrev pub is_nested : Op → Bool
is_nested (RangeOp q) = false
is_nested (PutOp p) = false
is_nested (DeleteOp d) = false
is_nested Nested = true

abbrev pub puts : List Op → List PutReq
puts ops = filter_map op_put ops

abbrev pub deletes : List Op → List DeleteReq
deletes ops = filter_map op_delete ops

-- a key is put twice
abbrev pub has_twice : List PutReq → Bool
has_twice [] = false
has_twice (p ∷ ps) = list_any (λ q. bytes_eq q.key p.key) ps || has_twice ps

-- in one branch a key is put twice, or put and deleted
abbrev pub has_duplicate : List Op → Bool
has_duplicate ops =
    has_twice (puts ops)
    || list_any (λ p. list_any (λ d. is_in d.key d.range_end p.key) (deletes ops)) (puts ops)

abbrev pub has_over : {X : Type 0} → ℕ → List X → Bool
has_over n xs = nat_lt n (length xs)

-- the checks are of both branches, in the order of the refusals' numbers
abbrev pub txn_fields : TxnReq → Option Refusal
txn_fields t =
    let ops = t.success ++ t.failure in
    first_refusal (
    refused_if (list_any (λ c. is_empty c.key) t.compare || list_any op_lacks_key ops) NoKey
    ∷ refused_if (list_any gives_value (puts ops)) ValueGiven
    ∷ refused_if (list_any gives_lease (puts ops)) LeaseGiven
    ∷ refused_if
    (has_over max_ops t.compare || (has_over max_ops t.success || has_over max_ops t.failure)) TooManyOps
    ∷ refused_if (has_duplicate t.success || has_duplicate t.failure) DuplicateKey
    ∷ refused_if (list_any is_nested ops) NotOffered
    ∷ [])

abbrev pub put_fields : PutReq → Option Refusal
put_fields p = first_refusal (
    refused_if (is_empty p.key) NoKey
    ∷ refused_if (gives_value p) ValueGiven
    ∷ refused_if (gives_lease p) LeaseGiven
    ∷ [])

abbrev pub asks_corrupt : AlarmAction → AlarmKind → Bool
asks_corrupt Activate Corrupt = true
asks_corrupt action alarm = false

-- the lowest refusal that the fields of a step give
abbrev pub fields : Step → Option Refusal
fields (Range q) = refused_if (is_empty q.key) NoKey
fields (Put p) = put_fields p
fields (Delete d) = refused_if (is_empty d.key) NoKey
fields (Txn t) = txn_fields t
fields (Grant g) = refused_if (int_lt max_ttl g.ttl) TtlTooLarge
fields (Alarm a) = refused_if (asks_corrupt a.action a.alarm) NotOffered
fields step = None
