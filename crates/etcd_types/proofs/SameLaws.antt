-- What a derived equality of requests, steps and replies tells: where it is true, the two are one value.
use Rattle.std.proofs.Common.{◌≡◌, Bool, true, false, [], ◌∷◌, refl, ap, subst, arith}
use Rattle.std.specs.Prelude.{Some, None, nat_eq}
use Rattle.std.specs.Option.{option_eq}
use Rattle.std.specs.Ordering.{int_eq}
use Rattle.std.specs.Str.{bytes_eq}
use Rattle.std.specs.Cmp.Lexicographic.{pointwise, bytes_decides}
use Rattle.std.proofs.Math.Bool.{beq}
use Rattle.std.proofs.lemmas.Bool.{false≢true, eqb-true}
use Rattle.std.proofs.lemmas.Bool.Decides.{Decides-int_eq}
use Rattle.std.specs.Bool.{Decides}
use Rattle.std.specs.Cmp.{IsEquivalence, first_so, second_so}
use denote.Enum.Bare.{same_true}
use Rattle.etcd_types.specs.contracts.kv.SortOrder.{the_type as order_type}
use Rattle.etcd_types.specs.contracts.kv.SortOrderPartialEq.TheImpl as order
use Rattle.etcd_types.specs.contracts.kv.SortTarget.{the_type as target_type}
use Rattle.etcd_types.specs.contracts.kv.SortTargetPartialEq.TheImpl as target
use Rattle.etcd_types.specs.contracts.txn.CompareResult.{the_type as result_type}
use Rattle.etcd_types.specs.contracts.txn.CompareResultPartialEq.TheImpl as result
use Rattle.etcd_types.specs.contracts.alarm.AlarmAction.{the_type as action_type}
use Rattle.etcd_types.specs.contracts.alarm.AlarmActionPartialEq.TheImpl as action
use Rattle.etcd_types.specs.contracts.alarm.AlarmKind.{the_type as kind_type}
use Rattle.etcd_types.specs.contracts.alarm.AlarmKindPartialEq.TheImpl as kind
use Rattle.etcd_types.specs.contracts.key_value.EventKind.{the_type as event_kind_type}
use Rattle.etcd_types.specs.contracts.key_value.EventKindPartialEq.TheImpl as event_kind
use Rattle.etcd_types.specs.contracts.refusal.Refusal.{the_type as refusal_type}
use Rattle.etcd_types.specs.contracts.refusal.RefusalPartialEq.TheImpl as refusal
use Rattle.etcd_types.specs.contracts.key_value.KeyValuePartialEq.TheImpl as key_value
use Rattle.etcd_types.specs.contracts.key_value.EventPartialEq.TheImpl as event
use Rattle.etcd_types.specs.contracts.kv.RangeReqPartialEq.TheImpl as range
use Rattle.etcd_types.specs.contracts.kv.PutReqPartialEq.TheImpl as put
use Rattle.etcd_types.specs.contracts.kv.DeleteReqPartialEq.TheImpl as delete
use Rattle.etcd_types.specs.contracts.lease.GrantReqPartialEq.TheImpl as grant
use Rattle.etcd_types.specs.contracts.alarm.AlarmReqPartialEq.TheImpl as alarm
use Rattle.etcd_types.specs.contracts.watch.FiltersPartialEq.TheImpl as filters
use Rattle.etcd_types.specs.contracts.watch.WatchReqPartialEq.TheImpl as watch
use Rattle.etcd_types.specs.contracts.reply.HeaderPartialEq.TheImpl as header
use Rattle.etcd_types.specs.contracts.txn.OperandPartialEq.TheImpl as operand
use Rattle.etcd_types.specs.contracts.txn.ComparePartialEq.TheImpl as compare
use Rattle.etcd_types.specs.contracts.txn.OpPartialEq.TheImpl as op
use Rattle.etcd_types.specs.contracts.txn.TxnReqPartialEq.TheImpl as txn
use Rattle.etcd_types.specs.contracts.step.StepPartialEq.TheImpl as step
use Rattle.etcd_types.specs.contracts.reply.OpReplyPartialEq.TheImpl as op_reply
use Rattle.etcd_types.specs.contracts.reply.ReplyPartialEq.TheImpl as reply
use Rattle.etcd_types.specs.declared.txn.Operand.TheVariants as operand_of
use Rattle.etcd_types.specs.declared.txn.Op.TheVariants as op_of
use Rattle.etcd_types.specs.declared.step.Step.{Step}
use Rattle.etcd_types.specs.declared.reply.Reply.{Reply}
use Rattle.etcd_types.specs.declared.step.Step.TheVariants as step_of
use Rattle.etcd_types.specs.declared.reply.OpReply.TheVariants as op_reply_of
use Rattle.etcd_types.specs.declared.reply.Reply.TheVariants as reply_of
use Rattle.etcd_types.specs.contracts.step.StepEq.TheImpl.Laws.{laws-law as step_laws}
use Rattle.etcd_types.specs.contracts.reply.ReplyEq.TheImpl.Laws.{laws-law as reply_laws}

-- a test tells that two values are one
abbrev pub Tells : {X : Type 0} → (X → X → Bool) → Type 0
Tells {X} E = (a b : X) → E a b ≡ true → a ≡ b

-- ---- numbers, flags, bytes and lists

number_tells : Tells nat_eq
number_tells a b h = eqb-true a b h

signed_tells : Tells int_eq
signed_tells a b h = (Decides-int_eq a b).0 h

flag_tells : Tells beq
flag_tells true true h = refl
flag_tells false false h = refl
flag_tells a b h = absurd (false≢true h)

bytes_tells : Tells bytes_eq
bytes_tells a b h = (bytes_decides a b).0 h

list_tells : {X : Type 0} {E : X → X → Bool} → Tells E → Tells (pointwise E)
list_tells t [] [] h = refl
list_tells {E} t (x ∷ xs) (y ∷ ys) h = λ i. t x y (first_so (E x y) (pointwise E xs ys) h) i ∷ list_tells t xs ys (second_so (E x y) (pointwise E xs ys) h) i
list_tells t xs ys h = absurd (false≢true h)

option_tells : {X : Type 0} {E : X → X → Bool} → Tells E → Tells (option_eq E)
option_tells t None None h = refl
option_tells t (Some x) (Some y) h = ap Some (t x y h)
option_tells t x y h = absurd (false≢true h)

-- what the tests of the fields tell
ruleset fields = (first_so, second_so, number_tells, signed_tells, flag_tells, bytes_tells, list_tells, option_tells)

-- ---- words

order_tells : Tells (order.ghosts).eq
order_tells a b h = same_true order_type tt a b h

target_tells : Tells (target.ghosts).eq
target_tells a b h = same_true target_type tt a b h

result_tells : Tells (result.ghosts).eq
result_tells a b h = same_true result_type tt a b h

action_tells : Tells (action.ghosts).eq
action_tells a b h = same_true action_type tt a b h

kind_tells : Tells (kind.ghosts).eq
kind_tells a b h = same_true kind_type tt a b h

event_kind_tells : Tells (event_kind.ghosts).eq
event_kind_tells a b h = same_true event_kind_type tt a b h

refusal_tells : Tells (refusal.ghosts).eq
refusal_tells a b h = same_true refusal_type tt a b h

-- ---- rows and requests

key_value_tells : Tells (key_value.ghosts).eq
key_value_tells a b h = grind (arith, fields)

event_tells : Tells (event.ghosts).eq
event_tells a b h = grind (arith, fields, event_kind_tells, key_value_tells)

range_tells : Tells (range.ghosts).eq
range_tells a b h =
    let key : a.key ≡ b.key = search fields depth 15 in
    let range_end : a.range_end ≡ b.range_end = search fields depth 15 in
    let limit : a.limit ≡ b.limit = search fields depth 15 in
    let revision : a.revision ≡ b.revision = search fields depth 15 in
    let sort_order : a.sort_order ≡ b.sort_order = search (fields, order_tells) depth 15 in
    let sort_target : a.sort_target ≡ b.sort_target = search (fields, target_tells) depth 15 in
    let serializable : a.serializable ≡ b.serializable = search fields depth 15 in
    let keys_only : a.keys_only ≡ b.keys_only = search fields depth 15 in
    let count_only : a.count_only ≡ b.count_only = search fields depth 15 in
    let min_mod_revision : a.min_mod_revision ≡ b.min_mod_revision = search fields depth 15 in
    let max_mod_revision : a.max_mod_revision ≡ b.max_mod_revision = search fields depth 15 in
    let min_create_revision : a.min_create_revision ≡ b.min_create_revision = search fields depth 15 in
    let max_create_revision : a.max_create_revision ≡ b.max_create_revision = search fields depth 15 in
    λ i. record { key = key i; range_end = range_end i; limit = limit i; revision = revision i; sort_order = sort_order i; sort_target = sort_target i; serializable = serializable i; keys_only = keys_only i; count_only = count_only i; min_mod_revision = min_mod_revision i; max_mod_revision = max_mod_revision i; min_create_revision = min_create_revision i; max_create_revision = max_create_revision i }

put_tells : Tells (put.ghosts).eq
put_tells a b h = grind (arith, fields)

delete_tells : Tells (delete.ghosts).eq
delete_tells a b h = grind (arith, fields)

grant_tells : Tells (grant.ghosts).eq
grant_tells a b h = grind (arith, fields)

alarm_tells : Tells (alarm.ghosts).eq
alarm_tells a b h = grind (arith, fields, action_tells, kind_tells)

filters_tells : Tells (filters.ghosts).eq
filters_tells a b h = grind (arith, fields)

watch_tells : Tells (watch.ghosts).eq
watch_tells a b h =
    let key : a.key ≡ b.key = search fields depth 10 in
    let range_end : a.range_end ≡ b.range_end = search fields depth 10 in
    let start_revision : a.start_revision ≡ b.start_revision = search fields depth 10 in
    let filters : a.filters ≡ b.filters = search (fields, filters_tells) depth 10 in
    let prev_kv : a.prev_kv ≡ b.prev_kv = search fields depth 10 in
    let watch_id : a.watch_id ≡ b.watch_id = search fields depth 10 in
    let progress_notify : a.progress_notify ≡ b.progress_notify = search fields depth 10 in
    λ i. record { key = key i; range_end = range_end i; start_revision = start_revision i; filters = filters i; prev_kv = prev_kv i; watch_id = watch_id i; progress_notify = progress_notify i }

header_tells : Tells (header.ghosts).eq
header_tells a b h = grind (arith, fields)

-- ---- transactions

operand_tells : Tells (operand.ghosts).eq
operand_tells (operand_of.Version n) (operand_of.Version n') h = ap operand_of.Version (signed_tells n n' h)
operand_tells (operand_of.Create n) (operand_of.Create n') h = ap operand_of.Create (signed_tells n n' h)
operand_tells (operand_of.Mod n) (operand_of.Mod n') h = ap operand_of.Mod (signed_tells n n' h)
operand_tells (operand_of.Value v) (operand_of.Value v') h = ap operand_of.Value (bytes_tells v v' h)
operand_tells (operand_of.Lease n) (operand_of.Lease n') h = ap operand_of.Lease (signed_tells n n' h)
operand_tells a b h = absurd (false≢true h)

compare_tells : Tells (compare.ghosts).eq
compare_tells a b h = grind (arith, fields, result_tells, operand_tells)

op_tells : Tells (op.ghosts).eq
op_tells (op_of.Range q) (op_of.Range q') h = ap op_of.Range (range_tells q q' h)
op_tells (op_of.Put p) (op_of.Put p') h = ap op_of.Put (put_tells p p' h)
op_tells (op_of.Delete d) (op_of.Delete d') h = ap op_of.Delete (delete_tells d d' h)
op_tells op_of.Nested op_of.Nested h = refl
op_tells a b h = absurd (false≢true h)

txn_tells : Tells (txn.ghosts).eq
txn_tells a b h =
    let compare : a.compare ≡ b.compare = search (fields, compare_tells) in
    let success : a.success ≡ b.success = search (fields, op_tells) in
    let failure : a.failure ≡ b.failure = search (fields, op_tells) in
    λ i. record { compare = compare i; success = success i; failure = failure i }

-- ---- steps and replies

step_tells : Tells (step.ghosts).eq
step_tells (step_of.Range q) (step_of.Range q') h = ap step_of.Range (range_tells q q' h)
step_tells (step_of.Put p) (step_of.Put p') h = ap step_of.Put (put_tells p p' h)
step_tells (step_of.Delete d) (step_of.Delete d') h = ap step_of.Delete (delete_tells d d' h)
step_tells (step_of.Txn t) (step_of.Txn t') h = ap step_of.Txn (txn_tells t t' h)
step_tells (step_of.Compact r) (step_of.Compact r') h = ap step_of.Compact (signed_tells r r' h)
step_tells (step_of.Watch w) (step_of.Watch w') h = ap step_of.Watch (watch_tells w w' h)
step_tells (step_of.Take i) (step_of.Take i') h = ap step_of.Take (number_tells i i' h)
step_tells (step_of.DropWatch i) (step_of.DropWatch i') h = ap step_of.DropWatch (number_tells i i' h)
step_tells (step_of.Grant g) (step_of.Grant g') h = ap step_of.Grant (grant_tells g g' h)
step_tells (step_of.Revoke id) (step_of.Revoke id') h = ap step_of.Revoke (signed_tells id id' h)
step_tells (step_of.KeepAlive id) (step_of.KeepAlive id') h = ap step_of.KeepAlive (signed_tells id id' h)
step_tells (step_of.TimeToLive id keys) (step_of.TimeToLive id' keys') h = search fields
step_tells step_of.Leases step_of.Leases h = refl
step_tells (step_of.Alarm a) (step_of.Alarm a') h = ap step_of.Alarm (alarm_tells a a' h)
step_tells step_of.Status step_of.Status h = refl
step_tells step_of.Defragment step_of.Defragment h = refl
step_tells (step_of.Tick m) (step_of.Tick m') h = ap step_of.Tick (number_tells m m' h)
step_tells (step_of.CatchUp n) (step_of.CatchUp n') h = ap step_of.CatchUp (number_tells n n' h)
step_tells a b h = absurd (false≢true h)

op_reply_tells : Tells (op_reply.ghosts).eq
op_reply_tells (op_reply_of.Range r n rows more) (op_reply_of.Range r' n' rows' more') h = search (fields, key_value_tells)
op_reply_tells (op_reply_of.Put r row) (op_reply_of.Put r' row') h = search (fields, key_value_tells)
op_reply_tells (op_reply_of.Delete r n rows) (op_reply_of.Delete r' n' rows') h = search (fields, key_value_tells)
op_reply_tells a b h = absurd (false≢true h)

-- the same, with the parts of answers
ruleset answers = (fields, header_tells, key_value_tells, op_reply_tells, event_tells)

reply_tells : Tells (reply.ghosts).eq
reply_tells (reply_of.Range head n rows more) (reply_of.Range head' n' rows' more') h = search answers
reply_tells (reply_of.Put head row) (reply_of.Put head' row') h = search answers
reply_tells (reply_of.Delete head n rows) (reply_of.Delete head' n' rows') h = search answers
reply_tells (reply_of.Txn head ran rs) (reply_of.Txn head' ran' rs') h = search answers
reply_tells (reply_of.Compacted head) (reply_of.Compacted head') h = ap reply_of.Compacted (header_tells head head' h)
reply_tells (reply_of.Created head id slot) (reply_of.Created head' id' slot') h = search answers
reply_tells (reply_of.Events head id es) (reply_of.Events head' id' es') h = search answers
reply_tells (reply_of.Progress head id) (reply_of.Progress head' id') h = search answers
reply_tells (reply_of.Canceled head id r) (reply_of.Canceled head' id' r') h = search answers
reply_tells (reply_of.Granted head id ttl) (reply_of.Granted head' id' ttl') h = search answers
reply_tells (reply_of.Revoked head) (reply_of.Revoked head') h = ap reply_of.Revoked (header_tells head head' h)
reply_tells (reply_of.KeptAlive head id ttl) (reply_of.KeptAlive head' id' ttl') h = search answers
reply_tells (reply_of.TimeToLive head id ttl granted keys) (reply_of.TimeToLive head' id' ttl' granted' keys') h = search answers
reply_tells (reply_of.Leases head ids) (reply_of.Leases head' ids') h = search answers
reply_tells (reply_of.Alarms head listed) (reply_of.Alarms head' listed') h = search answers
reply_tells (reply_of.Status head size used) (reply_of.Status head' size' used') h = search answers
reply_tells (reply_of.Defragmented head) (reply_of.Defragmented head') h = ap reply_of.Defragmented (header_tells head head' h)
reply_tells reply_of.Quiet reply_of.Quiet h = refl
reply_tells (reply_of.Refused r) (reply_of.Refused r') h = ap reply_of.Refused (refusal_tells r r' h)
reply_tells a b h = absurd (false≢true h)

-- a derived equality that tells is true at one value, and nowhere else
decides : {X : Type 0} {E : X → X → Bool} → IsEquivalence E → Tells E → (a b : X) → Decides (E a b) (a ≡ b)
decides {E} laws tells a b = (tells a b, λ e. subst (λ x. E a x ≡ true) e (laws.refl a))

pub step_decides : (a b : Step) → Decides ((step.ghosts).eq a b) (a ≡ b)
step_decides = decides step_laws step_tells

pub reply_decides : (a b : Reply) → Decides ((reply.ghosts).eq a b) (a ≡ b)
reply_decides = decides reply_laws reply_tells
