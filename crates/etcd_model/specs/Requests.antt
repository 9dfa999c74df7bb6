-- What the members of each request ask for.
-- etcd: API reference, the messages of KV, Watch, Lease and Maintenance.
use Rattle.std.specs.Prelude.{ℕ, ℤ, List, Bool, true, false, ◌||◌, if◌then◌else◌, Option, Some, None, is_some}
use Rattle.std.specs.Prelude.{Result, Ok, Err}
use Rattle.std.specs.List.{list_any}
use Rattle.serde_json.specs.Data.{Data}
use Rattle.etcd_types.specs.declared.call.MemberName.TheVariants as name
use Rattle.etcd_types.specs.declared.refusal.Refusal.{Refusal}
use Rattle.etcd_types.specs.declared.refusal.Refusal.TheVariants.{NotOffered, BadBody}
use Rattle.etcd_types.specs.declared.kv.PutReq.{PutReq}
use Rattle.etcd_types.specs.declared.kv.RangeReq.{RangeReq}
use Rattle.etcd_types.specs.declared.kv.DeleteReq.{DeleteReq}
use Rattle.etcd_types.specs.declared.txn.TxnReq.{TxnReq}
use Rattle.etcd_types.specs.declared.txn.Compare.{Compare}
use Rattle.etcd_types.specs.declared.txn.CompareTarget.{CompareTarget}
use Rattle.etcd_types.specs.declared.txn.CompareTarget.TheVariants as compared
use Rattle.etcd_types.specs.declared.txn.Operand.{Operand}
use Rattle.etcd_types.specs.declared.txn.Operand.TheVariants as operand
use Rattle.etcd_types.specs.declared.txn.Op.{Op}
use Rattle.etcd_types.specs.declared.txn.Op.TheVariants as op
use Rattle.etcd_types.specs.declared.watch.WatchReq.{WatchReq}
use Rattle.etcd_types.specs.declared.key_value.EventKind.{EventKind}
use Rattle.etcd_types.specs.declared.key_value.EventKind.TheVariants as kind
use Rattle.etcd_types.specs.declared.lease.GrantReq.{GrantReq}
use Rattle.etcd_types.specs.declared.alarm.AlarmReq.{AlarmReq}
use Rattle.etcd_types.specs.declared.step.Step.{Step}
use Rattle.etcd_types.specs.declared.step.Step.TheVariants as step
use Rattle.etcd_model.specs.Members.{and_then, as_object, member_of, choice_in, filters, or_bad, read_action}
use Rattle.etcd_model.specs.Members.{read_alarm, read_bytes, read_compare_target, read_flag, read_list}
use Rattle.etcd_model.specs.Members.{read_order, read_result, read_signed, read_sort_target, read_unsigned}

-- ---- keys

unfoldable pub read_put : Data → Result PutReq Refusal
read_put d =
    and_then (read_bytes (member_of name.Key d)) (λ key.
    and_then (read_bytes (member_of name.Value d)) (λ value.
    and_then (read_signed (member_of name.Lease d)) (λ lease.
    and_then (read_flag (member_of name.PrevKv d)) (λ prev_kv.
    and_then (read_flag (member_of name.IgnoreValue d)) (λ ignore_value.
    and_then (read_flag (member_of name.IgnoreLease d)) (λ ignore_lease.
    Ok (record {
      key = key;
      value = value;
      lease = lease;
      prev_kv = prev_kv;
      ignore_value = ignore_value;
      ignore_lease = ignore_lease;
    })))))))

unfoldable pub read_range : Data → Result RangeReq Refusal
read_range d =
    and_then (read_bytes (member_of name.Key d)) (λ key.
    and_then (read_bytes (member_of name.RangeEnd d)) (λ range_end.
    and_then (read_signed (member_of name.Limit d)) (λ limit.
    and_then (read_signed (member_of name.Revision d)) (λ revision.
    and_then (read_order (member_of name.SortOrder d)) (λ sort_order.
    and_then (read_sort_target (member_of name.SortTarget d)) (λ sort_target.
    and_then (read_flag (member_of name.Serializable d)) (λ serializable.
    and_then (read_flag (member_of name.KeysOnly d)) (λ keys_only.
    and_then (read_flag (member_of name.CountOnly d)) (λ count_only.
    and_then (read_signed (member_of name.MinModRevision d)) (λ min_mod_revision.
    and_then (read_signed (member_of name.MaxModRevision d)) (λ max_mod_revision.
    and_then (read_signed (member_of name.MinCreateRevision d)) (λ min_create_revision.
    and_then (read_signed (member_of name.MaxCreateRevision d)) (λ max_create_revision.
    Ok (record {
      key = key;
      range_end = range_end;
      limit = limit;
      revision = revision;
      sort_order = sort_order;
      sort_target = sort_target;
      serializable = serializable;
      keys_only = keys_only;
      count_only = count_only;
      min_mod_revision = min_mod_revision;
      max_mod_revision = max_mod_revision;
      min_create_revision = min_create_revision;
      max_create_revision = max_create_revision;
    }))))))))))))))

unfoldable pub read_delete : Data → Result DeleteReq Refusal
read_delete d =
    and_then (read_bytes (member_of name.Key d)) (λ key.
    and_then (read_bytes (member_of name.RangeEnd d)) (λ range_end.
    and_then (read_flag (member_of name.PrevKv d)) (λ prev_kv.
    Ok (record { key = key; range_end = range_end; prev_kv = prev_kv }))))

unfoldable pub read_compaction : Data → Result Step Refusal
read_compaction d =
    and_then (read_signed (member_of name.Revision d)) (λ revision. Ok (step.Compact revision))

-- ---- transactions

-- the operand that the target names counts
abbrev pub operand_of : CompareTarget → ℤ → ℤ → ℤ → List ℕ → ℤ → Operand
operand_of compared.Version version create_revision mod_revision value lease = operand.Version version
operand_of compared.Create version create_revision mod_revision value lease = operand.Create create_revision
operand_of compared.Mod version create_revision mod_revision value lease = operand.Mod mod_revision
operand_of compared.Value version create_revision mod_revision value lease = operand.Value value
operand_of compared.Lease version create_revision mod_revision value lease = operand.Lease lease

-- every operand is read, so that a fault in any of them is told
unfoldable pub read_compare : Data → Result Compare Refusal
read_compare d =
    and_then (read_bytes (member_of name.Key d)) (λ key.
    and_then (read_bytes (member_of name.RangeEnd d)) (λ range_end.
    and_then (read_result (member_of name.Result d)) (λ result.
    and_then (read_compare_target (member_of name.Target d)) (λ target.
    and_then (read_signed (member_of name.Version d)) (λ version.
    and_then (read_signed (member_of name.CreateRevision d)) (λ create_revision.
    and_then (read_signed (member_of name.ModRevision d)) (λ mod_revision.
    and_then (read_bytes (member_of name.Value d)) (λ value.
    and_then (read_signed (member_of name.Lease d)) (λ lease.
    Ok (record {
      key = key;
      range_end = range_end;
      result = result;
      operand = operand_of target version create_revision mod_revision value lease;
    }))))))))))

-- exactly one of its four members; what a nested transaction holds is not looked at
abbrev pub op_of : Option Data → Option Data → Option Data → Option Data → Result Op Refusal
op_of (Some d) None None None = and_then (and_then (as_object d) read_range) (λ q. Ok (op.Range q))
op_of None (Some d) None None = and_then (and_then (as_object d) read_put) (λ p. Ok (op.Put p))
op_of None None (Some d) None = and_then (and_then (as_object d) read_delete) (λ q. Ok (op.Delete q))
op_of None None None (Some d) = Ok op.Nested
op_of range put delete nested = Err BadBody

unfoldable pub read_op : Data → Result Op Refusal
read_op d = op_of
    (member_of name.RequestRange d) (member_of name.RequestPut d)
    (member_of name.RequestDeleteRange d) (member_of name.RequestTxn d)

-- an element of a list of compares or operations is an object
abbrev pub compare_in : Data → Result Compare Refusal
compare_in d = and_then (as_object d) read_compare

abbrev pub op_in : Data → Result Op Refusal
op_in d = and_then (as_object d) read_op

unfoldable pub read_txn : Data → Result TxnReq Refusal
read_txn d =
    and_then (read_list compare_in (member_of name.Compare d)) (λ compare.
    and_then (read_list op_in (member_of name.Success d)) (λ success.
    and_then (read_list op_in (member_of name.Failure d)) (λ failure.
    Ok (record { compare = compare; success = success; failure = failure }))))

-- ---- watches

abbrev pub leaves_puts : EventKind → Bool
leaves_puts kind.Put = true
leaves_puts kind.Delete = false

abbrev pub leaves_deletes : EventKind → Bool
leaves_deletes kind.Put = false
leaves_deletes kind.Delete = true

abbrev pub filter_in : Data → Result EventKind Refusal
filter_in d = or_bad (choice_in filters d)

unfoldable pub read_create : Data → Result WatchReq Refusal
read_create d =
    and_then (read_bytes (member_of name.Key d)) (λ key.
    and_then (read_bytes (member_of name.RangeEnd d)) (λ range_end.
    and_then (read_signed (member_of name.StartRevision d)) (λ start_revision.
    and_then (read_list filter_in (member_of name.Filters d)) (λ left_out.
    and_then (read_flag (member_of name.PrevKv d)) (λ prev_kv.
    and_then (read_signed (member_of name.WatchId d)) (λ watch_id.
    and_then (read_flag (member_of name.ProgressNotify d)) (λ progress_notify.
    Ok (record {
      key = key;
      range_end = range_end;
      start_revision = start_revision;
      filters = record { no_put = list_any leaves_puts left_out; no_delete = list_any leaves_deletes left_out };
      prev_kv = prev_kv;
      watch_id = watch_id;
      progress_notify = progress_notify;
    }))))))))

-- a create, else what a client does by closing its connection
abbrev pub watch_asked : Option Data → Option Data → Option Data → Result WatchReq Refusal
watch_asked (Some d) cancel progress = and_then (as_object d) read_create
watch_asked None cancel progress = if is_some cancel || is_some progress then Err NotOffered else Err BadBody

unfoldable pub read_watch : Data → Result WatchReq Refusal
read_watch d = watch_asked
    (member_of name.CreateRequest d) (member_of name.CancelRequest d) (member_of name.ProgressRequest d)

-- ---- leases

unfoldable pub read_grant : Data → Result GrantReq Refusal
read_grant d =
    and_then (read_signed (member_of name.Ttl d)) (λ ttl.
    and_then (read_signed (member_of name.Id d)) (λ id.
    Ok (record { ttl = ttl; id = id })))

unfoldable pub read_id : Data → Result ℤ Refusal
read_id d = read_signed (member_of name.Id d)

unfoldable pub read_time_to_live : Data → Result Step Refusal
read_time_to_live d =
    and_then (read_signed (member_of name.Id d)) (λ id.
    and_then (read_flag (member_of name.Keys d)) (λ keys.
    Ok (step.TimeToLive id keys)))

-- ---- maintenance

unfoldable pub read_alarm_request : Data → Result AlarmReq Refusal
read_alarm_request d =
    and_then (read_action (member_of name.Action d)) (λ action.
    and_then (read_unsigned (member_of name.MemberId d)) (λ member.
    and_then (read_alarm (member_of name.Alarm d)) (λ alarm.
    Ok (record { action = action; member = member; alarm = alarm }))))
