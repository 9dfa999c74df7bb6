-- What a theorem unfolds so that reading a call, the machine and writing its answer compute on literal bytes.
use Rattle.std.specs.Prelude.{⊤}
use Rattle.std.specs.Str.{is_utf8, chars}
use Rattle.std.specs.Fmt.{digits}
use lib.Utf8.{encode}
use Rattle.serde_json.proofs.OnLiterals.{serde_json_on_literals}
use Rattle.base64.proofs.OnLiterals.{base64_on_literals}
use Rattle.etcd_model.specs.Calls.{call_of, target_of, read_body, read_members, read_step, read_call}
use Rattle.etcd_model.specs.Members.{member_of, read_bytes, signed_text, unsigned_text, read_signed}
use Rattle.etcd_model.specs.Members.{read_unsigned, read_flag, choice_in, read_choice, read_list}
use Rattle.etcd_model.specs.ReplyText.{header_data, inner_header_data, key_value_data, event_data, lease_data}
use Rattle.etcd_model.specs.ReplyText.{response_data, refusal_data, alarm_data, range_data, put_data}
use Rattle.etcd_model.specs.ReplyText.{delete_data, txn_data, bare_data, created_data, events_data}
use Rattle.etcd_model.specs.ReplyText.{canceled_data, granted_data, kept_alive_data, time_to_live_data}
use Rattle.etcd_model.specs.ReplyText.{leases_data, alarms_data, status_data}
use Rattle.etcd_model.specs.Requests.{read_put, read_range, read_delete, read_compaction, read_compare, read_op}
use Rattle.etcd_model.specs.Requests.{read_txn, read_create, read_watch, read_grant, read_id}
use Rattle.etcd_model.specs.Requests.{read_time_to_live, read_alarm_request}
use Rattle.etcd_model.specs.Spelling.{spelled_bytes}

unfoldable pub texts_on_literals : ⊤
unfolding serde_json_on_literals base64_on_literals is_utf8 chars encode digits spelled_bytes
texts_on_literals = tt

unfoldable pub members_on_literals : ⊤
unfolding member_of read_bytes signed_text unsigned_text read_signed read_unsigned read_flag choice_in read_choice read_list
members_on_literals = tt

unfoldable pub calls_on_literals : ⊤
unfolding call_of target_of read_body read_members read_step read_call read_put read_range read_delete
    read_compaction read_compare read_op read_txn read_create read_watch read_grant read_id read_time_to_live
    read_alarm_request
calls_on_literals = tt

unfoldable pub replies_on_literals : ⊤
unfolding header_data inner_header_data key_value_data event_data lease_data response_data refusal_data
    alarm_data range_data put_data delete_data txn_data bare_data created_data events_data canceled_data
    granted_data kept_alive_data time_to_live_data leases_data alarms_data status_data
replies_on_literals = tt

unfoldable pub model_on_literals : ⊤
unfolding texts_on_literals members_on_literals calls_on_literals replies_on_literals
model_on_literals = tt
