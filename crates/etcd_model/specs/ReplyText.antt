-- The status of an answer, and its text: the compact text of a JSON object, with the members in byte order of
-- their names.
-- etcd: the JSON gateway's answers.
use Rattle.std.specs.Prelude.{ℕ, ◌==◌, ℤ, pos, List, [], ◌∷◌, ◌++◌, length, Bool, true, false, not, decimal}
use Rattle.std.specs.Prelude.{codes, Option, Some, None}
use Rattle.std.specs.Fmt.{signed_decimal}
use Rattle.std.specs.Ordering.{int_eq}
use Rattle.base64.specs.Engines.{standard}
use Rattle.base64.specs.GeneralPurpose.{encode_of}
use Rattle.serde_json.specs.Data.{Data, unsigned, boolean, number, string, array, object, Items, no_items}
use Rattle.serde_json.specs.Data.{item, Members, no_members, member}
use Rattle.serde_json.specs.Written.{compact_text}
use Rattle.etcd_types.specs.Refusals.{refusal_code, refusal_status, refusal_text}
use Rattle.etcd_types.specs.declared.refusal.Refusal.{Refusal}
use Rattle.etcd_types.specs.declared.refusal.Refusal.TheVariants.{Memory}
use Rattle.etcd_types.specs.declared.key_value.KeyValue.{KeyValue}
use Rattle.etcd_types.specs.declared.key_value.Event.{Event}
use Rattle.etcd_types.specs.declared.key_value.EventKind.{EventKind}
use Rattle.etcd_types.specs.declared.key_value.EventKind.TheVariants as event
use Rattle.etcd_types.specs.declared.reply.Header.{Header}
use Rattle.etcd_types.specs.declared.reply.OpReply.{OpReply}
use Rattle.etcd_types.specs.declared.reply.OpReply.TheVariants as response
use Rattle.etcd_types.specs.declared.reply.Reply.{Reply}
use Rattle.etcd_types.specs.declared.reply.Reply.TheVariants as reply

-- ---- members, left out where they are zero, false or empty

-- the members, with one more before them unless it is zero
abbrev pub member_unless : Bool → List ℕ → Data → Members → Members
member_unless true name d rest = rest
member_unless false name d rest = member name d rest

-- a 64-bit number is a string of its decimal digits
abbrev pub signed_member : List ℕ → ℤ → Members → Members
signed_member name n rest = member_unless (int_eq n (pos 0)) name (string (signed_decimal n)) rest

abbrev pub unsigned_member : List ℕ → ℕ → Members → Members
unsigned_member name n rest = member_unless (n == 0) name (string (decimal n)) rest

-- bytes are base64 of the standard alphabet with padding
abbrev pub bytes_data : List ℕ → Data
bytes_data b = string (encode_of standard b)

abbrev pub bytes_member : List ℕ → List ℕ → Members → Members
bytes_member name b rest = member_unless (length b == 0) name (bytes_data b) rest

abbrev pub flag_member : List ℕ → Bool → Members → Members
flag_member name b rest = member_unless (not b) name (boolean true) rest

abbrev pub items_of : {T : Type 0} → (T → Data) → List T → Items
items_of data_of [] = no_items
items_of data_of (x ∷ xs) = item (data_of x) (items_of data_of xs)

abbrev pub list_member : {T : Type 0} → (T → Data) → List ℕ → List T → Members → Members
list_member data_of name xs rest = member_unless (length xs == 0) name (array (items_of data_of xs)) rest

-- ---- parts of answers

unfoldable pub header_data : Header → Data
header_data h = object
    (unsigned_member (codes "cluster_id") h.cluster
    (member (codes "member_id") (string (codes "1"))
    (member (codes "raft_term") (string (codes "1"))
    (signed_member (codes "revision") h.revision no_members))))

-- a header that is not the outer one has its revision alone
unfoldable pub inner_header_data : ℤ → Data
inner_header_data revision = object (signed_member (codes "revision") revision no_members)

abbrev pub header_member : Header → Members → Members
header_member h rest = member (codes "header") (header_data h) rest

unfoldable pub key_value_data : KeyValue → Data
key_value_data kv = object
    (unsigned_member (codes "create_revision") kv.create_revision
    (bytes_member (codes "key") kv.key
    (signed_member (codes "lease") kv.lease
    (unsigned_member (codes "mod_revision") kv.mod_revision
    (bytes_member (codes "value") kv.value
    (unsigned_member (codes "version") kv.version no_members))))))

abbrev pub row_member : List ℕ → Option KeyValue → Members → Members
row_member name None rest = rest
row_member name (Some kv) rest = member name (key_value_data kv) rest

-- a put is the first of its enum, and so it is left out
abbrev pub kind_member : EventKind → Members → Members
kind_member event.Put rest = rest
kind_member event.Delete rest = member (codes "type") (string (codes "DELETE")) rest

unfoldable pub event_data : Event → Data
event_data e = object
    (member (codes "kv") (key_value_data e.kv)
    (row_member (codes "prev_kv") e.prev_kv
    (kind_member e.kind no_members)))

unfoldable pub lease_data : ℤ → Data
lease_data id = object (signed_member (codes "ID") id no_members)

-- ---- the answers of a transaction's operations

abbrev pub range_members : Data → ℕ → List KeyValue → Bool → Members
range_members header count kvs more =
    unsigned_member (codes "count") count
    (member (codes "header") header
    (list_member key_value_data (codes "kvs") kvs
    (flag_member (codes "more") more no_members)))

abbrev pub put_members : Data → Option KeyValue → Members
put_members header prev_kv = member (codes "header") header (row_member (codes "prev_kv") prev_kv no_members)

abbrev pub delete_members : Data → ℕ → List KeyValue → Members
delete_members header deleted prev_kvs =
    unsigned_member (codes "deleted") deleted
    (member (codes "header") header
    (list_member key_value_data (codes "prev_kvs") prev_kvs no_members))

unfoldable pub response_data : OpReply → Data
response_data (response.Range revision count kvs more) =
    let members = range_members (inner_header_data revision) count kvs more in
    object (member (codes "response_range") (object members) no_members)
response_data (response.Put revision prev_kv) =
    let members = put_members (inner_header_data revision) prev_kv in
    object (member (codes "response_put") (object members) no_members)
response_data (response.Delete revision deleted prev_kvs) =
    let members = delete_members (inner_header_data revision) deleted prev_kvs in
    object (member (codes "response_delete_range") (object members) no_members)

-- ---- refusals

unfoldable pub refusal_data : Refusal → Data
refusal_data r = object
    (member (codes "code") (number (unsigned (refusal_code r)))
    (member (codes "error") (string (refusal_text r))
    (member (codes "message") (string (refusal_text r)) no_members)))

-- ---- answers

-- the one alarm that there is
unfoldable pub alarm_data : Data
alarm_data = object
    (member (codes "alarm") (string (codes "NOSPACE"))
    (member (codes "memberID") (string (codes "1")) no_members))

abbrev pub alarm_list : Bool → List Data
alarm_list true = alarm_data ∷ []
alarm_list false = []

-- the answers of a watch and of a keepalive lie in a `result`
abbrev pub result_data : Members → Data
result_data ms = object (member (codes "result") (object ms) no_members)

unfoldable pub range_data : Header → ℕ → List KeyValue → Bool → Data
range_data h count kvs more = object (range_members (header_data h) count kvs more)

unfoldable pub put_data : Header → Option KeyValue → Data
put_data h prev_kv = object (put_members (header_data h) prev_kv)

unfoldable pub delete_data : Header → ℕ → List KeyValue → Data
delete_data h deleted prev_kvs = object (delete_members (header_data h) deleted prev_kvs)

unfoldable pub txn_data : Header → Bool → List OpReply → Data
txn_data h succeeded responses = object
    (header_member h
    (list_member response_data (codes "responses") responses
    (flag_member (codes "succeeded") succeeded no_members)))

-- the answer of a compaction, a revoke and a defragmentation
unfoldable pub bare_data : Header → Data
bare_data h = object (header_member h no_members)

unfoldable pub created_data : Header → ℤ → Data
created_data h watch_id = result_data
    (member (codes "created") (boolean true)
    (header_member h
    (signed_member (codes "watch_id") watch_id no_members)))

unfoldable pub events_data : Header → ℤ → List Event → Data
events_data h watch_id events = result_data
    (list_member event_data (codes "events") events
    (header_member h
    (signed_member (codes "watch_id") watch_id no_members)))

unfoldable pub canceled_data : Header → ℤ → ℤ → Data
canceled_data h watch_id compact_revision = result_data
    (member (codes "canceled") (boolean true)
    (signed_member (codes "compact_revision") compact_revision
    (header_member h
    (signed_member (codes "watch_id") watch_id no_members))))

abbrev pub lease_members : Header → ℤ → ℤ → Members
lease_members h id ttl =
    signed_member (codes "ID") id (signed_member (codes "TTL") ttl (header_member h no_members))

unfoldable pub granted_data : Header → ℤ → ℤ → Data
granted_data h id ttl = object (lease_members h id ttl)

unfoldable pub kept_alive_data : Header → ℤ → ℤ → Data
kept_alive_data h id ttl = result_data (lease_members h id ttl)

unfoldable pub time_to_live_data : Header → ℤ → ℤ → ℤ → List (List ℕ) → Data
time_to_live_data h id ttl granted_ttl keys = object
    (signed_member (codes "ID") id
    (signed_member (codes "TTL") ttl
    (signed_member (codes "grantedTTL") granted_ttl
    (header_member h
    (list_member bytes_data (codes "keys") keys no_members)))))

unfoldable pub leases_data : Header → List ℤ → Data
leases_data h ids = object (header_member h (list_member lease_data (codes "leases") ids no_members))

unfoldable pub alarms_data : Header → Bool → Data
alarms_data h no_space =
    object (list_member (λ d. d) (codes "alarms") (alarm_list no_space) (header_member h no_members))

unfoldable pub status_data : Header → ℕ → ℕ → Data
status_data h size in_use = object
    (unsigned_member (codes "dbSize") size
    (unsigned_member (codes "dbSizeInUse") in_use
    (header_member h no_members)))

-- a status and a body
pub record Answer : Type 0 where
  pub status : ℕ
  pub body : List ℕ

abbrev pub reply_status : Reply → ℕ
reply_status reply.Quiet = 204
reply_status (reply.Refused r) = refusal_status r
reply_status r = 200

-- what each reply says; a quiet one says nothing
abbrev pub reply_data : Reply → Option Data
reply_data (reply.Range h count kvs more) = Some (range_data h count kvs more)
reply_data (reply.Put h prev_kv) = Some (put_data h prev_kv)
reply_data (reply.Delete h deleted prev_kvs) = Some (delete_data h deleted prev_kvs)
reply_data (reply.Txn h succeeded responses) = Some (txn_data h succeeded responses)
reply_data (reply.Compacted h) = Some (bare_data h)
reply_data (reply.Created h watch_id slot) = Some (created_data h watch_id)
reply_data (reply.Events h watch_id events) = Some (events_data h watch_id events)
reply_data (reply.Progress h watch_id) = Some (events_data h watch_id [])
reply_data (reply.Canceled h watch_id compact_revision) = Some (canceled_data h watch_id compact_revision)
reply_data (reply.Granted h id ttl) = Some (granted_data h id ttl)
reply_data (reply.Revoked h) = Some (bare_data h)
reply_data (reply.KeptAlive h id ttl) = Some (kept_alive_data h id ttl)
reply_data (reply.TimeToLive h id ttl granted_ttl keys) = Some (time_to_live_data h id ttl granted_ttl keys)
reply_data (reply.Leases h ids) = Some (leases_data h ids)
reply_data (reply.Alarms h no_space) = Some (alarms_data h no_space)
reply_data (reply.Status h size in_use) = Some (status_data h size in_use)
reply_data (reply.Defragmented h) = Some (bare_data h)
reply_data reply.Quiet = None
reply_data (reply.Refused r) = Some (refusal_data r)

-- the answers of a watch and of a keepalive, which lie in a `result`
abbrev pub is_stream_reply : Reply → Bool
is_stream_reply (reply.Created header watch_id slot) = true
is_stream_reply (reply.Events header watch_id events) = true
is_stream_reply (reply.Progress header watch_id) = true
is_stream_reply (reply.Canceled header watch_id compact_revision) = true
is_stream_reply (reply.KeptAlive header id ttl) = true
is_stream_reply r = false

-- one newline ends what may be followed by more
abbrev pub stream_text : Data → List ℕ
stream_text d = compact_text d ++ 10 ∷ []

-- the text of what is said
abbrev pub body_text : Bool → Option Data → List ℕ
body_text stream None = []
body_text false (Some d) = compact_text d
body_text true (Some d) = stream_text d

abbrev pub reply_body : Reply → List ℕ
reply_body r = body_text (is_stream_reply r) (reply_data r)

abbrev pub text : Reply → Answer
text r = record { status = reply_status r; body = reply_body r }

-- the answer for want of memory
abbrev pub memory_answer : Answer
memory_answer = text (reply.Refused Memory)
