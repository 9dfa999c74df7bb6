-- How much room the text of a reply is given: what its rows need, and beside them the longest numbers and all members that
-- there can be.
use Rattle.std.specs.Prelude.{ℕ, zero, suc, ℤ, ◌+◌, ◌==◌, if◌then◌else◌, List, length, sum_by, Option, Some, None, true, decimal, unsigned_abs}
use Rattle.base64.specs.Rfc4648.{encoded_size}
use Rattle.etcd_types.specs.declared.key_value.KeyValue.{KeyValue}
use Rattle.etcd_types.specs.declared.key_value.Event.{Event}
use Rattle.etcd_types.specs.declared.rows.RowShape.{RowShape}
use Rattle.etcd_types.specs.Rows.{shape_of}
use Rattle.etcd_types.specs.declared.reply.OpReply.{OpReply}
use Rattle.etcd_types.specs.declared.reply.OpReply.TheVariants as op
use Rattle.etcd_types.specs.declared.reply.Reply.{Reply}
use Rattle.etcd_types.specs.declared.reply.Reply.TheVariants as reply
use Rattle.gateway_text.specs.declared.size.TheConstants.{REPLY, RESPONSE, EVENT, ROW_NAMES, ROW_LEASE, ROW_VALUE}
use Rattle.gateway_text.specs.declared.size.TheConstants.{LEASE, QUOTES}

-- bytes in base64
abbrev pub bytes_room : List ℕ → ℕ
bytes_room bytes = encoded_size (length bytes) true

-- a key of a list
abbrev pub key_room : List ℕ → ℕ
key_room key = QUOTES + bytes_room key

-- a lease of a list
abbrev pub lease_room : ℤ → ℕ
lease_room id = LEASE

-- how many digits a number has, none where it is 0
abbrev pub digits : ℕ → ℕ
digits zero = 0
digits (suc n) = length (decimal (suc n))

-- a member of so many bytes, which is left out where it has none
abbrev pub member_room : ℕ → ℕ → ℕ
member_room name bytes = if bytes == 0 then 0 else name + bytes

-- the numbers of a row, with all of its names but those of its lease and its value
abbrev pub numbers_room : RowShape → ℕ
numbers_room s = ROW_NAMES + digits s.create_revision + digits s.mod_revision + digits s.version
    + member_room ROW_LEASE (digits (unsigned_abs s.lease))

-- a row, by its shape, and a row
abbrev pub shape_room : RowShape → ℕ
shape_room s = numbers_room s + encoded_size s.key true + member_room ROW_VALUE (encoded_size s.value true)

abbrev pub row_room : KeyValue → ℕ
row_room row = shape_room (shape_of row)

-- a row that may be there
abbrev pub some_room : Option KeyValue → ℕ
some_room (Some row) = row_room row
some_room None = 0

-- an event with its rows
abbrev pub event_room : Event → ℕ
event_room event = EVENT + row_room event.kv + some_room event.prev_kv

-- the rows that an operation is answered, and its response with them
abbrev pub op_rows_room : OpReply → ℕ
op_rows_room (op.Range revision count kvs more) = sum_by row_room kvs
op_rows_room (op.Put revision prev_kv) = some_room prev_kv
op_rows_room (op.Delete revision deleted prev_kvs) = sum_by row_room prev_kvs

abbrev pub op_room : OpReply → ℕ
op_room r = RESPONSE + op_rows_room r

-- the lists of a reply
abbrev pub lists_room : Reply → ℕ
lists_room (reply.Range header count kvs more) = sum_by row_room kvs
lists_room (reply.Put header prev_kv) = some_room prev_kv
lists_room (reply.Delete header deleted prev_kvs) = sum_by row_room prev_kvs
lists_room (reply.Txn header succeeded responses) = sum_by op_room responses
lists_room (reply.Events header watch_id events) = sum_by event_room events
lists_room (reply.TimeToLive header id ttl granted_ttl keys) = sum_by key_room keys
lists_room (reply.Leases header ids) = sum_by lease_room ids
lists_room r = 0

-- the whole body, which a reply that says nothing has not
abbrev pub body_room : Reply → ℕ
body_room reply.Quiet = 0
body_room r = REPLY + lists_room r
