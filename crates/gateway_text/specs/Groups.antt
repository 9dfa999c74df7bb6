-- A group of replies.
use Rattle.std.specs.Prelude.{Bool, true, false}
use Rattle.etcd_types.specs.declared.reply.Reply.{Reply}
use Rattle.etcd_types.specs.declared.reply.Reply.TheVariants as reply

-- the answers to reads and writes of keys
abbrev pub is_key_reply : Reply → Bool
is_key_reply (reply.Range header count kvs more) = true
is_key_reply (reply.Put header prev_kv) = true
is_key_reply (reply.Delete header deleted prev_kvs) = true
is_key_reply (reply.Txn header succeeded responses) = true
is_key_reply r = false
