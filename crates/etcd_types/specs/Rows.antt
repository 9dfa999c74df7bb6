-- Rows by the lengths of their keys and values, and answers whose rows are read where they lie.
use Rattle.std.specs.Prelude.{List, length, map}
use Rattle.etcd_types.specs.declared.key_value.KeyValue.{KeyValue}
use Rattle.etcd_types.specs.declared.reply.OpReply.{OpReply}
use Rattle.etcd_types.specs.declared.reply.OpReply.TheVariants.{Range as RangeOf}
use Rattle.etcd_types.specs.declared.reply.Reply.{Reply}
use Rattle.etcd_types.specs.declared.reply.Reply.TheVariants.{Range, Txn}
use Rattle.etcd_types.specs.declared.rows.RangeInPlace.{RangeInPlace}
use Rattle.etcd_types.specs.declared.rows.ReplyInPlace.{ReplyInPlace}
use Rattle.etcd_types.specs.declared.rows.ReplyInPlace.TheVariants as in_place
use Rattle.etcd_types.specs.declared.rows.RowShape.{RowShape}

-- the shape of a row
abbrev pub shape_of : KeyValue → RowShape
shape_of row = record {
  key = length row.key;
  create_revision = row.create_revision;
  mod_revision = row.mod_revision;
  version = row.version;
  value = length row.value;
  lease = row.lease;
}

-- a range's answer within that of a transaction, by the rows that are read
abbrev pub op_reply_of : {S : Type 0} → (S → List KeyValue) → RangeInPlace S → OpReply
op_reply_of rows range = RangeOf range.revision range.count (rows range.rows) range.more

-- the reply that an answer stands for
abbrev pub reply_of : {S : Type 0} → (S → List KeyValue) → ReplyInPlace S → Reply
reply_of rows (in_place.Range header range) = Range header range.count (rows range.rows) range.more
reply_of rows (in_place.Txn header succeeded responses) =
    Txn header succeeded (map (op_reply_of rows) responses)
