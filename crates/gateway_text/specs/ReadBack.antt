-- What a reader of JSON makes of a reply's body.
use Rattle.std.specs.Prelude.{◌≡◌, Some, IfSome}
use Rattle.std.specs.Str.{IsUtf8}
use Rattle.serde_json.specs.Read.{read}
use Rattle.serde_json.specs.Written.{compact_text}
use Rattle.etcd_types.specs.declared.reply.Reply.{Reply}
use Rattle.etcd_model.specs.ReplyText.{reply_body, reply_data}

-- The body is UTF-8. It is one JSON value, with the newline that may end it, and the reader gives
-- the data that it was written from; where nothing is said it reads no value. The text before the
-- newline is read so too.
pub record ReadsBack (r : Reply) : Type 0 where
  pub utf8 : IsUtf8 (reply_body r)
  pub whole : read (reply_body r) ≡ reply_data r
  pub before_newline : IfSome (reply_data r) (λ d. read (compact_text d) ≡ Some d)

abbrev pub AnswersReadBack : Type 0
AnswersReadBack = (r : Reply) → ReadsBack r
