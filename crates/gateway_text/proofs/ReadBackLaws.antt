-- Every reply is read back.
use Rattle.std.proofs.Common.{◌≡◌, [], Some, refl, sym, ap, ◌∙◌, subst}
use Rattle.std.specs.Prelude.{IfSome}
use Rattle.std.specs.Str.{IsUtf8}
use Rattle.std.proofs.lemmas.Str.{IsUtf8-nil}
use Rattle.json.specs.Json.{value}
use Rattle.json.specs.Lex.{lex, punctuate}
use Rattle.serde_json.specs.Data.{Data}
use Rattle.serde_json.specs.Read.{max_depth, read}
use Rattle.serde_json.specs.Written.{compact_text}
use Rattle.etcd_types.specs.declared.reply.Reply.{Reply}
use Rattle.etcd_types.specs.declared.reply.Reply.TheVariants as reply
use Rattle.etcd_model.specs.ReplyText.{range_data, put_data, delete_data, txn_data, bare_data, created_data, events_data, canceled_data, granted_data, kept_alive_data, time_to_live_data, leases_data, alarms_data, status_data, refusal_data, reply_body, reply_data, stream_text}
use Rattle.gateway_text.specs.ReadBack.{ReadsBack}
use Rattle.gateway_text.proofs.AnswerShapes.{range_answer_fits, put_answer_fits, delete_answer_fits, txn_answer_fits, bare_fits, created_fits, events_fits, canceled_fits, granted_fits, kept_alive_fits, time_to_live_fits, leases_fits, alarms_fits, status_fits, refusal_fits}
use Rattle.gateway_text.proofs.ReadBackLemmas.{read_text, read_line, utf8_line}
use Rattle.gateway_text.proofs.ShapeLemmas.{Fits, utf8_text}

module _ (r : Reply) (d : Data) (written_from : reply_data r ≡ Some d) (fits : Fits d max_depth) where
  read_before_newline : IfSome (reply_data r) (λ x. read (compact_text x) ≡ Some x)
  read_before_newline = subst (λ o. IfSome o (λ x. read (compact_text x) ≡ Some x)) (sym written_from) (read_text d fits)

  text : reply_body r ≡ compact_text d → ReadsBack r
  text body = record {
    utf8 = subst IsUtf8 (sym body) (utf8_text d max_depth fits);
    whole = ap read body ∙ read_text d fits ∙ sym written_from;
    before_newline = read_before_newline;
  }

  line : reply_body r ≡ stream_text d → ReadsBack r
  line body = record {
    utf8 = subst IsUtf8 (sym body) (utf8_line d fits);
    whole = ap read body ∙ read_line d fits ∙ sym written_from;
    before_newline = read_before_newline;
  }

quiet : ReadsBack reply.Quiet
unfolding lex punctuate value
quiet = record { utf8 = IsUtf8-nil; whole = refl; before_newline = tt }

pub reads_back : (r : Reply) → ReadsBack r
reads_back (reply.Range h count kvs more) = text (reply.Range h count kvs more) (range_data h count kvs more) refl (range_answer_fits h count kvs more 124) refl
reads_back (reply.Put h prev_kv) = text (reply.Put h prev_kv) (put_data h prev_kv) refl (put_answer_fits h prev_kv 124) refl
reads_back (reply.Delete h deleted prev_kvs) = text (reply.Delete h deleted prev_kvs) (delete_data h deleted prev_kvs) refl (delete_answer_fits h deleted prev_kvs 124) refl
reads_back (reply.Txn h succeeded responses) = text (reply.Txn h succeeded responses) (txn_data h succeeded responses) refl (txn_answer_fits h succeeded responses 121) refl
reads_back (reply.Compacted h) = text (reply.Compacted h) (bare_data h) refl (bare_fits h 125) refl
reads_back (reply.Created h watch_id slot) = line (reply.Created h watch_id slot) (created_data h watch_id) refl (created_fits h watch_id 124) refl
reads_back (reply.Events h watch_id events) = line (reply.Events h watch_id events) (events_data h watch_id events) refl (events_fits h watch_id events 122) refl
reads_back (reply.Progress h watch_id) = line (reply.Progress h watch_id) (events_data h watch_id []) refl (events_fits h watch_id [] 122) refl
reads_back (reply.Canceled h watch_id compact_revision) = line (reply.Canceled h watch_id compact_revision) (canceled_data h watch_id compact_revision) refl (canceled_fits h watch_id compact_revision 124) refl
reads_back (reply.Granted h id ttl) = text (reply.Granted h id ttl) (granted_data h id ttl) refl (granted_fits h id ttl 125) refl
reads_back (reply.Revoked h) = text (reply.Revoked h) (bare_data h) refl (bare_fits h 125) refl
reads_back (reply.KeptAlive h id ttl) = line (reply.KeptAlive h id ttl) (kept_alive_data h id ttl) refl (kept_alive_fits h id ttl 124) refl
reads_back (reply.TimeToLive h id ttl granted_ttl keys) = text (reply.TimeToLive h id ttl granted_ttl keys) (time_to_live_data h id ttl granted_ttl keys) refl (time_to_live_fits h id ttl granted_ttl keys 125) refl
reads_back (reply.Leases h ids) = text (reply.Leases h ids) (leases_data h ids) refl (leases_fits h ids 124) refl
reads_back (reply.Alarms h no_space) = text (reply.Alarms h no_space) (alarms_data h no_space) refl (alarms_fits h no_space 124) refl
reads_back (reply.Status h size in_use) = text (reply.Status h size in_use) (status_data h size in_use) refl (status_fits h size in_use 125) refl
reads_back (reply.Defragmented h) = text (reply.Defragmented h) (bare_data h) refl (bare_fits h 125) refl
reads_back reply.Quiet = quiet
reads_back (reply.Refused r) = text (reply.Refused r) (refusal_data r) refl (refusal_fits r 126) refl
