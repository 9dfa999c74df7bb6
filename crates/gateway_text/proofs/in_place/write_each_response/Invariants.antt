use Rattle.std.proofs.Common.{◌≡◌, ◌++◌, drop, false, map}
use Rattle.serde_json.specs.Written.{items_text}
use Rattle.etcd_types.specs.Rows.{op_reply_of}
use Rattle.etcd_model.specs.ReplyText.{items_of, response_data}
use Rattle.gateway_text.proofs.in_place.write_each_response.Given as goal

-- what is written and the text of the answers to come are the whole text
abbrev pub invariant-loop-response : goal.invariant-loop-response
invariant-loop-response g l = l.out.items ++ items_text l.later (items_of response_data (map (op_reply_of g.S.RowsInPlace.rows) (drop l.response-index l.responses))) ≡ l.initial.out.items ++ items_text false (items_of response_data (map (op_reply_of g.S.RowsInPlace.rows) l.responses))
