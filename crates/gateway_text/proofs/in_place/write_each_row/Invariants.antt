use Rattle.std.proofs.Common.{◌≡◌, ◌++◌, drop, false}
use Rattle.serde_json.specs.Written.{items_text}
use Rattle.etcd_model.specs.ReplyText.{items_of, key_value_data}
use Rattle.gateway_text.proofs.in_place.write_each_row.Given as goal

-- what is written and the text of the rows to come are the whole text
abbrev pub invariant-loop-place : goal.invariant-loop-place
invariant-loop-place g l = l.out.items ++ items_text l.later (items_of key_value_data (drop l.place (g.S.RowsInPlace.rows l.rows))) ≡ l.initial.out.items ++ items_text false (items_of key_value_data (g.S.RowsInPlace.rows l.rows))
