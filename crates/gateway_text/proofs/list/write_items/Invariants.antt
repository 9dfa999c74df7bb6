use Rattle.std.proofs.Common.{◌≡◌, ◌++◌, drop, false}
use Rattle.serde_json.specs.Written.{items_text}
use Rattle.etcd_model.specs.ReplyText.{items_of}
use Rattle.gateway_text.proofs.list.write_items.Given as goal

-- what is written and the text of the items to come are the whole text
abbrev pub invariant-loop-item : goal.invariant-loop-item
invariant-loop-item g l = l.out.items ++ items_text l.later (items_of g.T.WriteItem.data_of (drop l.item-index l.items)) ≡ l.initial.out.items ++ items_text false (items_of g.T.WriteItem.data_of l.items)
