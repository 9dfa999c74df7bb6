use Rattle.std.proofs.Common.{◌≡◌, drop}
use Rattle.serde_json.specs.View.{items_view}
use Rattle.etcd_model.specs.Members.{read_elements}
use Rattle.gateway_json.proofs.ListLemmas.{IsAtFirst, after_read}
use Rattle.gateway_json.proofs.list.read_elements.Given as goal

abbrev pub invariant-loop-value : goal.invariant-loop-value
invariant-loop-value g l =
    (read_elements g.T.FromElement.reads_element (items_view l.values) ≡ after_read l.items (read_elements g.T.FromElement.reads_element (items_view (drop l.value-index l.values))))
    × IsAtFirst g.T.FromElement.reads_element g.T.FromElement.element_takes_none l.values l.value-index
