use Rattle.model_laws.proofs.SpaceLaws.{keep_is_store, after_is_store, compact_is_store, put_takes_cells, delete_takes_its_room, delete_takes_none, op_takes_cells, no_put_takes_none, finish_takes_none, finish_takes_keys, compaction_takes_none, records_are_filled_cells, keys_are_reserved}
use Rattle.model_laws.proofs.CounterLaws.{finish_frees_a_cell}
use Rattle.model_laws.proofs.space_laws.Goals as goal

pub returns : goal.returns
returns c = record {
  keep_is_store = keep_is_store;
  after_is_store = after_is_store;
  compact_is_store = compact_is_store;
  put_takes_cells = put_takes_cells;
  delete_takes_its_room = delete_takes_its_room;
  delete_takes_none = delete_takes_none;
  op_takes_cells = op_takes_cells;
  no_put_takes_none = no_put_takes_none;
  finish_takes_none = finish_takes_none;
  finish_takes_keys = finish_takes_keys;
  finish_frees_a_cell = finish_frees_a_cell;
  compaction_takes_none = compaction_takes_none;
  records_are_filled_cells = records_are_filled_cells;
  keys_are_reserved = keys_are_reserved;
}
