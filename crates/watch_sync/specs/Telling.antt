-- The events of changes, read from the cells of their records.
use Rattle.std.specs.Prelude.{◌≡◌, ℕ, ◌-◌, ◌≤◌, false, List, [], filter_map, Option, Some, None}
use Rattle.std.specs.Prelude.{option_map, if◌then◌else◌}
use Rattle.etcd_types.specs.declared.key_value.Event.{Event}
use Rattle.etcd_types.specs.declared.key_value.KeyValue.{KeyValue}
use Rattle.etcd_model.specs.declared.state.State.{State}
use Rattle.etcd_model.specs.declared.state.Watch.{Watch}
use Rattle.etcd_model.specs.Changes.{Recorded, change_of, entry_of}
use Rattle.etcd_model.specs.Store.{Store, kept_store}
use Rattle.etcd_model.specs.Watches as model
use Rattle.model_laws.specs.Recording.{IsIn}
use Rattle.key_index.specs.Links.{Cells, change_at}
use Rattle.revision_store.specs.Stored.{StoreState, cells}
use Rattle.watch_sync.specs.declared.noted.Noted.{Noted}

-- a tenant that has a store and nothing else: of a tenant an event reads the store alone
abbrev pub with_store : Store → State Store
with_store store = record {
  cluster = 0;
  quota = 0;
  store = store;
  leases = [];
  counter = 1;
  moment = 0;
  alarm = false;
  slots = [];
}

-- the row before a change, where the watch asks for it
abbrev pub row_asked : Store → Watch → Recorded → Option KeyValue
row_asked store w x = if w.prev_kv then kept_store.row_at store x.key (x.revision - 1) else None

-- the event of a recorded change
abbrev pub event_of : Store → Watch → Recorded → Event
event_of store w x = model.event_of kept_store (with_store store) w (entry_of x) (change_of x)

-- the events of noted changes
abbrev pub events_at : Cells → Store → Watch → List Noted → List Event
events_at cells store w notes = filter_map (λ n. option_map (event_of store w) (change_at cells n.cell)) notes

-- under the cell is a kept change, from the compaction on
pub record IsKept (store : StoreState) (c : ℕ) : Type 0 where
  pub change : Recorded
  pub at : change_at (cells store) c ≡ Some change
  pub kept : IsIn change store.kept.changes
  pub whole : store.kept.compacted ≤ change.revision
