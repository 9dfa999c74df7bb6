-- One tenant over any store that answers a few questions.
use Rattle.std.specs.Prelude.{ℕ, ◌+◌, List, [], length, Option, pos}
use Rattle.etcd_types.specs.declared.key_value.KeyValue.{KeyValue}
use Rattle.etcd_types.specs.declared.reply.Header.{Header}
use Rattle.etcd_types.specs.declared.reply.Reply.{Reply}
pub use Rattle.etcd_model.specs.declared.state.State.{State}
use Rattle.etcd_model.specs.declared.state.Watch.{Watch}
use Rattle.etcd_model.specs.History.{Change, Entry}
use Rattle.etcd_model.specs.Reads.{Reads, Look}

-- what is asked of a store
pub record Asks (X : Type 0) : Type 0 where
  -- what can be read, once some changes are one more revision
  pub look : X → Look
  -- the store after one more revision, and after a compaction
  pub after : X → List Change → X
  pub compact : X → ℕ → X
  -- the cells of what is kept, with room for a delete of each live key
  pub cells : X → ℕ
  -- the changes that a watch is still to be told of, and a key at a revision; nothing of either below the
  -- compaction
  pub ahead : X → Watch → List Entry
  pub row_at : X → List ℕ → ℕ → Option KeyValue

-- a tenant's state afterwards, and what is answered
pub record Outcome (X : Type 0) : Type 0 where
  pub state : State X
  pub reply : Reply

module _ {X : Type 0} (asks : Asks X) where
  -- what is read now
  abbrev pub reads : State X → Reads
  reads t = asks.look t.store []

  abbrev pub current : State X → ℕ
  current t = (reads t).current

  -- the header over what is read
  abbrev pub header_over : State X → Reads → Header
  header_over t R = record { cluster = t.cluster; revision = pos R.current }

  abbrev pub header : State X → Header
  header t = header_over t (reads t)

  -- the cells that count against the quota: one more for each lease
  abbrev pub used : State X → ℕ
  used t = asks.cells t.store + length t.leases

  -- an answer that changes nothing
  abbrev pub stays : State X → Reply → Outcome X
  stays t reply = record { state = t; reply = reply }
