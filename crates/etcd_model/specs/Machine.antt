-- The written etcd machine: one tenant over its whole history.
use Rattle.std.specs.Prelude.{ℕ, false, List, [], ◌∷◌, filter, nat_lt, replicate, None, if◌then◌else◌}
use Rattle.etcd_types.specs.declared.step.Step.{Step}
use Rattle.etcd_types.specs.declared.reply.Reply.{Reply}
use Rattle.etcd_types.specs.Limits.{watch_slots}
use Rattle.etcd_model.specs.History.{History, current as current_revision, entries, kv, history_rows}
use Rattle.etcd_model.specs.History.{history_after}
use Rattle.etcd_model.specs.Interval.{is_in}
use Rattle.etcd_model.specs.Kept.{history_cells}
use Rattle.etcd_model.specs.Reads.{Reads}
use Rattle.etcd_model.specs.Watches.{is_ahead}
pub use Rattle.etcd_model.specs.Tenant.{State, Outcome}
use Rattle.etcd_model.specs.Tenant.{Asks}
use Rattle.etcd_model.specs.Stepping as stepping

-- what can be read of a history
abbrev pub history_reads : History → Reads
history_reads H = record {
  current = current_revision H;
  compacted = H.compacted;
  row = λ key. kv H key (current_revision H);
  rows = λ key end. history_rows H (is_in key end) (current_revision H);
  rows_at = λ key end r. if nat_lt r H.compacted then [] else history_rows H (is_in key end) r;
}

-- what a history answers
abbrev pub history : Asks History
history = record {
  look = λ H pending. history_reads (history_after H pending);
  after = history_after;
  compact = λ H r. record H { compacted = r };
  cells = history_cells;
  ahead = λ H w. if nat_lt w.next H.compacted then [] else filter (is_ahead w) (entries H);
  row_at = λ H key r. if nat_lt r H.compacted then None else kv H key r;
}

-- a new tenant
abbrev pub opening : ℕ → ℕ → ℕ → State History
opening cluster quota first = record {
  cluster = cluster;
  quota = quota;
  store = record { first = first; compacted = 0; revisions = [] };
  leases = [];
  counter = 1;
  moment = 0;
  alarm = false;
  slots = replicate watch_slots None;
}

-- one step: the state afterwards, and what is answered
abbrev pub machine : State History → Step → Outcome History
machine S step = stepping.machine history S step

-- the same, before space is counted
abbrev pub before_space : State History → Step → Outcome History
before_space S step = stepping.before_space history S step

-- a run
abbrev pub replies_to : State History → List Step → List Reply
replies_to S [] = []
replies_to S (step ∷ steps) = let o = machine S step in o.reply ∷ replies_to o.state steps

abbrev pub state_after : State History → List Step → State History
state_after S [] = S
state_after S (step ∷ steps) = state_after (machine S step).state steps
