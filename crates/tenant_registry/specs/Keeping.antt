-- What lies under a tenant's lock.
use Rattle.std.specs.Prelude.{◌≡◌, ℕ, ◌+◌, Bool, ◌&&◌, List, [], ◌∷◌, ◌++◌, is_none, refl}
use Rattle.std.specs.Coded.{Coded, code_by, coded×, coded_ℕ, coded_list}
use Rattle.cell_arena.specs.Loan.{Loan, IsLent}
use Rattle.etcd_types.specs.declared.step.Step.{Step}
use Rattle.etcd_model.specs.Held.{Holds}
use Rattle.etcd_model.specs.Pool.{StockState}
use Rattle.tenant_machine.specs.Finding.{finds}
use Rattle.tenant_machine.specs.Tenants.{MachineState, machine_code, tenant}
use Rattle.tenant_audit.specs.Audits.{Act, Log, IsLawful, IsOpen, end_of, state_after_acts, turn_of}

-- the machine, the audit, and the segments that are reserved and not drawn
pub record Content : Type 0 where
  pub machine : MachineState
  pub audit : Log
  pub left : StockState

-- the numbers of its segments, those that are left and those that are drawn
abbrev pub segments_of : Content → List ℕ
segments_of c = c.left.numbers ++ c.machine.store.share.numbers

abbrev pub stock_code : Coded StockState
stock_code =
    code_by (ℕ × (ℕ × List ℕ)) (coded× coded_ℕ (coded× coded_ℕ (coded_list coded_ℕ)))
    (λ s. (s.held, (s.room, s.numbers)))
    (λ p. record { held = p.0; room = p.1.0; numbers = p.1.1 })
    (λ _. refl)

-- the code, by that of an audit
abbrev pub content_code : Coded Log → Coded Content
content_code log_code =
    code_by (MachineState × (Log × StockState)) (coded× machine_code (coded× log_code stock_code))
    (λ c. (c.machine, (c.audit, c.left)))
    (λ p. record { machine = p.0; audit = p.1.0; left = p.1.1 })
    (λ _. refl)

-- a stock, as it is lent
abbrev pub loan_of : StockState → Loan
loan_of s = record { left = s.held; room = s.room; numbers = s.numbers; others = (s.held + s.room) ∷ [] }

-- The audit is lawful. The machine holds the state after its acts and those that came once it was full, so
-- while it is not full, the state to which the audit leads. The stock has what the machine may draw, and room
-- for what it drew.
pub record IsKept (m : MachineState) (a : Log) (left : StockState) : Type 0 where
  pub lawful : IsLawful a
  pub later : List Act
  pub none : IsOpen a → later ≡ []
  pub holds : Holds (state_after_acts (end_of a) later) (tenant m)
  pub lent : IsLent m.store.share (loan_of left)

-- what a step is answered is found, and no entry is kept of it
abbrev pub finds_in : Content → Step → Bool
finds_in c step = is_none (turn_of c.audit) && finds c.machine step
