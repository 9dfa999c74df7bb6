-- What the clients of a tenant may take.
use Rattle.std.specs.Prelude.{◌≡◌, ℕ, ◌+◌, ◌*◌, ◌≤◌, codes, min, Some, IfSome, option_map}
use Rattle.serde_json.specs.Data.{Data}
use Rattle.etcd_types.specs.declared.limits.TheConstants.{CELL_BYTES}
use Rattle.fair_turns.specs.declared.budget.TheConstants.{DEFAULT_BUDGET}
use Rattle.connection_table.specs.declared.allowance.Allowance.{Allowance}
use Rattle.host_config.specs.Numbers.{number, told_number}
use Rattle.host_config.specs.Retaining.{retention_in}
use Rattle.host_config.specs.declared.tenants.Changes.{Changes}

-- a budget in bytes that may be told
abbrev pub min_budget : ℕ
min_budget = 4194304

abbrev pub max_budget : ℕ
max_budget = 1099511627776

-- what a tenant of that quota has where none is told: four times the bytes of its cells beside what each has
abbrev pub usual_budget : ℕ → ℕ
usual_budget quota = min (quota * (CELL_BYTES * 4) + DEFAULT_BUDGET) max_budget

abbrev pub IsBudget : ℕ → Type 0
IsBudget b = (min_budget ≤ b) × (b ≤ max_budget)

-- what the members of an object tell, of a tenant of that quota
pub record IsAllowance (d : Data) (quota : ℕ) (a : Allowance) : Type 0 where
  pub budget : number (codes "budget") (usual_budget quota) d ≡ Some a.budget
  pub bounded : IsBudget a.budget
  pub connections : told_number (codes "open_connections") d ≡ option_map Some a.open_connections
  pub some : IfSome a.open_connections (λ n. 1 ≤ n)
  pub retention : retention_in d ≡ Some a.retention

-- the changes that the members of an object tell
pub record AreChanges (d : Data) (c : Changes) : Type 0 where
  pub quota : told_number (codes "quota") d ≡ option_map Some c.quota
  pub budget : told_number (codes "budget") d ≡ option_map Some c.budget
  pub bounded : IfSome c.budget IsBudget
  pub connections : told_number (codes "open_connections") d ≡ option_map Some c.open_connections
  pub some : IfSome c.open_connections (λ n. 1 ≤ n)
