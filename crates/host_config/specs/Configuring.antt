-- A configuration, by the members of its object.
use Rattle.std.specs.Prelude.{◌≡◌, ℕ, ◌≤◌, ◌<◌, ⊤, List, [], ◌∷◌, codes, length, string_bytes, is_some}
use Rattle.std.specs.Prelude.{Option, Some, None, option_map, IfSome, MatchOption}
use Rattle.std.specs.Net.Addr.{MatchIp, IsLoopbackV4, IsLoopbackV6}
use Rattle.std.specs.Net.Socket.{socket_ip}
use Rattle.serde_json.specs.Data.{Data, Items, no_items, item}
use Rattle.serde_json.specs.Find.{as_array, as_str}
use Rattle.etcd_types.specs.declared.limits.TheConstants.{DEFAULT_SEGMENTS, MAX_WORKERS}
use Rattle.connection_table.specs.declared.allowance.Allowance.{Allowance}
use Rattle.connection_table.specs.declared.allowance.Patience.{Patience}
use Rattle.connection_table.specs.declared.allowance.TheConstants.{MAX_PATIENCE}
use Rattle.tenant_registry.specs.declared.adding.TenantConfig.{TenantConfig}
use Rattle.tenant_registry.specs.Adding.{new_fault}
use Rattle.host_config.specs.Allowing.{IsAllowance}
use Rattle.host_config.specs.Numbers.{member, number, text, told_number}
use Rattle.host_config.specs.Telling.{IsTenant}
use Rattle.host_config.specs.declared.config.Config.{Config}
use Rattle.host_config.specs.declared.config.OperatorConfig.{OperatorConfig}

-- seconds that a peer may be given
abbrev pub IsPatient : ℕ → Type 0
IsPatient s = (1 ≤ s) × (s ≤ MAX_PATIENCE)

-- how long a peer may keep a connection waiting
pub record IsPatience (d : Data) (p : Patience) : Type 0 where
  pub head : number (codes "head_seconds") 30 d ≡ Some p.head
  pub body : number (codes "body_seconds") 30 d ≡ Some p.body
  pub answer : number (codes "answer_seconds") 60 d ≡ Some p.answer
  pub silence : number (codes "silence_seconds") 60 d ≡ Some p.silence
  pub heads : IsPatient p.head
  pub bodies : IsPatient p.body
  pub answers : IsPatient p.answer
  pub silences : IsPatient p.silence

-- each tenant, and what its clients may take, is that of an object of the list
abbrev pub AreTenants : Items → List TenantConfig → List Allowance → Type 0
AreTenants no_items [] [] = ⊤
AreTenants no_items [] (a ∷ al) = ⊥
AreTenants no_items (c ∷ cs) al = ⊥
AreTenants (item d ds) [] al = ⊥
AreTenants (item d ds) (c ∷ cs) [] = ⊥
AreTenants (item d ds) (c ∷ cs) (a ∷ al) = IsTenant d c × IsAllowance d c.quota a × AreTenants ds cs al

-- the objects of the tenants: none where no list is told
abbrev pub listed : Option Data → Option Items
listed None = Some no_items
listed (Some d) = as_array d

unfoldable pub tenants_in : Data → Option Items
tenants_in d = listed (member (codes "tenants") d)

unfoldable pub HasTenants : Data → List TenantConfig → List Allowance → Type 0
HasTenants d cs al = (ds : Items) × (tenants_in d ≡ Some ds) × AreTenants ds cs al

-- it has a token, or its address is one of this machine alone
abbrev pub IsGuarded : OperatorConfig → Type 0
IsGuarded o =
    MatchOption o.token (MatchIp (socket_ip o.listen) IsLoopbackV4 IsLoopbackV6)
    (λ token. 0 < length token.items)

-- the token that an operator brings: none where it is absent, and some none where it is no text
unfoldable pub token_in : Data → Option (Option (List ℕ))
token_in d = option_map as_str (member (codes "operator_token") d)

-- the operator is served where an address is told, and brings the token that is told
pub record IsOperator (d : Data) (o : Option OperatorConfig) : Type 0 where
  pub told : is_some (member (codes "operator") d) ≡ is_some o
  pub token : IfSome o (λ o. option_map (λ t. Some t.items) o.token ≡ token_in d)
  pub guarded : IfSome o IsGuarded

pub record IsConfig (d : Data) (c : Config) : Type 0 where
  pub listen : text (codes "listen") d ≡ Some (string_bytes c.listen)
  pub segments : number (codes "segments") DEFAULT_SEGMENTS d ≡ Some c.segments
  pub workers : number (codes "workers") 4 d ≡ Some c.workers
  pub some : 1 ≤ c.workers
  pub few : c.workers ≤ MAX_WORKERS
  pub connections : told_number (codes "connections") d ≡ option_map Some c.connections
  pub patience : IsPatience d c.patience
  pub open_connections : told_number (codes "open_connections") d ≡ option_map Some c.open_connections
  pub some_open : IfSome c.open_connections (λ n. 1 ≤ n)
  pub tenants : HasTenants d c.tenants.items c.allowances.items
  pub lawful : new_fault c.segments c.tenants.items ≡ None
  pub operator : IsOperator d c.operator
