-- One line, answered: an event, or a call of the operator.
use Rattle.std.specs.Prelude.{◌≡◌, Option, Some, None, Result, Ok, Err}
use Rattle.tenant_rules.specs.declared.fault.OperatorFault.{OperatorFault}
use Rattle.steps_core.specs.Hosts.{HostState}
use Rattle.steps_core.specs.Adding.{add_fault, Adds}
use Rattle.tenant_rules.specs.Rules.{reason}
use Rattle.steps_core.specs.Resizing.{resize_fault, Resizes}
use Rattle.steps_core.specs.Removing.{remove_fault, Removes}
use Rattle.host_front.specs.declared.line.LineAnswer.{LineAnswer}
use Rattle.host_front.specs.declared.line.LineAnswer.TheVariants as answered
use Rattle.host_front.specs.Answering.{Answers}
use Rattle.host_front.specs.Lines.{Line, Happens, Add, Resize, Remove}

-- what the operator is told
abbrev pub operator_told : {T : Type 0} → Result T OperatorFault → LineAnswer
operator_told (Ok done) = answered.Done
operator_told (Err fault) = answered.No fault

-- The operator's call is done, and no fault speaks against it. Or the first fault is told, as its word tells
-- it, and nothing changed.
abbrev pub Operates : Option OperatorFault → (OperatorFault → Option OperatorFault) → Type 0 → HostState
    → LineAnswer → HostState → Type 0
Operates fault word Does old answered.Done new = (fault ≡ None) × Does
Operates fault word Does old (answered.No f) new = (new ≡ old) × (fault ≡ word f)
Operates fault word Does old (answered.Event a) new = ⊥

-- What a line is told, and the host that it leaves. A new tenant and another quota may be refused for want of
-- memory, if no fault speaks against them; the end of a tenant never is.
abbrev pub Lives : HostState → Line → LineAnswer → HostState → Type 0
Lives old (Happens e) (answered.Event a) new = Answers old e a new
Lives old (Happens e) answered.Done new = ⊥
Lives old (Happens e) (answered.No f) new = ⊥
Lives old (Add name cluster quota first) answer new =
    Operates (add_fault old name cluster quota first) reason (Adds old name cluster quota first new) old answer new
Lives old (Resize name quota) answer new =
    Operates (resize_fault old name quota) reason (Resizes old name quota new) old answer new
Lives old (Remove name) answer new =
    Operates (remove_fault old name) Some (Removes old name new) old answer new
