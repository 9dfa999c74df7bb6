-- What a refusal of the operator tells outside.
use Rattle.std.specs.Prelude.{ℕ, List, codes, ◌++◌, [], ◌∷◌}
use Rattle.tenant_rules.specs.declared.fault.OperatorFault.{OperatorFault}
use Rattle.tenant_rules.specs.declared.fault.OperatorFault.TheVariants as fault
use Rattle.host_operator.specs.declared.calls.OperatorRefusal.{OperatorRefusal}
use Rattle.host_operator.specs.declared.calls.OperatorRefusal.TheVariants as refusal

-- the status of HTTP
abbrev pub fault_status : OperatorFault → ℕ
fault_status fault.Name = 422
fault_status fault.Limits = 422
fault_status fault.Taken = 409
fault_status fault.NoTenant = 404
fault_status fault.Short = 507
fault_status fault.Memory = 503

abbrev pub status_of : OperatorRefusal → ℕ
status_of (refusal.Fault f) = fault_status f
status_of refusal.Unreadable = 400
status_of refusal.Token = 401
status_of refusal.Path = 404
status_of refusal.Method = 405
status_of refusal.Starting = 503
status_of refusal.Stopping = 503
status_of refusal.Stuck = 503

-- the word by which it is told
abbrev pub fault_word : OperatorFault → List ℕ
fault_word fault.Name = codes "name"
fault_word fault.Limits = codes "limits"
fault_word fault.Taken = codes "taken"
fault_word fault.NoTenant = codes "tenant"
fault_word fault.Short = codes "short"
fault_word fault.Memory = codes "memory"

abbrev pub word_of : OperatorRefusal → List ℕ
word_of (refusal.Fault f) = fault_word f
word_of refusal.Unreadable = codes "unreadable"
word_of refusal.Token = codes "token"
word_of refusal.Path = codes "path"
word_of refusal.Method = codes "method"
word_of refusal.Starting = codes "starting"
word_of refusal.Stopping = codes "stopping"
word_of refusal.Stuck = codes "stuck"

-- a JSON object in a line: its member `error` is the word
abbrev pub text_of : OperatorRefusal → List ℕ
text_of r = codes "{\"error\":\"" ++ word_of r ++ codes "\"}" ++ 10 ∷ []
