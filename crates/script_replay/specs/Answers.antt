-- What is answered to a line, and the answer line that is written.
use Rattle.std.specs.Prelude.{ℕ, List, [], ◌∷◌, ◌++◌, decimal, codes, if◌then◌else◌}
use Rattle.std.specs.Io.BufRead.{ends_with_byte}
use Rattle.tenant_rules.specs.declared.fault.OperatorFault.{OperatorFault}
use Rattle.tenant_rules.specs.declared.fault.OperatorFault.TheVariants.{Name, Limits, Taken, NoTenant, Short}
use Rattle.tenant_rules.specs.declared.fault.OperatorFault.TheVariants.{Memory}
use Rattle.host_front.specs.declared.line.LineAnswer.{LineAnswer}
use Rattle.host_front.specs.declared.line.LineAnswer.TheVariants.{Event, Done, No}

abbrev pub word_of : OperatorFault → List ℕ
word_of Name = codes "name"
word_of Limits = codes "limits"
word_of Taken = codes "taken"
word_of NoTenant = codes "tenant"
word_of Short = codes "short"
word_of Memory = codes "memory"

-- a newline, unless the text ends with one
abbrev pub ended : List ℕ → List ℕ
ended text = if ends_with_byte 10 text then text else text ++ 10 ∷ []

-- the rest of the line after a status: a space and the body, where there is one, and a newline unless the
-- body ends with one
abbrev pub body_line : List ℕ → List ℕ
body_line [] = 10 ∷ []
body_line (b ∷ bs) = 32 ∷ ended (b ∷ bs)

-- the answer line
abbrev pub answer_line : LineAnswer → List ℕ
answer_line Done = codes "ok\n"
answer_line (No fault) = codes "no " ++ word_of fault ++ 10 ∷ []
answer_line (Event a) = decimal a.status ++ body_line a.body
