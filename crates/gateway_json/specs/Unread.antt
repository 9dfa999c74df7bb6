-- What refuses a request before its body is read. None of it takes memory.
use Rattle.std.specs.Prelude.{List, ℕ, length, nat_lt, Option, Some, None, codes, if◌then◌else◌}
use Rattle.std.specs.Str.{bytes_eq}
use Rattle.etcd_types.specs.Limits.{max_body}
use Rattle.etcd_types.specs.declared.call.Call.{Call}
use Rattle.etcd_types.specs.declared.refusal.Refusal.{Refusal}
use Rattle.etcd_types.specs.declared.refusal.Refusal.TheVariants.{NoPath, NotPost, TooLarge}
use Rattle.etcd_model.specs.Calls.{call_of}

-- a body that is too long
abbrev pub oversize : List ℕ → Option Refusal
oversize body = if nat_lt max_body (length body) then Some TooLarge else None

-- an unknown path
abbrev pub unknown : Option Call → Option Refusal → Option Refusal
unknown None r = Some NoPath
unknown (Some c) r = r

-- any method but POST
abbrev pub not_posted : List ℕ → Option Refusal → Option Refusal
not_posted method r = if bytes_eq method (codes "POST") then r else Some NotPost

-- the path goes first, then the size
abbrev pub call_unread : List ℕ → List ℕ → Option Refusal
call_unread path body = unknown (call_of path) (oversize body)

-- the path goes first, then the method, then the size
abbrev pub posted_unread : List ℕ → List ℕ → List ℕ → Option Refusal
posted_unread method path body = unknown (call_of path) (not_posted method (oversize body))
