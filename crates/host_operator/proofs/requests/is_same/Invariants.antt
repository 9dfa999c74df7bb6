use Rattle.std.proofs.Common.{◌≡◌, ◌≢◌, ◌<◌, ℕ, false, true, get_or}
use Rattle.host_operator.proofs.requests.is_same.Given as goal

abbrev pub invariant-loop-place : goal.invariant-loop-place
invariant-loop-place l =
    (l.same ≡ true → (k : ℕ) → k < l.place → get_or l.brought k 0 ≡ get_or l.token k 0) × (l.same ≡ false → l.brought ≢ l.token)
