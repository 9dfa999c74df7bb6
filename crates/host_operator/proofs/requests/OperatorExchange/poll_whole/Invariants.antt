use Rattle.futures.specs.Task.{Keeps}
use Rattle.host_operator.proofs.requests.OperatorExchange.poll_whole.Given as goal

abbrev pub invariant-loop : goal.invariant-loop
invariant-loop g l = Keeps l.initial.cx l.cx
