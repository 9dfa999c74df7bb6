use Rattle.futures.specs.Task.{Keeps}
use Rattle.gateway_http.specs.Readings.{IsReadOn}
use Rattle.gateway_http.proofs.reading.Reading.poll_whole.Given as goal

abbrev pub invariant-loop : goal.invariant-loop
invariant-loop g l = Keeps l.initial.cx l.cx × IsReadOn l.initial.self l.self
