use Rattle.desk.specs.Seats.{HasSameCalls}
use Rattle.running_tests.proofs.gates.TestGate.wait.Given as goal

abbrev pub invariant-loop : goal.invariant-loop
invariant-loop g l = HasSameCalls l.desk l.initial.seat l.seat
