use Rattle.std.proofs.Common.{◌≡◌, ◌≤◌, ◌^◌, max, drop}
use Rattle.desk.specs.Histories.{first_seat}
use Rattle.desk.proofs.desk.first_number.Given as goal

abbrev pub invariant-loop-entry : goal.invariant-loop-entry
invariant-loop-entry l = (max l.first (first_seat (drop l.entry-index l.entries)) ≡ first_seat l.entries) × (l.first ≤ 2 ^ 32)
