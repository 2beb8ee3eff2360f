use Rattle.std.proofs.Common.{◌≡◌, drop}
use Rattle.trace.specs.Standing.{has_id}
use Rattle.trace.proofs.dumps.standing.stands.Given as goal

-- one of the HTLCs that are left has the id where one of all has it
abbrev pub invariant-loop-htlc : goal.invariant-loop-htlc
invariant-loop-htlc l = has_id l.id (drop l.htlc-index l.held) ≡ has_id l.id l.held
