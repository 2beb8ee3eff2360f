use Rattle.std.proofs.Common.{◌≡◌, drop}
use Rattle.std.specs.List.{position_from}
use Rattle.judge.specs.Meeting.{is_met}
use Rattle.judge.proofs.meeting.met_path.Given as goal

-- the first path of those that are left is the first of all
abbrev pub invariant-loop-number : goal.invariant-loop-number
invariant-loop-number l = position_from (is_met l.spend l.items) l.number (drop l.number l.paths) ≡ position_from (is_met l.spend l.items) 0 l.paths
