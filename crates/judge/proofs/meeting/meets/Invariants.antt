use Rattle.std.proofs.Common.{◌≡◌, drop}
use Rattle.std.specs.List.{list_all}
use Rattle.judge.specs.Meeting.{is_as_stated}
use Rattle.judge.proofs.meeting.meets.Given as goal

-- the facts that are left are as they are stated where all are
abbrev pub invariant-loop-stated : goal.invariant-loop-stated
invariant-loop-stated l = list_all (is_as_stated l.spend l.items) (drop l.stated-index l.facts) ≡ list_all (is_as_stated l.spend l.items) l.facts
