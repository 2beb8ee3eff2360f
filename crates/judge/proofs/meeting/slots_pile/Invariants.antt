use Rattle.std.proofs.Common.{◌≡◌, ◌++◌, map, reverse, length}
use Rattle.facts.specs.Meaning.{slot_of}
use Rattle.judge.proofs.meeting.slots_pile.Given as goal

-- the items of the slots that are left, before the pile, are those of all
abbrev pub invariant-loop-slot : goal.invariant-loop-slot
invariant-loop-slot l = map (slot_of (reverse l.items)) l.rest ++ l.pile ≡ map (slot_of (reverse l.items)) l.slots

abbrev pub decreases-loop-slot : goal.decreases-loop-slot
decreases-loop-slot l = length l.rest
