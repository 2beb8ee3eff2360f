use Rattle.std.proofs.Common.{◌≡◌, ◌++◌, map, reverse, length}
use Rattle.facts.specs.Meaning.{key_of}
use Rattle.judge.proofs.meeting.keys_pile.Given as goal

-- the bytes of the keys that are left, before the pile, are those of all
abbrev pub invariant-loop-key : goal.invariant-loop-key
invariant-loop-key l = map (key_of (reverse l.items)) l.rest ++ l.pile ≡ map (key_of (reverse l.items)) l.keys

abbrev pub decreases-loop-key : goal.decreases-loop-key
decreases-loop-key l = length l.rest
