use Rattle.std.proofs.Common.{◌≡◌, length}
use Rattle.paths.specs.HoleRules.{sources_of as sources_for}
use Rattle.paths.proofs.RuleLists.{after}
use Rattle.paths.proofs.multisig.sources_of.Given as goal

-- the rule on what is left is the rule on the whole
abbrev pub invariant-loop-key : goal.invariant-loop-key
invariant-loop-key l = sources_for l.fn.keys ≡ after l.sources (sources_for l.keys)

abbrev pub decreases-loop-key : goal.decreases-loop-key
decreases-loop-key l = length l.keys
