use Rattle.std.proofs.Common.{◌≡◌, length}
use Rattle.paths.specs.HoleRules.{slots_of as slots_for}
use Rattle.paths.proofs.RuleLists.{after}
use Rattle.paths.proofs.multisig.slots_of.Given as goal

-- the rule on what is left is the rule on the whole
abbrev pub invariant-loop-sym : goal.invariant-loop-sym
invariant-loop-sym l = slots_for l.fn.syms ≡ after l.slots (slots_for l.syms)

abbrev pub decreases-loop-sym : goal.decreases-loop-sym
decreases-loop-sym l = length l.syms
