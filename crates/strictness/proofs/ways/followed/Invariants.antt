use Rattle.std.proofs.Common.{◌≡◌, ◌≤◌, [], drop}
use Rattle.strictness.specs.declared.branches.Mode.TheVariants.{Running}
use Rattle.strictness.specs.Words.{words}
use Rattle.strictness.specs.Exact.{depth_of}
use Rattle.strictness.specs.Ways.{fate_of}
use Rattle.strictness.proofs.ways.followed.Given as goal

-- what is left gives the whole
abbrev pub invariant-loop-index : goal.invariant-loop-index
invariant-loop-index l = record {
  within : depth_of l.mode ≤ l.index;
  exact : fate_of l.choices l.ops 0 Running [] ≡ fate_of l.choices (drop l.index l.ops) l.index l.mode (words l.stack);
}
