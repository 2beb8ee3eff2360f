use Rattle.std.proofs.Common.{◌≡◌, reverse, take}
use Rattle.sights.specs.Sights.{read_block}
use Rattle.sights.proofs.Reading.{IsBelow}
use Rattle.sights.proofs.sights.Sights.block.Given as goal

-- what was read so far
abbrev pub invariant-loop-confirmed : goal.invariant-loop-confirmed
invariant-loop-confirmed l = record {
  read : l.self ≡ record l.initial.self { sighted = read_block l.initial.self.fundings l.height (reverse (take l.confirmed-index l.confirmed-items)) l.initial.self.sighted };
  below : IsBelow l.initial.self.sighted l.self.sighted;
}
