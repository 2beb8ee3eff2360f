use Rattle.std.proofs.Common.{◌≡◌, ◌++◌, drop}
use Rattle.commit.specs.Amounts.{untrimmed}
use Rattle.commit.proofs.amounts.untrimmed.Given as goal

-- what is left adds the rest
abbrev pub invariant-loop-htlc : goal.invariant-loop-htlc
invariant-loop-htlc l = l.kept.items ++ untrimmed l.dust_sat l.feerate_per_kw l.direction (drop l.htlc-index l.htlcs) ≡ untrimmed l.dust_sat l.feerate_per_kw l.direction l.htlcs
