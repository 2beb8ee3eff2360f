use Rattle.std.proofs.Common.{◌≡◌, ◌*◌, ◌≤◌, ◌^◌, take}
use Rattle.commit.specs.Sums.{worth_sat_of}
use Rattle.least.proofs.sums.worth_sat.Given as goal

abbrev pub invariant-loop-htlc : goal.invariant-loop-htlc
invariant-loop-htlc l = record {
  sum : l.total ≡ worth_sat_of (take l.htlc-index l.htlcs);
  small : l.total ≤ l.htlc-index * 2 ^ 55;
}
