use Rattle.std.proofs.Common.{◌≡◌, ◌+◌, ◌*◌, ◌^◌, ◌≤◌, drop}
use Rattle.commit.specs.Sums.{millisatoshis_of}
use Rattle.penalty.proofs.states.millisatoshis.Given as goal

abbrev pub invariant-loop-htlc : goal.invariant-loop-htlc
invariant-loop-htlc l = record {
  rest : l.total + millisatoshis_of (drop l.htlc-index l.htlcs) ≡ millisatoshis_of l.htlcs;
  small : l.total ≤ l.htlc-index * 2 ^ 64;
}
