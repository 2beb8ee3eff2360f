use Rattle.std.proofs.Common.{◌≡◌, ◌-◌, ◌*◌, ◌≤◌, ◌^◌, take}
use Rattle.std.specs.Prelude.{if◌then◌else◌, sum_by}
use Rattle.commit.specs.Fees.{satoshis_of}
use Rattle.worth_laws.specs.Counted.{known_by}
use Rattle.least.proofs.sums.each_known_left_sat.Given as goal

abbrev pub invariant-loop-htlc : goal.invariant-loop-htlc
invariant-loop-htlc l = record {
  sum : l.total ≡ sum_by (λ h. if known_by l.known h then satoshis_of h.amount_msat - l.fee_sat else 0) (take l.htlc-index l.htlcs);
  small : l.total ≤ l.htlc-index * 2 ^ 55;
}
