use Rattle.std.proofs.Common.{◌≡◌, ◌-◌, ◌*◌, ◌≤◌, ◌^◌, take}
use Rattle.std.specs.Prelude.{sum_by}
use Rattle.commit.specs.Fees.{satoshis_of}
use Rattle.least.proofs.sums.each_left_sat.Given as goal

abbrev pub invariant-loop-htlc : goal.invariant-loop-htlc
invariant-loop-htlc l = record {
  sum : l.total ≡ sum_by (λ h. satoshis_of h.amount_msat - l.fee_sat) (take l.htlc-index l.htlcs);
  small : l.total ≤ l.htlc-index * 2 ^ 55;
}
