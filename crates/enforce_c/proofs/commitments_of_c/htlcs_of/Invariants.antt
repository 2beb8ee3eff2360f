-- The HTLCs so far are those of their rows, and no row so far has a fault.
use Rattle.std.proofs.Common.{◌≡◌, take, drop}
use Rattle.enforce_c.specs.Commitments.{htlcs_fault, AreHtlcsOf}
use Rattle.enforce_c.proofs.commitments_of_c.htlcs_of.Given as goal

abbrev pub invariant-loop-index : goal.invariant-loop-index
invariant-loop-index l = record {
  faults : htlcs_fault l.index (drop l.index l.rows) ≡ htlcs_fault 0 l.rows;
  read : AreHtlcsOf (take l.index l.rows) l.htlcs.items;
}
