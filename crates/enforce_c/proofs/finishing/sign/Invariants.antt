-- The inputs so far, with the signatures that are left, are those with all signatures; and nothing else of the transaction is changed.
use Rattle.std.proofs.Common.{◌≡◌, ◌≤◌, drop, length}
use Rattle.enforce_c.proofs.SignedSpends.{signed_inputs}
use Rattle.enforce_c.proofs.finishing.sign.Given as goal

abbrev pub invariant-loop-index : goal.invariant-loop-index
invariant-loop-index l = record {
  inputs : signed_inputs l.bytes (drop l.index l.missing) (drop l.index l.rows) l.tx.inputs ≡ signed_inputs l.bytes l.missing l.rows l.initial.tx.inputs;
  others : l.tx ≡ record l.initial.tx { inputs = l.tx.inputs };
  within : l.index ≤ length l.missing;
}
