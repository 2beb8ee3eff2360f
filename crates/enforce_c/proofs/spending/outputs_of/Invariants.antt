-- The outputs so far, with those of the rows that are left, are those of all rows.
use Rattle.std.proofs.Common.{◌≡◌, drop, length}
use Rattle.enforce_c.specs.Spent.{outputs_of}
use Rattle.enforce_c.proofs.Spends.{with_first}
use Rattle.enforce_c.proofs.spending.outputs_of.Given as goal

abbrev pub invariant-loop-index : goal.invariant-loop-index
invariant-loop-index l = record {
  value : with_first l.outputs.items (outputs_of l.bytes l.index (drop l.index l.rows)) ≡ outputs_of l.bytes 0 l.rows;
  count : length l.outputs.items ≡ l.index;
}
