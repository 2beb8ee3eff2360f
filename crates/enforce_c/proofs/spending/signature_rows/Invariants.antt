use Rattle.std.proofs.Common.{◌≡◌, map, take}
use Rattle.enforce_c.specs.Spent.{signature_row}
use Rattle.enforce_c.proofs.spending.signature_rows.Given as goal

abbrev pub invariant-loop-signature : goal.invariant-loop-signature
invariant-loop-signature l = l.rows.items ≡ map signature_row (take l.signature-index l.signatures)
