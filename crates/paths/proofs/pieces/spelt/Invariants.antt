use Rattle.std.proofs.Common.{◌≡◌, ◌++◌, drop}
use Rattle.script.specs.Spelling.{spelling}
use Rattle.paths.proofs.pieces.spelt.Given as goal

abbrev pub invariant-loop-op : goal.invariant-loop-op
invariant-loop-op l = l.bytes.items ++ spelling (drop l.op-index l.ops) ≡ spelling l.ops
