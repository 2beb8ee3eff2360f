use Rattle.std.proofs.Common.{take}
use Rattle.std.specs.List.{flat_map}
use Rattle.sha2.specs.Hashers.{Holds256}
use Rattle.tx.specs.Spelling.{outpoint}
use Rattle.sighash.proofs.signing.hash_outpoints.Given as goal

abbrev pub invariant-loop-input : goal.invariant-loop-input
invariant-loop-input l = Holds256 l.hasher (flat_map (λ i. outpoint i.outpoint) (take l.input-index l.inputs))
