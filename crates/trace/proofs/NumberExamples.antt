-- The numbers of refusals of a text with a transaction.
use Rattle.std.proofs.Common.{◌≡◌, [], ◌∷◌, map, refl}
use Rattle.tx.specs.declared.errors.DecodeError.TheVariants.{Truncated}
use Rattle.streams.specs.declared.input.InputError.TheVariants.{NoMemory, ReadFailed, TooLong, BadHex}
use Rattle.trace.specs.declared.witnesses.errors.SpentError.TheVariants.{Input, Decode, BadCount, BadLine}
use Rattle.trace.specs.Refusals.{refusal_number}

texts : map refusal_number (Input NoMemory ∷ Input ReadFailed ∷ Input TooLong ∷ Input BadHex ∷ Decode Truncated ∷ BadCount ∷ BadLine 9 ∷ []) ≡ 0 ∷ 1 ∷ 2 ∷ 3 ∷ 4 ∷ 5 ∷ 6 ∷ []
texts = refl
