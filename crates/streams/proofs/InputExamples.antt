-- The numbers and names of refused inputs.
use Rattle.std.proofs.Common.{◌≡◌, [], ◌∷◌, map, codes, refl}
use Rattle.streams.specs.declared.input.InputError.TheVariants.{NoMemory, ReadFailed, TooLong, BadHex}
use Rattle.streams.specs.InputRefusals.{input_number, input_text}

numbers : map input_number (NoMemory ∷ ReadFailed ∷ TooLong ∷ BadHex ∷ []) ≡ 0 ∷ 1 ∷ 2 ∷ 3 ∷ []
numbers = refl

texts : map input_text (NoMemory ∷ ReadFailed ∷ TooLong ∷ BadHex ∷ []) ≡ codes "NoMemory" ∷ codes "ReadFailed" ∷ codes "TooLong" ∷ codes "BadHex" ∷ []
texts = refl
