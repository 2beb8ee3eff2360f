-- The refusals of a view by their numbers.
use Rattle.std.proofs.Common.{◌≡◌, map, [], ◌∷◌, refl}
use Rattle.commit.specs.declared.errors.BuildError.TheVariants.{NoMemory, TooManyOutputs, ValueTooLarge}
use Rattle.commit.specs.Building.{refusal_number}

numbers : map refusal_number (NoMemory ∷ TooManyOutputs ∷ ValueTooLarge ∷ []) ≡ 0 ∷ 1 ∷ 2 ∷ []
numbers = refl
