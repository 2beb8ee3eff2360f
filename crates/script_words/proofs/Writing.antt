-- What a writer holds after a text.
use Rattle.std.proofs.Common.{ℕ, List, Option, Some, None, ◌∙◌}
use Rattle.std.specs.Io.KnownBytes.{Appends, Keeps}

-- a flush keeps a text that was appended
pub appended : (before between after : Option (List ℕ)) (text : List ℕ) → Appends before between text → Keeps between after → Appends before after text
appended None between after text one two = tt
appended (Some xs) None after text one two = absurd one
appended (Some xs) (Some ys) None text one two = absurd two
appended (Some xs) (Some ys) (Some zs) text one two = two ∙ one
