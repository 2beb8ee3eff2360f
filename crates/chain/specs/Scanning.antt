-- What a scan finds; blocks, transactions and grants are listed oldest first here.
use Rattle.std.specs.Prelude.{ℕ, ◌+◌, List, [], ◌∷◌, ◌++◌, length, Option, option_map}
use Rattle.std.specs.Borrow.{Bor}
use Rattle.std.specs.List.{find}
use Rattle.tx.specs.declared.input.OutPoint.{OutPoint}
use Rattle.tx.specs.Parts.{Output}
use Rattle.tx.specs.Fields.{same_outpoint}
use Rattle.chain.specs.Blocks.{Contents, Creation, grant_outpoint, created_by_all, granted_at}

-- an output and the height of its block
abbrev pub spot_of : Creation → Output × ℕ
spot_of c = (c.output, c.height)

-- the first of these at an outpoint
abbrev pub found_in : OutPoint → List Creation → Option (Output × ℕ)
found_in o list = option_map spot_of (find (λ c. same_outpoint c.outpoint o) list)

-- an output at a height
abbrev pub at_height : ℕ → Option (Bor Output) → Option (Output × ℕ)
at_height height found = option_map (λ r. (r.now, height)) found

abbrev pub with_height : Option (Bor Output × ℕ) → Option (Output × ℕ)
with_height found = option_map (λ f. (f.0.now, f.1)) found

-- granted outputs, after this number of earlier grants
abbrev pub grants_from : ℕ → ℕ → List Output → List Creation
grants_from height before [] = []
grants_from height before (o ∷ os) = record { outpoint = grant_outpoint before; output = o; height = height } ∷ grants_from height (before + 1) os

-- what blocks created; the first of them has this height, and this number of grants came before it
abbrev pub created_from : ℕ → ℕ → List Contents → List Creation
created_from height before [] = []
created_from height before (b ∷ bs) =
    (created_by_all height b.transactions ++ granted_at height before b.granted) ++ created_from (height + 1) (before + length b.granted) bs
