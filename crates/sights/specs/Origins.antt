-- What a map from ids holds of the transactions that were read.
use Rattle.std.specs.Prelude.{ℕ, Bool, ◌==◌, nat_lt, if◌then◌else◌, List, [], ◌∷◌, length, Option, Some, None}
use Rattle.std.specs.Ordering.{nat_cmp}
use Rattle.std.specs.Cmp.Lexicographic.{slice_cmp}
use Rattle.std.specs.BTreeMap.{BTreeMap, get}
use Rattle.std.specs.Option.{option_or}
use Rattle.std.specs.Str.{bytes_eq}
use Rattle.tx.specs.declared.input.OutPoint.{OutPoint}
use Rattle.tx.specs.Spelling.{transaction_id}
use Rattle.sights.specs.declared.sighted.Sighted.{Sighted}
use Rattle.sights.specs.declared.origins.Origin.{Origin}

-- what is held of a transaction: how many were read before it, its height, its stage, and how many outputs it has
abbrev pub origin : Sighted → ℕ → Origin
origin s number = record { number = number; height = s.height; stage = s.stage; outputs = length s.tx.outputs }

-- the oldest with an id
abbrev pub origin_of : List ℕ → List Sighted → Option Origin
origin_of id [] = None
origin_of id (s ∷ ss) = option_or (origin_of id ss) (if bytes_eq (transaction_id s.tx) id then Some (origin s (length ss)) else None)

-- the height of the block that made an output, if the transaction has it
abbrev pub made_of : OutPoint → Origin → Option ℕ
made_of p o = if nat_lt p.index o.outputs then Some o.height else None

-- as a map has it
abbrev pub origin_in : BTreeMap (List ℕ) Origin → List ℕ → Option Origin
origin_in origins id = get (slice_cmp nat_cmp) origins id

-- unless it has this number
abbrev pub unless_number : ℕ → Option Origin → Option Origin
unless_number number None = None
unless_number number (Some o) = if o.number == number then None else Some o

abbrev pub without : Bool → ℕ → Option Origin → Option Origin
without here number found = if here then unless_number number found else found
