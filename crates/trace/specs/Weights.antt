-- The weight of the witness of a path: one unit for each byte (BIP 141).
use Rattle.std.specs.Prelude.{ℕ, zero, suc, ◌+◌, ◌*◌, ◌^◌, max, min, Bool, true, false, nat_lt, ◌==◌, ◌||◌, if◌then◌else◌, List, [], ◌∷◌, length, Option, Some, None}
use Rattle.std.specs.List.{list_any}
use Rattle.script.specs.declared.limits.TheConstants.{MAX_STACK_SIZE}
use Rattle.facts.specs.Symbols.{Fact, Stated}
use Rattle.facts.specs.declared.symbols.FactOver.TheVariants.{Hash, Size, Truth, Is, KeyForm, Form, Token, Assigned, Lock, Age}

abbrev pub is_one_of : ℕ → List ℕ → Bool
is_one_of i slots = list_any (λ j. j == i) slots

abbrev pub some_if : Bool → ℕ → Option ℕ
some_if b n = if b then Some n else None

-- the number of bytes that a fact asks of a slot, if it asks for one
abbrev pub exact_size_by : Fact → ℕ → ℕ → Option ℕ
exact_size_by (Is i item) slot signature = some_if (i == slot) (length item)
exact_size_by (Size i n) slot signature = some_if (i == slot) n
exact_size_by (KeyForm i) slot signature = some_if (i == slot) 33
exact_size_by (Token i key) slot signature = some_if (i == slot) signature
exact_size_by (Assigned slots keys) slot signature = some_if (is_one_of slot slots) signature
exact_size_by fact slot signature = None

abbrev pub exact_size : Stated → ℕ → ℕ → Option ℕ
exact_size s slot signature = if s.holds then exact_size_by s.fact slot signature else None

-- the usual number of bytes: 32 for a preimage, and one for a true item
abbrev pub least_size_by : Fact → ℕ → ℕ
least_size_by (Hash i h) slot = if i == slot then 32 else 0
least_size_by (Truth i) slot = if i == slot then 1 else 0
least_size_by fact slot = 0

abbrev pub least_size : Stated → ℕ → ℕ
least_size s slot = if s.holds then least_size_by s.fact slot else 0

-- the number of bytes of a slot: what the first fact that asks for a number asks for, else the greatest usual number
abbrev pub size_or : Option ℕ → ℕ → ℕ
size_or (Some n) rest = n
size_or None rest = rest

abbrev pub size_in : List Stated → ℕ → ℕ → ℕ → ℕ
size_in [] slot signature least = least
size_in (s ∷ facts) slot signature least = size_or (exact_size s slot signature) (size_in facts slot signature (max (least_size s slot) least))

-- the number of bytes of a compactSize
abbrev pub compact_size : ℕ → ℕ
compact_size n = if nat_lt n 0xfd then 1 else if nat_lt n 0x10000 then 3 else if nat_lt n 0x100000000 then 5 else 9

abbrev pub item_weight : ℕ → ℕ
item_weight n = compact_size n + n

-- the weight of the first slots
abbrev pub items_weight : List Stated → ℕ → ℕ → ℕ
items_weight facts zero signature = 0
items_weight facts (suc slot) signature = items_weight facts slot signature + item_weight (size_in facts slot signature 0)

-- the number of items, the items, of which a path has at most 1,000, and the script
abbrev pub witness_weight : List Stated → ℕ → ℕ → ℕ → ℕ
witness_weight facts arity script signature =
    compact_size (min arity MAX_STACK_SIZE + 1) + items_weight facts (min arity MAX_STACK_SIZE) signature + item_weight script
