-- Worlds by their lists: two histories, and a chain.
use Rattle.std.proofs.Common.{List, []}
use Rattle.chain.specs.Blocks.{Contents as Block}
use Rattle.book.specs.declared.calls.Entry.{Entry}
use Rattle.world.specs.Worlds.{World, Node}

abbrev pub nobody : Node
nobody = record { history = []; lines = []; read = 0; learnt = []; jobs = []; taken = [] }

abbrev pub empty : Block
empty = record { transactions = []; granted = [] }

abbrev pub world_of : List Entry → List Entry → List Block → World
world_of of_a of_b blocks = record { a = record nobody { history = of_a }; b = record nobody { history = of_b }; chain = record { blocks = blocks; greatest = 9 }; pool = []; released = [] }

-- the type of what a function takes: types that a crate keeps to itself are had by the words that speak of them
abbrev pub argument_of : {X : Type 0} {Y : Type 1} → (X → Y) → Type 0
argument_of {X} {Y} f = X
