-- How the list of blocks grows and shrinks.
use Rattle.std.specs.Prelude.{◌≡◌, ℕ, ◌+◌, ◌-◌, max, Bool, true, false, not, ◌||◌, nat_lt, ◌==◌, List, [], ◌∷◌, length, take, drop, reverse, Option, Some, None, Result, Ok, Err}
use Rattle.std.specs.List.{list_any}
use Rattle.tx.specs.Parts.{Output}
use Rattle.tx.specs.declared.input.OutPoint.{OutPoint}
use Rattle.tx.specs.Fields.{Transaction}
use Rattle.chain.specs.declared.errors.ChainError.{ChainError}
use Rattle.chain.specs.declared.errors.ChainError.TheVariants.{TooDeep, BadProgram}
use Rattle.chain.specs.declared.errors.BlockError.{BlockError}
use Rattle.chain.specs.Blocks.{Contents, Standing, empty_block, height_of, transactions_of, grants_in, grant_outpoint}
use Rattle.sighash.specs.Programs.{is_key_hash_program, is_script_hash_program}
use Rattle.chain.specs.Refusals.{UnlessMemory}
use Rattle.chain.specs.Checks.{transaction_refusal}

-- a transaction added after those of the newest block
abbrev pub with_transaction : List Contents → Transaction → List Contents
with_transaction [] t = []
with_transaction (b ∷ older) t = record b { transactions = t ∷ b.transactions } ∷ older

-- an output granted after those of the newest block
abbrev pub with_grant : List Contents → Output → List Contents
with_grant [] o = []
with_grant (b ∷ older) o = record b { granted = o ∷ b.granted } ∷ older

-- the first refusal, with the index of its transaction
abbrev pub unless_refused : ℕ → Option ChainError → Result (List Contents) BlockError → Result (List Contents) BlockError
unless_refused index None next = next
unless_refused index (Some refusal) next = Err (record { index = index; refusal = refusal })

-- the blocks with these transactions added to the newest, one by one; the first of them has this index
abbrev pub added : ℕ → List Contents → List Transaction → Result (List Contents) BlockError
added index blocks [] = Ok blocks
added index blocks (t ∷ ts) = unless_refused index (transaction_refusal blocks t) (added (index + 1) (with_transaction blocks t) ts)

-- the blocks with a new one of these transactions, or the first refusal
abbrev pub connected : List Contents → List Transaction → Result (List Contents) BlockError
connected blocks txs = added 0 (empty_block ∷ blocks) txs

-- what a call of `connect` did
abbrev pub Connects : Standing → List Transaction → Result ℕ BlockError → Standing → Type 0
Connects old txs (Ok height) new = (connected old.blocks txs ≡ Ok new.blocks) × (height ≡ height_of new.blocks) × (new.greatest ≡ max old.greatest height)
Connects old txs (Err e) new = (new ≡ old) × UnlessMemory e.refusal (connected old.blocks txs ≡ Err e)

-- the blocks with a transaction added to the newest, where nothing refuses it
abbrev pub unless_refusal : Option ChainError → List Contents → Transaction → List Contents
unless_refusal None blocks t = with_transaction blocks t
unless_refusal (Some refusal) blocks t = blocks

-- the blocks with those of the transactions added to the newest, one by one, that pass after those added before them
abbrev pub passing_added : List Contents → List Transaction → List Contents
passing_added blocks [] = blocks
passing_added blocks (t ∷ ts) = passing_added (unless_refusal (transaction_refusal blocks t) blocks t) ts

-- the refusal of each of them, in its turn
abbrev pub refusals_of : List Contents → List Transaction → List (Option ChainError)
refusals_of blocks [] = []
refusals_of blocks (t ∷ ts) = transaction_refusal blocks t ∷ refusals_of (unless_refusal (transaction_refusal blocks t) blocks t) ts

-- what a call of `connect_some` did, where it had the memory: a new block of those that pass, and each one's refusal
abbrev pub ConnectsSome : Standing → List Transaction → List (Option ChainError) → Standing → Type 0
ConnectsSome old txs refusals new =
    (new.blocks ≡ passing_added (empty_block ∷ old.blocks) txs) × (refusals ≡ refusals_of (empty_block ∷ old.blocks) txs) × (new.greatest ≡ max old.greatest (height_of new.blocks))

-- whether outputs were granted in the block
abbrev pub has_grant : Contents → Bool
has_grant b = not (length b.granted == 0)

-- this number of blocks cannot be taken off: fewer are above the first, the height would fall more than 6 below the greatest,
-- or one of them holds a grant
abbrev pub is_too_deep : Standing → ℕ → Bool
is_too_deep s k = nat_lt (height_of s.blocks) k || nat_lt (height_of s.blocks - k + 6) s.greatest || list_any has_grant (take k s.blocks)

-- what a call of `disconnect` did: it gives the transactions of the blocks taken off in the order of the chain
abbrev pub Disconnects : Standing → ℕ → Result (List Transaction) ChainError → Standing → Type 0
Disconnects old k (Ok txs) new = (is_too_deep old k ≡ false) × (txs ≡ reverse (transactions_of (take k old.blocks))) × (new ≡ record old { blocks = drop k old.blocks })
Disconnects old k (Err e) new = (new ≡ old) × UnlessMemory e ((is_too_deep old k ≡ true) × (e ≡ TooDeep))

-- the program is of one of the two forms of version 0
abbrev pub is_program : List ℕ → Bool
is_program program = is_key_hash_program program || is_script_hash_program program

-- what a call of `grant` did
abbrev pub Grants : Standing → Output → Result OutPoint ChainError → Standing → Type 0
Grants old output (Ok outpoint) new =
    (is_program output.script ≡ true) × (outpoint ≡ grant_outpoint (grants_in old.blocks)) × (new ≡ record old { blocks = with_grant old.blocks output })
Grants old output (Err e) new = (new ≡ old) × UnlessMemory e ((is_program output.script ≡ false) × (e ≡ BadProgram))
