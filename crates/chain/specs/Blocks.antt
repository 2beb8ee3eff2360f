-- The chain as the list of its blocks, the newest first. The transactions of a block, and the outputs that were granted in it, are
-- also listed newest first.
use Rattle.std.specs.Prelude.{ℕ, ◌+◌, ◌-◌, ◌%◌, ◌^◌, Bool, not, List, [], ◌∷◌, ◌++◌, length, filter, sum_by, Option, option_map, unwrap_or}
use Rattle.std.specs.List.{find, list_any, flat_map}
use Rattle.std.specs.Str.{bytes_eq}
use Rattle.digest.specs.Hash.{sha256d}
use Rattle.tx.specs.declared.input.OutPoint.{OutPoint}
use Rattle.tx.specs.declared.input.TxIn.{TxIn}
use Rattle.tx.specs.Parts.{Output}
use Rattle.tx.specs.Fields.{Transaction, same_outpoint}
use Rattle.tx.specs.Spelling.{number, transaction_id}

-- what a block holds: its transactions, and the outputs that were granted after them
pub record Contents : Type 0 where
  pub transactions : List Transaction
  pub granted : List Output

-- the list of blocks, and the greatest height that it ever had
pub record Standing : Type 0 where
  pub blocks : List Contents
  pub greatest : ℕ

-- a block with no transaction and no grant
abbrev pub empty_block : Contents
empty_block = record { transactions = []; granted = [] }

-- the height of the newest block
abbrev pub height_of : List Contents → ℕ
height_of blocks = length blocks - 1

-- the id of the grant after g earlier ones: SHA-256 twice of the ASCII bytes "grant" and g in eight bytes, little-endian
unfoldable pub grant_id : ℕ → List ℕ
grant_id g = sha256d ((0x67 ∷ 0x72 ∷ 0x61 ∷ 0x6e ∷ 0x74 ∷ []) ++ number 8 (g % 2 ^ 64))

abbrev pub grant_outpoint : ℕ → OutPoint
grant_outpoint g = record { txid = grant_id g; index = 0 }

-- an output on the chain: its outpoint, the output, and the height of its block
pub record Creation : Type 0 where
  pub outpoint : OutPoint
  pub output : Output
  pub height : ℕ

-- the outputs of a transaction with this id, of which the first has this index
abbrev pub creations_from : List ℕ → ℕ → ℕ → List Output → List Creation
creations_from id height index [] = []
creations_from id height index (o ∷ os) =
    record { outpoint = record { txid = id; index = index }; output = o; height = height }
    ∷ creations_from id height (index + 1) os

abbrev pub created_by : ℕ → Transaction → List Creation
created_by height t = creations_from (transaction_id t) height 0 t.outputs

abbrev pub created_by_all : ℕ → List Transaction → List Creation
created_by_all height [] = []
created_by_all height (t ∷ ts) = created_by_all height ts ++ created_by height t

-- the outputs granted at a height, after this number of earlier grants
abbrev pub granted_at : ℕ → ℕ → List Output → List Creation
granted_at height before [] = []
granted_at height before (o ∷ os) = granted_at height before os
    ++ record { outpoint = grant_outpoint (before + length os); output = o; height = height } ∷ []

-- how many outputs were granted
abbrev pub grants_in : List Contents → ℕ
grants_in [] = 0
grants_in (b ∷ older) = grants_in older + length b.granted

-- the outputs that transactions and grants created, in the order of the chain
abbrev pub created_of : List Contents → List Creation
created_of [] = []
created_of (b ∷ older) = created_of older ++ (created_by_all (length older) b.transactions
    ++ granted_at (length older) (grants_in older) b.granted)

-- an input of the transaction spends the outpoint
abbrev pub names : OutPoint → Transaction → Bool
names o t = list_any (λ i. same_outpoint i.outpoint o) t.inputs

-- an input on the chain spends the outpoint
abbrev pub is_named : List Contents → OutPoint → Bool
is_named blocks o = list_any (λ b. list_any (names o) b.transactions) blocks

-- the outputs that were created, less those that an input spends
abbrev pub unspent_of : List Contents → List Creation
unspent_of blocks = filter (λ c. not (is_named blocks c.outpoint)) (created_of blocks)

-- the first output that was created at an outpoint
abbrev pub created_at : List Contents → OutPoint → Option Creation
created_at blocks o = find (λ c. same_outpoint c.outpoint o) (created_of blocks)

-- an output as a spender finds it
pub record Coin : Type 0 where
  pub output : Output
  pub height : ℕ
  pub spent : Bool

abbrev pub coin_at : List Contents → OutPoint → Option Coin
coin_at blocks o =
    option_map (λ c. record { output = c.output; height = c.height; spent = is_named blocks o })
    (created_at blocks o)

-- a transaction with this id is on the chain
abbrev pub has_id : List Contents → List ℕ → Bool
has_id blocks id = list_any (λ b. list_any (λ t. bytes_eq (transaction_id t) id) b.transactions) blocks

-- the transactions, the newest first
abbrev pub transactions_of : List Contents → List Transaction
transactions_of blocks = flat_map (λ b. b.transactions) blocks

-- the value in satoshis of the output at an outpoint, 0 where there is none
abbrev pub value_at : List Contents → OutPoint → ℕ
value_at blocks o = unwrap_or (option_map (λ c. c.output.value) (coin_at blocks o)) 0

-- the sum of the values that inputs spend, and that of outputs, in satoshis
abbrev pub paid_in : List Contents → List TxIn → ℕ
paid_in blocks inputs = sum_by (λ i. value_at blocks i.outpoint) inputs

abbrev pub paid_out : List Output → ℕ
paid_out outputs = sum_by (λ o. o.value) outputs

-- the fee of a transaction in satoshis: what its inputs bring less what its outputs pay
abbrev pub fee_of : List Contents → Transaction → ℕ
fee_of blocks t = paid_in blocks t.inputs - paid_out t.outputs

abbrev pub fees_of : List Contents → ℕ
fees_of blocks = sum_by (fee_of blocks) (transactions_of blocks)

-- the satoshis that were granted
abbrev pub granted_of : List Contents → ℕ
granted_of blocks = sum_by (λ b. paid_out b.granted) blocks
