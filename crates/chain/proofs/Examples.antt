-- The definitions on known values.
use Rattle.std.proofs.Common.{◌≡◌, List, ℕ, [], ◌∷◌, true, false, Option, Some, None, Ok, max, refl, ap, ◌∙◌, replicate, drop}
use Rattle.tx.specs.declared.input.OutPoint.{OutPoint}
use Rattle.tx.specs.declared.input.TxIn.{TxIn}
use Rattle.tx.specs.Parts.{Output}
use Rattle.tx.specs.Fields.{Transaction}
use Rattle.chain.specs.declared.errors.ChainError.{ChainError}
use Rattle.chain.specs.declared.errors.ChainError.TheVariants.{Spent, Unknown, NotFinal, TooYoung, Twice}
use Rattle.chain.specs.Blocks.{Contents, Standing, empty_block, height_of, granted_at, grants_in, grant_outpoint, creations_from, is_named, paid_out, granted_of}
use Rattle.chain.specs.Locks.{is_final, is_old_enough}
use Rattle.chain.specs.Checks.{coin_refusal, names_twice, transaction_refusal}
use Rattle.chain.specs.Connecting.{Connects, ConnectsSome, Disconnects, is_too_deep, is_program}

abbrev first : OutPoint
first = record { txid = replicate 32 7; index = 1 }

abbrev second : OutPoint
second = record { txid = replicate 32 7; index = 0 }

abbrev from : OutPoint → ℕ → TxIn
from o n = record { outpoint = o; sequence = n; witness = [] }

-- a lock time of 500 is reached in block 501 and not in block 500. Times up to 0x20ffffff count as reached in any block, those above in
-- none. No lock time counts where every input is final
lock_times : (is_final 501 500 (from first 0 ∷ []) ≡ true)
    × (is_final 500 500 (from first 0 ∷ []) ≡ false)
    × (is_final 499999999 499999999 (from first 0 ∷ []) ≡ false)
    × (is_final 500000000 499999999 (from first 0 ∷ []) ≡ true)
    × (is_final 1 500000000 (from first 0 ∷ []) ≡ true)
    × (is_final 1 553648127 (from first 0 ∷ []) ≡ true)
    × (is_final 600000000 553648128 (from first 0 ∷ []) ≡ false)
    × (is_final 1 553648128 (from first 0xffffffff ∷ []) ≡ true)
    × (is_final 1 553648128 (from first 0xffffffff ∷ from second 0xfffffffe ∷ []) ≡ false)
    × (is_final 1 553648128 (from first 0xfffffffe ∷ from second 0xffffffff ∷ []) ≡ false)
    × (is_final 1 0 (from first 0 ∷ []) ≡ true)
lock_times = (refl, refl, refl, refl, refl, refl, refl, refl, refl, refl, refl)

-- a coin of height 100 and an age of 144: block 244 and not 243; bit 31 and versions below 2 disable the lock, and bit 22 makes it a time
ages : (is_old_enough 244 2 144 100 ≡ true)
    × (is_old_enough 243 2 144 100 ≡ false)
    × (is_old_enough 243 1 144 100 ≡ true)
    × (is_old_enough 243 0 144 100 ≡ true)
    × (is_old_enough 243 3 144 100 ≡ false)
    × (is_old_enough 243 4294967295 144 100 ≡ false)
    × (is_old_enough 100 2 0 100 ≡ true)
    × (is_old_enough 65635 2 0xffff 100 ≡ true)
    × (is_old_enough 65634 2 0xffff 100 ≡ false)
    × (is_old_enough 100 2 0x10000 100 ≡ true)
    × (is_old_enough 100 2 0x80000090 100 ≡ true)
    × (is_old_enough 100 2 0x80400000 100 ≡ true)
    × (is_old_enough 100000 2 0x400000 100 ≡ false)
    × (is_old_enough 100000 2 0x7fffffff 100 ≡ false)
    × (is_old_enough 100000 1 0x400000 100 ≡ true)
ages = (refl, refl, refl, refl, refl, refl, refl, refl, refl, refl, refl, refl, refl, refl, refl)

-- outpoints with the same id and different indices are different
repeats : (names_twice (from first 0 ∷ from second 0 ∷ []) ≡ false)
    × (names_twice (from first 0 ∷ from second 0 ∷ from first 1 ∷ []) ≡ true)
    × (names_twice (from first 0 ∷ []) ≡ false)
repeats = (refl, refl, refl)

abbrev output : ℕ → Output
output value = record { value = value; script = 0x51 ∷ [] }

abbrev spending : Transaction
spending = record { version = 2; inputs = from first 1 ∷ []; outputs = output 5 ∷ output 6 ∷ []; lock_time = 9 }

-- the order of an input's refusals
refused : (coin_refusal 9 spending (from first 1) None ≡ Some Unknown)
    × (coin_refusal 9 spending (from first 1) (Some (record { output = output 5; height = 9; spent = true })) ≡ Some Spent)
    × (coin_refusal 9 spending (from first 1) (Some (record { output = output 5; height = 9; spent = false })) ≡ Some NotFinal)
    × (coin_refusal 10 spending (from first 1) (Some (record { output = output 5; height = 10; spent = false })) ≡ Some TooYoung)
refused = (refl, refl, refl, refl)

-- a chain of three blocks with a grant in each of the first two, the newest first
abbrev three : List Contents
three = record { transactions = spending ∷ []; granted = [] }
    ∷ record { transactions = []; granted = output 20 ∷ output 10 ∷ [] }
    ∷ record { transactions = []; granted = output 1 ∷ [] } ∷ []

counted : (height_of three ≡ 2) × (grants_in three ≡ 3) × (granted_of three ≡ 31) × (paid_out spending.outputs ≡ 11)
counted = (refl, refl, refl, refl)

-- the second block's grants are the second and the third
numbered : granted_at 1 1 (output 20 ∷ output 10 ∷ []) ≡
    record { outpoint = grant_outpoint 1; output = output 10; height = 1 } ∷ record { outpoint = grant_outpoint 2; output = output 20; height = 1 } ∷ []
numbered = refl

-- outputs have the indices 0, 1, ..
indexed : creations_from (replicate 32 9) 4 0 spending.outputs ≡
    record { outpoint = record { txid = replicate 32 9; index = 0 }; output = output 5; height = 4 }
    ∷ record { outpoint = record { txid = replicate 32 9; index = 1 }; output = output 6; height = 4 } ∷ []
indexed = refl

named : (is_named three first ≡ true) × (is_named three second ≡ false) × (is_named (drop 1 three) first ≡ false)
named = (refl, refl, refl)

abbrev standing : List Contents → ℕ → Standing
standing blocks greatest = record { blocks = blocks; greatest = greatest }

-- blocks may be taken off down to the first, down to 6 below the greatest height, and down to one that holds a grant
deep : (is_too_deep (standing three 2) 0 ≡ false)
    × (is_too_deep (standing three 2) 1 ≡ false)
    × (is_too_deep (standing three 2) 2 ≡ true)
    × (is_too_deep (standing three 7) 1 ≡ false)
    × (is_too_deep (standing three 8) 1 ≡ true)
    × (is_too_deep (standing (replicate 9 empty_block) 8) 6 ≡ false)
    × (is_too_deep (standing (replicate 9 empty_block) 8) 7 ≡ true)
    × (is_too_deep (standing (replicate 3 empty_block) 2) 2 ≡ false)
    × (is_too_deep (standing (replicate 3 empty_block) 2) 3 ≡ true)
    × (is_too_deep (standing (replicate 4 empty_block) 8) 1 ≡ false)
    × (is_too_deep (standing (replicate 4 empty_block) 8) 2 ≡ true)
deep = (refl, refl, refl, refl, refl, refl, refl, refl, refl, refl, refl)

-- the greatest height ever is not that of the newest block: the chain was at height 8, is at 2, and gets its next block
greatest_stays : (s : Standing) → Connects (standing (replicate 3 empty_block) 8) [] (Ok 3) s → s.greatest ≡ 8
greatest_stays s c = c.2

greatest_grows : (s : Standing) → Connects (standing (replicate 9 empty_block) 8) [] (Ok 9) s → s.greatest ≡ 9
greatest_grows s c = c.2

greatest_of_some : (refusals : List (Option ChainError)) (s : Standing) → ConnectsSome (standing (replicate 3 empty_block) 8) [] refusals s → s.greatest ≡ 8
greatest_of_some refusals s c = c.2 ∙ ap (λ blocks. max 8 (height_of blocks)) c.0

greatest_of_taken : (txs : List Transaction) (s : Standing) → Disconnects (standing (replicate 9 empty_block) 8) 6 (Ok txs) s → s.greatest ≡ 8
greatest_of_taken txs s c = ap (λ (x : Standing). x.greatest) c.2

-- an outpoint that two inputs spend is refused as Twice, though nothing was created there; spent once it is Unknown, whatever the outputs
-- pay
in_turn : (transaction_refusal [] (record spending { inputs = from first 1 ∷ from first 2 ∷ [] }) ≡ Some Twice)
    × (transaction_refusal [] (record spending { inputs = from second 1 ∷ from first 1 ∷ from first 1 ∷ [] }) ≡ Some Twice)
    × (transaction_refusal [] spending ≡ Some Unknown)
unfolding transaction_refusal
in_turn = (refl, refl, refl)

programs : (is_program (0x00 ∷ 0x14 ∷ replicate 20 7) ≡ true) × (is_program (0x00 ∷ 0x20 ∷ replicate 32 7) ≡ true) × (is_program (0x00 ∷ 0x20 ∷ replicate 20 7) ≡ false) × (is_program [] ≡ false)
programs = (refl, refl, refl, refl)
