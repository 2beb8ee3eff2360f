-- Limits at which no other fact stands: of a relative lock, of a grant's number, of how many claims are released together, and of what a reorganisation takes off.
use Rattle.std.proofs.Common.{◌≡◌, ℕ, ◌+◌, ◌^◌, true, false, List, [], ◌∷◌, map, Some, None, refl, arith}
use Rattle.tx.specs.declared.input.OutPoint.{OutPoint}
use Rattle.tx.specs.Fields.{Transaction}
use Rattle.tx.specs.Spelling.{number}
use Rattle.chain.specs.Blocks.{Standing}
use Rattle.mempool.specs.declared.errors.ReorgError.TheVariants.{TooDeep, NoSuchTx}
use Rattle.mempool.specs.Reorganising.{reorg_refusal}
use Rattle.safety.specs.Spending.{Waits}
use Rattle.safety.specs.Takers.{IsHashedForGrant}
use Rattle.world.specs.Releasing.{is_no_count}
use Rattle.law_examples.proofs.Samples.{empty}

-- the low 16 bits count blocks, and bit 16 counts none (BIP 68)
-- no: Waits
bit_of_no_block : (t : Transaction) (o : OutPoint) → Waits t (record { outpoint = o; sequence = 2 ^ 16 + 143; witness = [] }) 144 → ⊥
bit_of_no_block t o w = let l = w.enough in omega (arith, l)

-- a grant's number has eight bytes
-- yes: IsHashedForGrant
far_grant : IsHashedForGrant (2 ^ 32 + 258) (0x67 ∷ 0x72 ∷ 0x61 ∷ 0x6e ∷ 0x74 ∷ 2 ∷ 1 ∷ 0 ∷ 0 ∷ 1 ∷ 0 ∷ 0 ∷ 0 ∷ [])
unfolding number
far_grant = refl

-- 1 to 4,000 claims are released together, of those that were taken
counts : map (λ (k : ℕ). is_no_count k 4001) (0 ∷ 1 ∷ 4000 ∷ 4001 ∷ []) ≡ true ∷ false ∷ false ∷ true ∷ []
counts = refl

taken : (is_no_count 5 5 ≡ false) × (is_no_count 5 4 ≡ true)
taken = (refl, refl)

-- three blocks, the newest of which has these transactions
abbrev three : List Transaction → Standing
three ts = record { blocks = record { transactions = ts; granted = [] } ∷ empty ∷ empty ∷ []; greatest = 2 }

-- no block, and the first one too, which is told before transactions that are not there; then as many transactions as there are, and one more
reorganisations : (t : Transaction) → (reorg_refusal (three []) 0 0 ≡ Some TooDeep) × (reorg_refusal (three []) 3 1 ≡ Some TooDeep) × (reorg_refusal (three []) 1 0 ≡ None) × (reorg_refusal (three []) 1 1 ≡ Some NoSuchTx)
    × (reorg_refusal (three (t ∷ [])) 1 1 ≡ None) × (reorg_refusal (three (t ∷ [])) 1 2 ≡ Some NoSuchTx)
reorganisations t = (refl, refl, refl, refl, refl, refl)
