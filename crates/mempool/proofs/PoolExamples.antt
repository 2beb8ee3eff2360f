-- The order of a pool, worked out by hand from what its blocks are said to take and to leave.
use Rattle.std.proofs.Common.{◌≡◌, true, false, map, List, [], ◌∷◌, Some, None, refl}
use Rattle.tx.specs.Fields.{Transaction}
use Rattle.chain.specs.declared.errors.ChainError.TheVariants.{NoMemory, Spent, Unknown, NotFinal, TooYoung, Script, BadProgram, OutputsExceed, Twice, TooDeep}
use Rattle.chain.specs.Blocks.{Contents}
use Rattle.mempool.specs.Mining.{waits, is_taken, still_waiting, kept_of, is_on, with_fillings, pool_after}

-- what a later block can take waits
waiting : (cause : _) → map waits (None ∷ map Some (NoMemory ∷ Spent ∷ Unknown ∷ NotFinal ∷ TooYoung ∷ Script cause 7 ∷ BadProgram ∷ OutputsExceed ∷ Twice ∷ TooDeep ∷ []))
    ≡ false ∷ false ∷ false ∷ true ∷ true ∷ true ∷ false ∷ false ∷ false ∷ false ∷ false ∷ []
waiting cause = refl

taken : map is_taken (None ∷ Some Unknown ∷ Some TooDeep ∷ []) ≡ true ∷ false ∷ false ∷ []
taken = refl

module _ (t1 t2 t3 t4 p q f g : Transaction) where
  left : still_waiting (t1 ∷ t2 ∷ t3 ∷ t4 ∷ []) (Some Unknown ∷ None ∷ Some Spent ∷ Some NotFinal ∷ []) ≡ t1 ∷ t4 ∷ []
  left = refl

  -- two blocks above the first, with two transactions each; in a block the newest stands first
  abbrev with_transactions : List Transaction → Contents
  with_transactions ts = record { transactions = ts; granted = [] }

  abbrev blocks : List Contents
  blocks = with_transactions (t4 ∷ t3 ∷ []) ∷ with_transactions (t2 ∷ t1 ∷ []) ∷ with_transactions [] ∷ []

  -- the oldest first, and the newest are forgotten
  kept : (kept_of 2 0 blocks ≡ t1 ∷ t2 ∷ t3 ∷ t4 ∷ []) × (kept_of 2 1 blocks ≡ t1 ∷ t2 ∷ t3 ∷ []) × (kept_of 1 0 blocks ≡ t3 ∷ t4 ∷ []) × (kept_of 1 2 blocks ≡ [])
  kept = (refl, refl, refl, refl)

  -- those that were released stand last, in the order in which they were, but for what is on the chain or waits
  fillings : is_on blocks (p ∷ q ∷ []) f ≡ false → is_on blocks (p ∷ q ∷ []) t1 ≡ true → is_on blocks (p ∷ q ∷ []) g ≡ false
      → with_fillings blocks (p ∷ q ∷ []) (f ∷ t1 ∷ g ∷ []) ≡ p ∷ q ∷ f ∷ g ∷ []
  fillings e h k = rw (e, h, k) refl

  -- what was taken off comes before the old pool, and what was released and forgotten comes back after it
  after : is_on (with_transactions [] ∷ []) (t1 ∷ t2 ∷ p ∷ q ∷ []) t2 ≡ true → is_on (with_transactions [] ∷ []) (t1 ∷ t2 ∷ p ∷ q ∷ []) t3 ≡ false
      → is_on (with_transactions [] ∷ []) (t1 ∷ t2 ∷ p ∷ q ∷ []) t4 ≡ false
      → pool_after 2 2 blocks (p ∷ q ∷ []) (t2 ∷ t4 ∷ t3 ∷ []) ≡ t1 ∷ t2 ∷ p ∷ q ∷ t4 ∷ t3 ∷ []
  after e h k = rw (e, h, k) refl
