-- Heights: a delay that is over and one that is not, a lock time and an age that are reached or not, and the coin that they are counted from.
use Rattle.std.proofs.Common.{◌≡◌, ℕ, true, false, List, [], ◌∷◌, length, Some, sym, ap, ◌∙◌, refl, arith}
use Rattle.std.proofs.lemmas.Bool.{true≢false, false≢true}
use Rattle.std.proofs.lemmas.Option.{same_Some}
use Rattle.std.proofs.lemmas.Slice.Eq.{bytes_eq-Decides}
use Rattle.tx.specs.declared.input.TxIn.{TxIn}
use Rattle.tx.specs.Parts.{Output}
use Rattle.tx.specs.Fields.{Transaction}
use Rattle.chain.specs.Blocks.{Contents as Block, Coin, grant_id, grant_outpoint, coin_at}
use Rattle.chain.specs.Locks.{IsReached}
use Rattle.paths.specs.Listing.{CheckedScript}
use Rattle.forms.specs.Forms.{to_local_form, key_hash_form}
use Rattle.commit.specs.Commitments.{Contents}
use Rattle.penalty.specs.Claimable.{Claimable}
use Rattle.safety.specs.Spending.{IsLate, HasWaited}

-- ---- a delay of 144 blocks, from a block of height 100 on

module _ (c : Contents) (delay_blocks : c.delay_blocks ≡ 144) (o : Claimable) where
  -- yes: IsLate
  pub late : IsLate c 100 244
  late = omega (arith, delay_blocks)

  -- no: IsLate
  early : IsLate c 100 243 → ⊥
  early l = omega (arith, delay_blocks, l)

  -- yes: HasWaited
  waited : o.form ≡ to_local_form c.keys.revocation c.delay_blocks c.keys.delayed → HasWaited c o 100 244
  waited e = record { form = e; late = omega (arith, delay_blocks) }

  -- no: HasWaited
  hurried : HasWaited c o 100 243 → ⊥
  hurried h = let l = h.late in omega (arith, delay_blocks, l)

  -- no: HasWaited
  other_form : (hash : List ℕ) → o.form ≡ key_hash_form hash → HasWaited c o 100 244 → ⊥
  other_form hash e h = let f : 5 ≡ 9 = ap (λ (x : CheckedScript). length x.ops) (sym e ∙ h.form) in omega (arith, f)

-- ---- an output that was granted in the block of height 2, an age of 3 blocks, and lock times

module _ (out : Output) (witness : List (List ℕ)) where
  abbrev empty : Block
  empty = record { transactions = []; granted = [] }

  abbrev blocks : List Block
  blocks = record { transactions = []; granted = out ∷ [] } ∷ empty ∷ empty ∷ []

  abbrev coin_from : ℕ → Coin
  coin_from height = record { output = out; height = height; spent = false }

  abbrev input_with : ℕ → TxIn
  input_with sequence = record { outpoint = grant_outpoint 0; sequence = sequence; witness = witness }

  abbrev spending : ℕ → ℕ → Transaction
  spending sequence lock_time = record { version = 2; inputs = input_with sequence ∷ []; outputs = []; lock_time = lock_time }

  there : coin_at blocks (grant_outpoint 0) ≡ Some (coin_from 2)
  there = rw ((bytes_eq-Decides (grant_id 0) (grant_id 0)).1 refl) refl

  -- yes: IsReached
  reached : IsReached blocks 5 (spending 3 4) (input_with 3) (coin_from 2)
  reached = record { found = there; unspent = refl; final = refl; old_enough = refl }

  -- no: IsReached
  too_young : IsReached blocks 4 (spending 3 3) (input_with 3) (coin_from 2) → ⊥
  too_young r = false≢true r.old_enough

  -- no: IsReached
  not_final : IsReached blocks 5 (spending 3 5) (input_with 3) (coin_from 2) → ⊥
  not_final r = false≢true r.final

  -- no: IsReached
  is_spent : IsReached blocks 5 (spending 3 4) (input_with 3) (record { output = out; height = 2; spent = true }) → ⊥
  is_spent r = true≢false r.unspent

  -- no: IsReached
  other_coin : IsReached blocks 5 (spending 3 4) (input_with 3) (coin_from 1) → ⊥
  other_coin r = let f : 2 ≡ 1 = ap (λ (x : Coin). x.height) (same_Some (coin_from 2) (coin_from 1) (sym there ∙ r.found)) in omega (arith, f)
