-- Blocks that are replaced are above the first.
use Rattle.std.proofs.Common.{◌≡◌, ℕ, ◌-◌, ◌+◌, ◌<◌, ◌==◌, ◌||◌, Bool, true, false, length, take, Option, Some, None, refl, arith}
use Rattle.std.specs.Prelude.{nat_lt, if◌then◌else◌}
use Rattle.std.specs.List.{list_any}
use Rattle.std.proofs.lemmas.Bool.Decides.{nat_tests}
use Rattle.chain.specs.Blocks.{Standing, height_of, transactions_of}
use Rattle.chain.specs.Connecting.{has_grant}
use Rattle.mempool.specs.declared.errors.ReorgError.{ReorgError}
use Rattle.mempool.specs.declared.errors.ReorgError.TheVariants.{TooDeep, NoSuchTx}
use Rattle.mempool.specs.Reorganising.{reorg_refusal}

below : (n k : ℕ) → ((k == 0) ≡ false) → nat_lt (n - 1) k ≡ false → k < n
below n k some above = grind (arith, nat_tests)

pub above_first : (s : Standing) (k forgotten : ℕ) → reorg_refusal s k forgotten ≡ None → k < length s.blocks
above_first s k forgotten none =
    by (k == 0) (nat_lt (height_of s.blocks) k) (nat_lt (height_of s.blocks - k + 6) s.greatest) (list_any has_grant (take k s.blocks))
    (if nat_lt (length (transactions_of (take k s.blocks))) forgotten then Some NoSuchTx else None) refl refl none
  where
    by : (z a b c : Bool) (later : Option ReorgError) → (k == 0) ≡ z → nat_lt (height_of s.blocks) k ≡ a → (if z || ((a || b) || c) then Some TooDeep else later) ≡ None → k < length s.blocks
    by true a b c later zero above e = absurd cc
    by false true b c later zero above e = absurd cc
    by false false b c later zero above e = below (length s.blocks) k zero above
