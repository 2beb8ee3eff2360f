use Rattle.std.proofs.Common.{◌≡◌, ℕ, ◌<◌, length, slice_index, ◌*◌}
use Rattle.digest.specs.Ripemd160.{word_at}
use Rattle.digest.proofs.block.compress.Given as goal

abbrev pub invariant-load : goal.invariant-load
invariant-load l = (length l.w ≡ 16) × ((k : ℕ) → k < l.i → slice_index l.w k ≡ word_at l.block (4 * k))
