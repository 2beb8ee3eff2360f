use Rattle.std.proofs.Common.{length, ◌-◌, ◌≡◌, ◌<◌, ◌≤◌, ℕ, slice_get, Some, true}
use Rattle.book.proofs.flags.first_unset.Given as goal

abbrev pub invariant-loop-number : goal.invariant-loop-number
invariant-loop-number l =
    (l.from ≤ l.number) × (l.number ≤ length l.flags) × ((n : ℕ) → l.from ≤ n → n < l.number → slice_get l.flags n ≡ Some true)

abbrev pub decreases-loop-number : goal.decreases-loop-number
decreases-loop-number l = length l.flags - l.number
