use Rattle.std.proofs.Common.{◌≡◌, ℕ, ◌+◌, ◌%◌, ◌^◌, drop}
use Rattle.chain.specs.Scanning.{found_in, grants_from}
use Rattle.chain.proofs.scan.find_in_grants.Given as goal

abbrev pub invariant-loop-index : goal.invariant-loop-index
invariant-loop-index l = (height g : ℕ) → l.before ≡ g % 2 ^ 64 → found_in l.outpoint (grants_from height (g + l.index) (drop l.index l.granted)) ≡ found_in l.outpoint (grants_from height g l.granted)
