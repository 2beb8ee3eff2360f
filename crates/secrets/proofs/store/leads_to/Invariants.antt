use Rattle.std.proofs.Common.{◌≡◌, ℕ, ◌<◌, Some, slice_get}
use Rattle.sha2.specs.Sha256.{sha256}
use Rattle.secrets.specs.Derivation.{flipped}
use Rattle.secrets.proofs.store.leads_to.Given as goal

-- each bucket passed holds what the secret leads to
abbrev pub invariant-loop-b : goal.invariant-loop-b
invariant-loop-b l = (k : ℕ) → k < l.b → slice_get l.lowest_entries k ≡ Some (sha256 (flipped k l.secret))
