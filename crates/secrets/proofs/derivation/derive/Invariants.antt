use Rattle.std.proofs.Common.{◌≡◌}
use Rattle.secrets.specs.Derivation.{derived_secret}
use Rattle.secrets.proofs.derivation.derive.Given as goal

-- what is left to derive from here gives the whole
abbrev pub invariant-loop-b : goal.invariant-loop-b
invariant-loop-b l = derived_secret l.derived l.b l.i ≡ derived_secret l.secret l.bits l.i
