-- The key among those that are left is that among all.
use Rattle.std.proofs.Common.{◌≡◌, drop}
use Rattle.enforce_c.specs.Prepared.{key_with}
use Rattle.enforce_c.proofs.preparing.key_with.Given as goal

abbrev pub invariant-loop-key : goal.invariant-loop-key
invariant-loop-key l = key_with l.hash (drop l.key-index l.keys) ≡ key_with l.hash l.keys
