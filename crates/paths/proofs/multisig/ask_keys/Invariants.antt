use Rattle.std.proofs.Common.{◌≡◌, drop}
use Rattle.paths.specs.HoleRules.{ask_keys as keys_asked}
use Rattle.paths.specs.Doing.{IsNear}
use Rattle.paths.proofs.multisig.ask_keys.Given as goal

abbrev pub invariant-loop-key : goal.invariant-loop-key
invariant-loop-key l = record {
  same : keys_asked l.keys l.fn.state ≡ keys_asked (drop l.key-index l.keys) l.state;
  near : IsNear 0 l.fn.state l.state;
}
