use Rattle.std.proofs.Common.{◌≡◌, drop}
use Rattle.paths.specs.HoleRules.{ask_forms as forms_asked}
use Rattle.paths.specs.Doing.{IsNear}
use Rattle.paths.proofs.multisig.ask_forms.Given as goal

abbrev pub invariant-loop-slot : goal.invariant-loop-slot
invariant-loop-slot l = record {
  same : forms_asked l.slots l.fn.state ≡ forms_asked (drop l.slot-index l.slots) l.state;
  near : IsNear 0 l.fn.state l.state;
}
