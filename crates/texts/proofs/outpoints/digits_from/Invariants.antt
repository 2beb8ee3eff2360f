use Rattle.std.proofs.Common.{◌≡◌, ◌<◌, ◌^◌, drop}
use Rattle.texts.specs.Outpoints.{digits_from}
use Rattle.texts.proofs.outpoints.digits_from.Given as goal

abbrev pub invariant-loop-digit : goal.invariant-loop-digit
invariant-loop-digit l = (digits_from l.number (drop l.digit-index l.digits) ≡ digits_from 0 l.digits) × (l.number < 2 ^ 32)
