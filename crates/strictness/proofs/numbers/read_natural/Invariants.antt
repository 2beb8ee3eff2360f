use Rattle.std.proofs.Common.{◌≡◌, ◌^◌, ◌<◌, take}
use Rattle.script.specs.Number.{unsigned}
use Rattle.strictness.proofs.numbers.read_natural.Given as goal

abbrev pub invariant-loop-byte : goal.invariant-loop-byte
invariant-loop-byte l = (l.value ≡ unsigned (take l.byte-index l.bytes)) × (l.scale ≡ 256 ^ l.byte-index) × (l.value < l.scale)
