use Rattle.std.proofs.Common.{◌≡◌, ◌*◌, length, take}
use Rattle.digest.specs.Ripemd160.{digest_bytes}
use Rattle.digest.proofs.hasher.Ripemd160.finalize.Given as goal

abbrev pub invariant-words : goal.invariant-words
invariant-words l = (length l.out ≡ 20) × (take (4 * l.i) l.out ≡ digest_bytes l.h l.i)
