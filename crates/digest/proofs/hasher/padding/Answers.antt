use Rattle.std.proofs.Common.{◌-◌, ◌%◌, arith}
use Rattle.digest.proofs.Absorbing.{padding-take}
use Rattle.digest.proofs.hasher.padding.Goals as goal

pub returns : goal.returns
returns c = padding-take 0x80 0 ((119 - c.args.used) % 64) (omega arith)
