use Rattle.std.proofs.Common.{arith}
use Rattle.strictness.proofs.Steps.{first_copied}
use Rattle.strictness.proofs.entries.Bytes.new.Goals as goal

pub returns : goal.returns
returns c = first_copied c.args.item.now c.copy_from_slice.new.self _ c.min-len.result _ c.min-len.ensures c.copy_from_slice.ensures.after (omega arith)
