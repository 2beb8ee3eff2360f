use Rattle.std.proofs.Common.{◌∙◌, sym}
use Rattle.secrets.proofs.Numbers.{trailing-fewer}
use Rattle.secrets.proofs.store.bucket_of.Goals as goal

pub returns : goal.returns
returns c = c.min.ensures ∙ sym (trailing-fewer 48 16 c.args.i)
