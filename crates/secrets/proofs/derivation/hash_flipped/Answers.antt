use Rattle.std.proofs.Common.{◌∙◌, ap}
use Rattle.sha2.specs.Sha256.{sha256}
use Rattle.secrets.proofs.Deriving.{flipped-is}
use Rattle.secrets.proofs.derivation.hash_flipped.Goals as goal

pub returns : goal.returns
returns c = c.sha256.ensures ∙ ap sha256 (flipped-is c.args.secret.now c.args.b)
