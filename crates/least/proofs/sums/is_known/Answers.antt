use Rattle.std.proofs.Common.{ap, ◌∙◌}
use Rattle.std.specs.Option.{is_some}
use Rattle.std.specs.Str.{bytes_eq}
use Rattle.sha2.specs.Sha256.{sha256}
use Rattle.least.proofs.Known.{found}
use Rattle.least.proofs.sums.is_known.Goals as goal

pub returns : goal.returns
returns c = c.is_some.ensures ∙ ap is_some c.first_of.ensures ∙ found (λ x. bytes_eq (sha256 x) c.args.htlc.now.hash) c.args.known.now
