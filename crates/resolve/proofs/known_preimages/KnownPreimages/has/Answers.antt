use Rattle.std.proofs.Common.{ap, ◌∙◌}
use Rattle.std.specs.Option.{is_some}
use Rattle.resolve.proofs.Knowing.{found_is_known}
use Rattle.resolve.proofs.known_preimages.KnownPreimages.has.Goals as goal

pub returns : goal.returns
returns c = c.is_some.ensures ∙ ap is_some c.first_of.ensures ∙ found_is_known c.args.self.now c.args.hash.now
