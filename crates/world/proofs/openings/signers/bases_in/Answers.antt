use Rattle.std.proofs.Common.{ap, ◌∙◌, subst}
use Rattle.keys.specs.Rights.{Rights}
use Rattle.terms.specs.Bases.{IsSeedOf}
use Rattle.book.proofs.SameKeys.{same_bases}
use Rattle.world.specs.Opening.{channel_seed}
use Rattle.world.proofs.openings.signers.bases_in.Goals as goal

pub returns : goal.returns
returns c =
    let seed = ap (λ (r : Rights). r.seed) c.new-signer.ensures ∙ c.channel_seed.ensures in
    same_bases (channel_seed c.args.seed.now c.args.channel) c.of.result (subst (λ s. IsSeedOf s c.of.result) seed c.of.ensures)
