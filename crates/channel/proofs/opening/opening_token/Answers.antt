use Rattle.std.proofs.Common.{ap, ◌∙◌}
use Rattle.channel.specs.declared.commitments.CommitmentState.{CommitmentState}
use Rattle.channel.proofs.SignRights.{may_sign_first}
use Rattle.channel.proofs.opening.opening_token.Goals as goal

pub sign_commitment-requires-clause-funding : goal.sign_commitment-requires-clause-funding
sign_commitment-requires-clause-funding c =
    may_sign_first c.args.terms.now c.args.side c.args.signer.now c.in-Ok.first (ap (λ (k : CommitmentState). k.owner) c.in-Ok.ensures.ok ∙ c.other.ensures) c.requires
