use Rattle.std.proofs.Common.{sym, subst}
use Rattle.keys.specs.Rights.{MaySign}
use Rattle.channel.proofs.tokens.sign_commitment.Goals as goal

pub sign_one-requires : goal.sign_one-requires
sign_one-requires c = subst (λ k. MaySign c.args.signer.now k) (sym c.in-Ok.ensures.funding_key) c.requires.funding
