use Rattle.std.proofs.Common.{sym, subst}
use Rattle.keys.specs.Rights.{MaySign}
use Rattle.channel.proofs.tokens.sign_tokens.Goals as goal

pub sign_all-requires : goal.sign_all-requires
sign_all-requires c = subst (λ k. MaySign c.args.signer.now k) (sym c.in-Ok.ensures.htlc_key) c.requires.htlc

pub sign_one-requires : goal.sign_one-requires
sign_one-requires c = subst (λ k. MaySign c.args.signer.now k) (sym c.in-Ok.ensures.funding_key) c.requires.funding
