use Rattle.std.proofs.Common.{◌-◌, ◌∙◌, sym, refl, arith}
use Rattle.channel.proofs.Saying.{before_some}
use Rattle.channel.proofs.channel.resending.secret_before.Goals as goal

pub returns-else-next_revocation-eq0 : goal.returns-else-next_revocation-eq0
returns-else-next_revocation-eq0 c = c.own_secret.ensures ∙ sym (before_some c.args.signer.now.seed c.args.next_revocation (c.args.next_revocation - 1) (omega arith) refl)
