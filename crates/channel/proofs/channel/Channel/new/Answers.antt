use Rattle.std.proofs.Common.{rules}
use Rattle.channel.proofs.Kept.{kept_opened}
use Rattle.channel.proofs.channel.Channel.new.Goals as goal

pub invariant_of-result : goal.invariant_of-result
invariant_of-result c =
    kept_opened _ c.args.terms c.args.side c.args.signer c.in_ok-signer.signer c.in_ok-first.first.own.tokens.items c.args.first_point c.args.next_point (search rules) c.in_ok-signer.ensures.seed c.in_ok-signer.ensures.points c.in_ok-signer.ensures.secrets c.in_ok-first.ensures.tokens c.requires
