use Rattle.channel.specs.Tokens.{peer_tokens}
use Rattle.channel.proofs.Pairing.{standing_opened}
use Rattle.channel.proofs.pair.Pair.new.Goals as goal

pub invariant_of-result : goal.invariant_of-result
invariant_of-result c = rw (c.new.ensures.items, c.new-2.ensures.items) (standing_opened peer_tokens c.args.a c.args.b c.requires)
