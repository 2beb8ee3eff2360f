use Rattle.channel.specs.declared.plays.PairStep.TheVariants.{Cut}
use Rattle.channel.specs.declared.plays.Outcome.TheVariants.{Done}
use Rattle.channel.specs.Connections.{Connection}
use Rattle.channel.specs.Tokens.{peer_tokens}
use Rattle.channel.proofs.Pairing.{standing_step, is_cut_step}
use Rattle.channel.proofs.pair.Pair.cut.Goals as goal

pub invariant_of-self-2 : goal.invariant_of-self-2
invariant_of-self-2 c =
    let i = c.self.inside in
    let w : Connection = record { a = i.a; b = i.b; to_a = i.to_a.items; to_b = i.to_b.items } in
    let v : Connection = record { a = c.drop_uncommitted.new.self; b = c.drop_uncommitted-2.new.self; to_a = c.say.new.queue.items; to_b = c.say-2.new.queue.items } in
    let said_a = c.hello-from_a.result in
    let said_b = c.hello-from_b.result in
    let is = is_cut_step peer_tokens w v said_a said_b c.drop_uncommitted.ensures c.drop_uncommitted-2.ensures c.hello-from_a.ensures c.hello-from_b.ensures c.say.ensures c.say-2.ensures in
    standing_step peer_tokens w Cut Done v is c.self.invariant
