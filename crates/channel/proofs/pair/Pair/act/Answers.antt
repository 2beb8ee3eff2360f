use Rattle.std.proofs.Common.{ap}
use Rattle.terms.specs.declared.sides.Side.TheVariants.{A, B}
use Rattle.channel.specs.declared.plays.PairStep.TheVariants.{Turn}
use Rattle.channel.specs.Playing.{joining}
use Rattle.channel.specs.Tokens.{peer_tokens}
use Rattle.channel.proofs.Pairing.{standing_step, stepped}
use Rattle.channel.proofs.pair.Pair.act.Goals as goal

pub invariant_of-self : goal.invariant_of-self
invariant_of-self c =
    let i = c.self.inside in
    let t = c.turn.new in
    standing_step peer_tokens (joining A i.a i.b i.to_a.items i.to_b.items) (Turn A c.args.action.now) c.turn.result (joining A t.me i.b t.to_me.items t.to_peer.items) (c.turn.ensures A i.b) c.self.invariant

pub invariant_of-self-in-B : goal.invariant_of-self-in-B
invariant_of-self-in-B c =
    let i = c.self.inside in
    let t = c.turn-in-B.new in
    standing_step peer_tokens (joining B i.b i.a i.to_b.items i.to_a.items) (Turn B c.args.action.now) c.turn-in-B.result (joining B t.me i.a t.to_me.items t.to_peer.items) (c.turn-in-B.ensures B i.a) c.self.invariant

pub returns-in-A : goal.returns-in-A
returns-in-A c =
    let i = c.self.inside in
    let t = c.turn.new in
    stepped peer_tokens (joining A i.a i.b i.to_a.items i.to_b.items) c.args.self.now (Turn A c.args.action.now) (Turn c.args.side c.args.action.now) c.turn.result (joining A t.me i.b t.to_me.items t.to_peer.items)
    c.self.view_is (ap (λ side. Turn side c.args.action.now) c.in-A.is) (c.turn.ensures A i.b)

pub returns-in-B : goal.returns-in-B
returns-in-B c =
    let i = c.self.inside in
    let t = c.turn-in-B.new in
    stepped peer_tokens (joining B i.b i.a i.to_b.items i.to_a.items) c.args.self.now (Turn B c.args.action.now) (Turn c.args.side c.args.action.now) c.turn-in-B.result (joining B t.me i.a t.to_me.items t.to_peer.items)
    c.self.view_is (ap (λ side. Turn side c.args.action.now) c.in-B.is) (c.turn-in-B.ensures B i.a)
