use Rattle.std.proofs.Common.{◌++◌, ◌∷◌, [], subst, arith, rules}
use Rattle.channel.specs.Standing.{IsStanding}
use Rattle.channel.specs.Tokens.{peer_tokens}
use Rattle.channel.proofs.Pairing.{agrees_throughout, are_delivered, left_next, left_last, pushed}
use Rattle.channel.proofs.pair.Pair.play.Goals as goal

pub returns-in-Err-clause-agreed : goal.returns-in-Err-clause-agreed
returns-in-Err-clause-agreed c = agrees_throughout peer_tokens c.args.self.now c.args.steps.now (subst (IsStanding peer_tokens) c.self.view_is c.self.invariant)

pub returns-clause-agreed : goal.returns-clause-agreed
returns-clause-agreed c = agrees_throughout peer_tokens c.args.self.now c.args.steps.now (subst (IsStanding peer_tokens) c.self.view_is c.self.invariant)

pub loop-next-preserved : goal.loop-next-preserved
loop-next-preserved c =
    let l = c.loop-next in
    let outcome = c.step-outcome.result in
    record {
      count = search rules;
      room = search rules;
      left = left_next peer_tokens c.args.self.now c.args.steps.now l.outcomes.items c.push.new.self.items l.self c.step-outcome.new.self l.next-index _ outcome c.loop-next-test.true c.step-outcome.ensures
          (pushed c.push.result c.unwrap.result c.push.new.self.items (l.outcomes.items ++ outcome ∷ []) l.outcomes.items c.unwrap.ensures c.push.ensures.items) l.invariant.left;
    }

pub returns-clause-played : goal.returns-clause-played
returns-clause-played c = left_last peer_tokens c.args.self.now c.args.steps.now c.loop-next.outcomes.items c.loop-next.self c.loop-next.next-index (omega arith) c.loop-next.invariant.left

pub returns-clause-delivered : goal.returns-clause-delivered
returns-clause-delivered c =
    let l = c.loop-next in
    are_delivered peer_tokens c.args.self.now c.args.steps.now l.outcomes.items l.self (subst (IsStanding peer_tokens) c.self.view_is c.self.invariant)
    (left_last peer_tokens c.args.self.now c.args.steps.now l.outcomes.items l.self l.next-index (omega arith) l.invariant.left)
