use Rattle.std.proofs.Common.{◌++◌, ◌∷◌, [], arith, rules}
use Rattle.chain.proofs.Replaying.{next_replayed, pushed, on_err, none_made, made_before}
use Rattle.chain.proofs.commands.replay_commands.Goals as goal

pub loop-command-preserved : goal.loop-command-preserved
loop-command-preserved g c =
    let standing = g.C.Coins.standing in
    let l = c.loop-command in
    let answer = c.in_ok-answer.answer in
    record {
      count = search rules;
      room = search rules;
      replayed = next_replayed (standing c.args.chain.now) (standing l.chain) (standing c.make_call.new.chain) c.args.commands.now l.command-index c.command-item.result l.answers.items c.push.new.self.items answer c.command-item.is (omega arith)
          (pushed c.push.result c.unwrap.result c.push.new.self.items (l.answers.items ++ answer ∷ []) l.answers.items c.unwrap.ensures c.push.ensures.items) l.invariant.replayed c.in_ok-answer.ensures.ok;
    }

pub returns-in_err-answers-clause-err : goal.returns-in_err-answers-clause-err
returns-in_err-answers-clause-err g c = on_err c.from_residual.result (none_made (g.C.Coins.standing c.args.chain.now) c.args.commands.now)

pub returns-in_err-answer-clause-err : goal.returns-in_err-answer-clause-err
returns-in_err-answer-clause-err g c =
    let standing = g.C.Coins.standing in
    let l = c.loop-command in
    on_err c.from_residual-in_err-answer.result (made_before (standing c.args.chain.now) (standing l.chain) (standing c.make_call.new.chain) c.args.commands.now l.command-index l.answers.items (omega arith) l.invariant.replayed c.in_err-answer.ensures.err)
