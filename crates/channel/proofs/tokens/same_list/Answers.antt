use Rattle.channel.proofs.TokenLists.{all_eq-apart}
use Rattle.channel.proofs.tokens.same_list.Goals as goal

pub returns-then-first-second : goal.returns-then-first-second
returns-then-first-second c = all_eq-apart c.args.first.now c.args.second.now c.if-first-second.true
