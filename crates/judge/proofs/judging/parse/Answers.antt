use Rattle.sighash.proofs.Parsing.{parsed}
use Rattle.judge.proofs.judging.parse.Goals as goal

pub returns-in-Ok : goal.returns-in-Ok
returns-in-Ok c = parsed c.in-Ok.script c.args.bytes.now c.in-Ok.ensures.ok c.in-Ok.ensures.short
