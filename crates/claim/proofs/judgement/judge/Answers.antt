use Rattle.std.proofs.Common.{sym, ap, ◌∙◌}
use Rattle.script.specs.Spelling.{spelling}
use Rattle.claim.proofs.Judged.{judgement_of-none, path-none, path-got, judgement_of-from}
use Rattle.claim.proofs.judgement.judge.Goals as goal

pub returns-in-None : goal.returns-in-None
returns-in-None c = judgement_of-none c.args.checked.now c.args.index c.args.slots.now c.args.place.now c.args.shell.now (path-none c.args.checked.now c.paths.result.now c.args.index c.paths.ensures.value c.in-None.ensures.lookup.3)

pub returns-in-Some : goal.returns-in-Some
returns-in-Some c =
    judgement_of-from c.args.checked.now c.args.index c.args.slots.now c.args.place.now c.args.shell.now c.in-Some.path.now c.bytes.result.now c.judge_path.result
    (path-got c.args.checked.now c.paths.result.now c.args.index c.in-Some.path.now c.paths.ensures.value c.in-Some.ensures.lookup.3.0 c.in-Some.ensures.lookup.1)
    (ap spelling (sym c.script.ensures) ∙ c.bytes.ensures.spelt.same) c.judge_path.ensures
