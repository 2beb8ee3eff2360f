use Rattle.std.proofs.Common.{sym, ◌∙◌}
use Rattle.std.specs.List.{position_from}
use Rattle.std.proofs.lemmas.List.{at_drop_all}
use Rattle.judge.specs.Meeting.{is_met}
use Rattle.judge.proofs.Scans.{later, found}
use Rattle.judge.proofs.meeting.met_path.Goals as goal

pub returns-then-branch : goal.returns-then-branch
returns-then-branch c =
    found (is_met c.args.spend.now c.args.items.now) c.args.paths.now c.loop-number.number c.index-paths-number.result c.loop-number-test.true c.index-paths-number.is _ (sym c.in_ok-meets.ensures ∙ c.if-branch.true) c.loop-number.invariant

pub loop-number-preserved : goal.loop-number-preserved
loop-number-preserved c =
    later (is_met c.args.spend.now c.args.items.now) c.args.paths.now c.loop-number.number c.index-paths-number.result c.loop-number-test.true c.index-paths-number.is _ (sym c.in_ok-meets.ensures ∙ c.if-branch.false) c.loop-number.invariant

pub returns : goal.returns
returns c = sym (at_drop_all (position_from (is_met c.args.spend.now c.args.items.now) c.loop-number.number) c.args.paths.now c.loop-number.number c.loop-number-test.false) ∙ c.loop-number.invariant
