use Rattle.std.proofs.Common.{ap, ◌∙◌, arith}
use Rattle.sights.specs.Sights.{oldest}
use Rattle.sights.proofs.Reading.{all_kept, one_less}
use Rattle.sights.proofs.records.Records.keep.Goals as goal

pub loop-self-preserved : goal.loop-self-preserved
loop-self-preserved c =
    ap (oldest c.args.count) c.pop.ensures ∙ one_less c.args.count c.loop-self.self (omega (arith, c.loop-self-test.true, c.len.ensures)) ∙ c.loop-self.invariant

pub returns : goal.returns
returns c = all_kept c.args.count c.loop-self.self (omega (arith, c.loop-self-test.false, c.len.ensures)) ∙ c.loop-self.invariant
