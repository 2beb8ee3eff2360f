use Rattle.std.proofs.Common.{sym, ap, ◌∙◌}
use Rattle.sights.specs.Sights.{up_to}
use Rattle.sights.proofs.Reading.{all_low, one_lower}
use Rattle.sights.proofs.records.Records.forget_above.Goals as goal

pub loop-self-preserved : goal.loop-self-preserved
loop-self-preserved c =
    ap (up_to c.args.height) c.pop.ensures ∙ one_lower c.args.height c.loop-self.self (sym c.is_above.ensures ∙ c.loop-self-test.true) ∙ c.loop-self.invariant

pub returns : goal.returns
returns c = all_low c.args.height c.loop-self.self (sym c.is_above.ensures ∙ c.loop-self-test.false) ∙ c.loop-self.invariant
