use Rattle.std.proofs.Common.{arith}
use Rattle.book.proofs.Numbered.{stops, goes_on}
use Rattle.book.proofs.flags.first_unset.Goals as goal

pub loop-number-preserved : goal.loop-number-preserved
loop-number-preserved c =
    let l = c.loop-number in
    let within = c.loop-number-test.true in
    let first = l.invariant.0 in
    (omega (arith, first), omega (arith, within), goes_on c.args.flags.now c.args.from l.number within c.if-flags-number.true l.invariant.2)

pub returns-else-flags-number-clause-unset : goal.returns-else-flags-number-clause-unset
returns-else-flags-number-clause-unset c = stops c.args.flags.now c.loop-number.number c.if-flags-number.false
