use Rattle.std.proofs.Common.{ap, ◌∙◌, arith}
use Rattle.digest.specs.Ripemd160.{left_line}
use Rattle.digest.proofs.block.left_four.Goals as goal

pub returns : goal.returns
returns c = λ h held.
    let after = left_line h c.args.w.now in
    let s1 = c.left_step-v.ensures h held in
    let s2 = c.left_step-v-2.ensures h s1 in
    let s3 = c.left_step-v-3.ensures h (s2 ∙ ap after (omega arith)) in
    c.left_step.ensures h (s3 ∙ ap after (omega arith)) ∙ ap after (omega arith)
