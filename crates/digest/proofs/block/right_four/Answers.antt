use Rattle.std.proofs.Common.{ap, ◌∙◌, arith}
use Rattle.digest.specs.Ripemd160.{right_line}
use Rattle.digest.proofs.block.right_four.Goals as goal

pub returns : goal.returns
returns c = λ h held.
    let after = right_line h c.args.w.now in
    let s1 = c.right_step-v.ensures h held in
    let s2 = c.right_step-v-2.ensures h s1 in
    let s3 = c.right_step-v-3.ensures h (s2 ∙ ap after (omega arith)) in
    c.right_step.ensures h (s3 ∙ ap after (omega arith)) ∙ ap after (omega arith)
