use Rattle.std.proofs.Common.{ap, ◌∙◌, arith}
use Rattle.digest.specs.Ripemd160.{left_line, right_line}
use Rattle.digest.proofs.block.row.Goals as goal

pub returns : goal.returns
returns g c = record {
  left = λ h held.
      let after = left_line h c.args.w.now in
      let s1 = c.left_four-l.ensures h held in
      let s2 = c.left_four-l-2.ensures h s1 in
      let s3 = c.left_four-l-3.ensures h (s2 ∙ ap after (omega arith)) in
      c.left_four-l-4.ensures h (s3 ∙ ap after (omega arith)) ∙ ap after (omega arith);
  right = λ h held.
      let after = right_line h c.args.w.now in
      let s1 = c.right_four-r.ensures h held in
      let s2 = c.right_four-r-2.ensures h s1 in
      let s3 = c.right_four-r-3.ensures h (s2 ∙ ap after (omega arith)) in
      c.right_four-r-4.ensures h (s3 ∙ ap after (omega arith)) ∙ ap after (omega arith);
}
