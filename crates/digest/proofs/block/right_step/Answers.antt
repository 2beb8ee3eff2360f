use Rattle.std.proofs.Common.{arith, ◌∙◌}
use Rattle.digest.specs.Ripemd160.{right_words, right_constants, right_rotations}
use Rattle.digest.proofs.Lines.{right_word_below, right_line_next}
use Rattle.digest.proofs.block.right_step.Goals as goal

pub offset_bounds-w-j : goal.offset_bounds-w-j
unfolding right_words
offset_bounds-w-j c = omega (arith, right_word_below c.args.j c.requires)

pub bounds-w-j : goal.bounds-w-j
unfolding right_words
bounds-w-j c = right_word_below c.args.j c.requires

pub returns : goal.returns
unfolding right_words right_constants right_rotations
returns c = λ h held. c.step.ensures ∙ rw c.function_at-f.ensures (right_line_next h c.args.w.now c.args.v c.args.j held)
