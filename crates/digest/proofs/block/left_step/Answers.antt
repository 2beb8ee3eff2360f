use Rattle.std.proofs.Common.{arith, ◌∙◌}
use Rattle.digest.specs.Ripemd160.{left_words, left_constants, left_rotations}
use Rattle.digest.proofs.Lines.{left_word_below, left_line_next}
use Rattle.digest.proofs.block.left_step.Goals as goal

pub offset_bounds-w-j : goal.offset_bounds-w-j
unfolding left_words
offset_bounds-w-j c = omega (arith, left_word_below c.args.j c.requires)

pub bounds-w-j : goal.bounds-w-j
unfolding left_words
bounds-w-j c = left_word_below c.args.j c.requires

pub returns : goal.returns
unfolding left_words left_constants left_rotations
returns c = λ h held. c.step.ensures ∙ rw c.function_at-f.ensures (left_line_next h c.args.w.now c.args.v c.args.j held)
