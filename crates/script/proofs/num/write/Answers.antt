use Rattle.std.proofs.Common.{◌≡◌, ap, ◌∙◌, arith}
use Rattle.script.specs.Number.{minimal_bytes_of, number_of}
use Rattle.script.proofs.RoundTrip.{read_back}
use Rattle.script.proofs.Digits.{digit_more, digit_none, digits_done}
use Rattle.script.proofs.num.write.Goals as goal
use Rattle.script.proofs.num.write.Goals.{then-rest-ne0+in_ok-push_lowest, else-rest-ne0}

pub loop-step-preserved : goal.loop-step-preserved
loop-step-preserved c =
    elim c.if-rest-ne0.branch [
      | then-rest-ne0+in_ok-push_lowest w ↦ rw (w.bytes-is, w.rest-is, w.in_ok-push_lowest.ensures) (digit_more c.loop-step.bytes.items c.loop-step._step c.loop-step.rest c.loop-step-test.true w.if-rest-ne0.true ∙ c.loop-step.invariant)
      | else-rest-ne0 w ↦ rw (w.bytes-is, w.rest-is) (digit_none c.loop-step.bytes.items c.loop-step._step c.loop-step.rest w.if-rest-ne0.false ∙ c.loop-step.invariant)
    ]

abbrev item_written : (c : goal.After-from_vec) → c.from_vec.result ≡ minimal_bytes_of c.args.n
item_written c = c.from_vec.ensures ∙ digits_done c.loop-step.bytes.items c.loop-step._step c.loop-step.rest c.args.n c.loop-step-test.false c.loop-step.invariant

pub returns-clause-item : goal.returns-clause-item
returns-clause-item c = item_written c

pub returns-clause-read : goal.returns-clause-read
returns-clause-read c = λ small. ap (number_of 5) (item_written c) ∙ read_back c.args.n small
