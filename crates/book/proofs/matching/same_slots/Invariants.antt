use Rattle.forms.specs.Fillings.{filling_of}
use Rattle.book.specs.Penalties.{same_filling}
use Rattle.book.proofs.Alike.{Left}
use Rattle.book.proofs.matching.same_slots.Given as goal

abbrev pub invariant-loop-slot : goal.invariant-loop-slot
invariant-loop-slot l = Left (λ x y. same_filling (filling_of x) (filling_of y)) l.a l.b l.slot-index l.others
