use Rattle.keys.proofs.Undoing.{nothing}
use Rattle.keys.proofs.signing.Signer.new.Goals as goal

pub invariant_of-result : goal.invariant_of-result
invariant_of-result c =
    nothing c.new-4.result c.new.result c.new-2.result.items c.new-3.result.items c.new-4.ensures.empty c.new-2.ensures.items c.new-3.ensures.items
