use Rattle.std.proofs.Common.{ap, ◌∙◌}
use Rattle.sights.specs.Origins.{origin_in, origin_of}
use Rattle.sights.proofs.Noted.{popped}
use Rattle.sights.proofs.records.Records.pop.Goals as goal

pub invariant_of-self : goal.invariant_of-self
invariant_of-self c =
    popped c.pop.new.self c.in-Some.last (origin_in c.self.inside.origins) (origin_in c.forget.new.origins) c.id.result.now c.len.result c.id.ensures c.len.ensures
    (λ q. c.self.invariant q ∙ ap (λ xs. origin_of q xs) c.in-Some.ensures) c.forget.ensures
