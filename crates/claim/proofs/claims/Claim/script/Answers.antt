use Rattle.std.proofs.Common.{◌≤◌, length, sym, subst}
use Rattle.script.specs.Spelling.{Spells}
use Rattle.claim.specs.Ways.{ways_of}
use Rattle.claim.proofs.claims.Claim.script.Goals as goal

pub returns-clause-spelt : goal.returns-clause-spelt
returns-clause-spelt c =
    let i = c.self.inside in
    subst (λ v. Spells v.ways.ops c.bytes.result.now) c.self.view_is (subst (Spells (ways_of i.script).ops) (sym c.bytes.ensures) c.self.invariant.0.spells)

pub returns-clause-short : goal.returns-clause-short
returns-clause-short c = subst (λ b. length b ≤ 10000) (sym c.bytes.ensures) c.self.invariant.0.short
