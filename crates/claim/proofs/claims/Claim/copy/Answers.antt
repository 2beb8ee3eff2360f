use Rattle.std.proofs.Common.{sym, subst}
use Rattle.claim.specs.Claims.{IsBare}
use Rattle.claim.proofs.Kept.{judged_again, way_again}
use Rattle.claim.proofs.claims.Claim.copy.Goals as goal

pub new-copy-requires-clause-way : goal.new-copy-requires-clause-way
new-copy-requires-clause-way c = let i = c.self.inside in way_again i.script _ i.index i.path _ c.in_ok-script.ensures c.in_ok-path.ensures c.self.invariant.0

pub new-copy-requires-clause-judged : goal.new-copy-requires-clause-judged
new-copy-requires-clause-judged c =
    let i = c.self.inside in
    judged_again i.script _ i.index i.slots _ i.place _ i.shell _ c.in_ok-script.ensures c.in_ok-slots.ensures c.in_ok-place.ensures c.in_ok-shell.ensures c.self.invariant.1

pub new-copy-requires-clause-bare : goal.new-copy-requires-clause-bare
new-copy-requires-clause-bare c = subst IsBare (sym c.in_ok-shell.ensures) c.self.invariant.2
