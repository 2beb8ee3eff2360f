use Rattle.std.proofs.Common.{◌≤◌, ℕ, sym, subst}
use Rattle.tx.specs.declared.limits.TheConstants.{MAX_VALUE}
use Rattle.node.proofs.Releases.{little_enough}
use Rattle.node.proofs.releasing.worth.Goals as goal

pub returns-in-Ok : goal.returns-in-Ok
returns-in-Ok c =
    let fits = c.in-Ok.ensures in
    (fits.1, subst (λ (v : ℕ). v ≤ MAX_VALUE) (sym fits.1) (little_enough c.args.due.now fits.0))
