use Rattle.std.proofs.Common.{List, ℕ, reverse}
use Rattle.std.specs.Prelude.{Any}
use Rattle.script.specs.declared.spending.Spend.{Spend}
use Rattle.paths.specs.declared.state.Path.{Path}
use Rattle.paths.specs.Exhaustive.{SatisfiesBy}
use Rattle.paths.specs.Laws.{SatisfiesInTime}
use Rattle.paths.proofs.ForcedWalk.{listing-exhaustive}
use Rattle.paths.proofs.LockFacts.{Each, each_at, TellsLocks, listing-tells, tells_met}
use Rattle.paths.proofs.laws.spenders_wait.Goals as goal

in_time : (paths : List Path) (spend : Spend) (witness : List (List ℕ)) (counted height : ℕ) → Each TellsLocks paths → Any (SatisfiesBy spend witness counted height) paths → Any (SatisfiesInTime spend witness counted height) paths
in_time paths spend witness counted height t (k, p, l, e, o) = (k, p, l, e, record { opens = o; locks = tells_met spend (reverse witness) p (each_at TellsLocks paths k p l e t) o.meets.holds })

pub returns : goal.returns
returns c = λ ops paths spend witness counted height l e. in_time paths spend witness counted height (listing-tells ops paths l) (listing-exhaustive ops paths l spend witness counted height e)
