use Rattle.std.proofs.Common.{[], arith}
use Rattle.std.specs.Prelude.{Any}
use Rattle.paths.specs.declared.state.Path.{Path}
use Rattle.paths.proofs.ForcedWalk.{listing-exhaustive}
use Rattle.paths.proofs.laws.no_path_is_nobody.Goals as goal

none : (P : Path → Type 0) → Any P [] → ⊥
none P (k, x, l, e, p) = omega arith

pub returns : goal.returns
returns c = λ ops spend witness counted height l e. none _ (listing-exhaustive ops [] l spend witness counted height e)
