use Rattle.std.proofs.Common.{◌≡◌, ℕ, List, subst, ◌∙◌, refl}
use Rattle.std.specs.Prelude.{All, Any}
use Rattle.script.specs.declared.opcode.Op.{Op}
use Rattle.script.specs.declared.spending.Spend.{Spend}
use Rattle.script.specs.Run.{Clean, outcome}
use Rattle.paths.specs.declared.state.Path.{Path}
use Rattle.paths.specs.Sound.{IsSound}
use Rattle.paths.specs.Exhaustive.{SatisfiesBy}
use Rattle.paths.proofs.SoundWalk.{listing-sound}
use Rattle.paths.proofs.ForcedWalk.{listing-exhaustive}
use Rattle.paths.proofs.laws.scripts_are_satisfied_exactly.Goals as goal

opened : (ops : List Op) (paths : List Path) (spend : Spend) (witness : List (List ℕ)) (counted height : ℕ) → All (IsSound ops) paths → Any (SatisfiesBy spend witness counted height) paths → outcome spend ops witness ≡ Clean counted height
opened ops paths spend witness counted height sound (k, p, l, e, o) =
    let s : IsSound ops p = subst (IsSound ops) e (sound k p l) in
    s.clean spend witness o.meets ∙ rw (o.counts, o.tallest) refl

pub returns : goal.returns
returns c = λ ops paths spend witness counted height l. (listing-exhaustive ops paths l spend witness counted height, opened ops paths spend witness counted height (listing-sound ops paths l))
