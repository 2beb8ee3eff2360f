-- What a listing says of whoever satisfies the script.
use Rattle.std.specs.Prelude.{◌≡◌, ℕ, true, List, [], Ok, IfSome, All, Any, ◌↔◌}
use Rattle.script.specs.declared.opcode.Op.{Op}
use Rattle.script.specs.declared.spending.Spend.{Spend}
use Rattle.script.specs.Step.{lock_passes, age_passes}
use Rattle.script.specs.Run.{Clean, outcome}
use Rattle.paths.specs.declared.state.Path.{Path}
use Rattle.paths.specs.Listing.{listing}
use Rattle.paths.specs.Exhaustive.{SatisfiesBy}
use Rattle.paths.specs.Sound.{IsSound}

-- whatever meets a listed path runs clean, as the path says
abbrev pub ListedAreSound : Type 0
ListedAreSound = (ops : List Op) (paths : List Path) → listing ops ≡ Ok paths → All (IsSound ops) paths

-- a listed script is satisfied exactly by whoever meets a listed path, with that path's counted opcodes and height
abbrev pub SatisfiedExactly : Type 0
SatisfiedExactly =
    (ops : List Op) (paths : List Path) (spend : Spend) (witness : List (List ℕ)) (counted height : ℕ) → listing ops ≡ Ok paths → (outcome spend ops witness ≡ Clean counted height) ↔ Any (SatisfiesBy spend witness counted height) paths

-- a script whose listing has no path runs clean on no witness, whatever the spend
abbrev pub NoPathNoWitness : Type 0
NoPathNoWitness =
    (ops : List Op) (spend : Spend) (witness : List (List ℕ)) (counted height : ℕ) → listing ops ≡ Ok [] → outcome spend ops witness ≡ Clean counted height → ⊥

-- the spend meets a path's greatest absolute lock (BIP 65) and its greatest relative lock in blocks (BIP 112)
pub record MeetsLocks (spend : Spend) (p : Path) : Type 0 where
  pub lock : IfSome p.lock (λ n. lock_passes spend n ≡ true)
  pub age : IfSome p.age (λ n. age_passes spend n ≡ true)

-- a witness satisfies the script by this path, and the spend meets the path's locks
pub record SatisfiesInTime (spend : Spend) (witness : List (List ℕ)) (counted height : ℕ) (p : Path) : Type 0 where
  pub opens : SatisfiesBy spend witness counted height p
  pub locks : MeetsLocks spend p

-- whatever satisfies a listed script meets a listed path and that path's locks
abbrev pub SpendersWait : Type 0
SpendersWait =
    (ops : List Op) (paths : List Path) (spend : Spend) (witness : List (List ℕ)) (counted height : ℕ) → listing ops ≡ Ok paths → outcome spend ops witness ≡ Clean counted height → Any (SatisfiesInTime spend witness counted height) paths
