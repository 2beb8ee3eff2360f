-- What a claim is, by its parts.
use Rattle.std.specs.Prelude.{◌≡◌, ℕ, ◌≤◌, List, length, slice_get, Option, option_map, unwrap_or, Ok, is_ok, IsTrue, All}
use Rattle.script.specs.declared.limits.TheConstants.{MAX_SCRIPT_SIZE}
use Rattle.script.specs.Spelling.{IsOp, spelling}
use Rattle.tx.specs.declared.input.TxIn.{TxIn}
use Rattle.tx.specs.Fields.{Transaction}
use Rattle.paths.specs.declared.state.Path.{Path}
use Rattle.paths.specs.Listing.{CheckedScript, listing}
use Rattle.claim.specs.declared.parts.Slot.{Slot}
use Rattle.claim.specs.declared.parts.Place.{Place}
use Rattle.claim.specs.declared.parts.Shell.{Shell}
use Rattle.claim.specs.Judgement.{judgement_of, bare_shell, needed_height, age_of}
use Rattle.claim.specs.Fitting.{Fits, Spends}

-- the shell of a claim: a fixed transaction has no witness item
abbrev pub IsBare : Shell → Type 0
IsBare shell = shell ≡ bare_shell shell

-- a claim: the checked script of the claimed output, the index of the path that it takes, and the slots, the top first. Its place is that of the output.
-- Its shell is the transaction round it, which has no witness item if it is fixed
pub record ClaimParts : Type 0 where
  pub ways : CheckedScript
  pub index : ℕ
  pub slots : List Slot
  pub place : Place
  pub shell : Shell

-- the claim takes this path: the one on which it was accepted
abbrev pub TakesPath : ClaimParts → Path → Type 0
TakesPath c p = judgement_of c.ways c.index c.slots c.place c.shell ≡ Ok p

-- the path at the claim's index
abbrev pub path_of : ClaimParts → Option Path
path_of c = slice_get c.ways.paths c.index

-- the sequence of the claim's input, which is the path's age in blocks, and the lock time that a transaction with the claim needs
abbrev pub sequence_of : ClaimParts → ℕ
sequence_of c = unwrap_or (option_map age_of (path_of c)) 0

abbrev pub lock_time_of : ClaimParts → ℕ
lock_time_of c = unwrap_or (option_map (λ p. needed_height p c.shell) (path_of c)) 0

-- a path was accepted for the claim
abbrev pub IsAccepted : ClaimParts → Type 0
IsAccepted c = IsTrue (is_ok (judgement_of c.ways c.index c.slots c.place c.shell))

-- the claim has these parts, with the witness items of a fixed transaction removed, and was accepted
pub record IsAcceptedOf (ways : CheckedScript) (index : ℕ) (slots : List Slot) (place : Place) (shell : Shell) (c : ClaimParts) : Type 0 where
  pub same : c ≡ record { ways = ways; index = index; slots = slots; place = place; shell = bare_shell shell }
  pub accepted : IsAccepted c

-- an input of a transaction fits the claim
pub record FitsClaim (c : ClaimParts) (t : Transaction) (input : TxIn) : Type 0 where
  pub path : Path
  pub taken : TakesPath c path
  pub fits : Fits (spelling c.ways.ops) path c.slots c.place c.shell t input

-- whatever fits a claim spends its output
abbrev pub IsSpending : ClaimParts → Type 0
IsSpending c = (p : Path) → TakesPath c p → Spends c.ways.ops p c.slots c.place c.shell

-- what every claim is. Its script is opcodes of at most 10,000 bytes together, with the paths that are listed for them. A path was accepted for it, and
-- its shell is bare
pub record IsWhole (c : ClaimParts) : Type 0 where
  pub ops : All IsOp c.ways.ops
  pub short : length (spelling c.ways.ops) ≤ MAX_SCRIPT_SIZE
  pub listed : listing c.ways.ops ≡ Ok c.ways.paths
  pub accepted : IsAccepted c
  pub bare : bare_shell c.shell ≡ c.shell
