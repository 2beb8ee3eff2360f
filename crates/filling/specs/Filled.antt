-- What a filling is, and what holds of it.
use Rattle.std.specs.Prelude.{◌≡◌, ℕ, ◌≤◌, List, [], ◌∷◌, map, Some}
use Rattle.std.specs.List.{AllByRecursion}
use Rattle.script.specs.declared.limits.TheConstants.{MAX_OPS_PER_SCRIPT, MAX_STACK_SIZE}
use Rattle.script.specs.Run.{Clean}
use Rattle.tx.specs.declared.input.TxIn.{TxIn}
use Rattle.tx.specs.Parts.{Output}
use Rattle.tx.specs.Fields.{Transaction}
use Rattle.sighash.specs.Programs.{run_of}
use Rattle.keys.specs.Rights.{Rights}
use Rattle.claim.specs.declared.parts.Place.{Place}
use Rattle.claim.specs.Fitting.{output_at}
use Rattle.claim.specs.Claims.{ClaimParts, FitsClaim, IsWhole}
use Rattle.filling.specs.Filling.{filling_of}
use Rattle.filling.specs.Refusals.{ArePassed, AreFillable, all_slots}

-- a filling: the transaction, and the places of the outputs that its inputs spend, in order
pub record Filling : Type 0 where
  pub tx : Transaction
  pub places : List Place

-- an input spends the output at a place and runs its program clean (BIP 141), within 201 counted opcodes and 1,000 elements
pub record RunsClean (t : Transaction) (input : TxIn) (place : Place) : Type 0 where
  pub outpoint : input.outpoint ≡ place.outpoint
  pub counted : ℕ
  pub height : ℕ
  pub clean : run_of t input (output_at place) ≡ Some (Clean counted height)
  pub few : counted ≤ MAX_OPS_PER_SCRIPT
  pub low : height ≤ MAX_STACK_SIZE

-- so does each input, at its place
abbrev pub AllRunClean : Transaction → List TxIn → List Place → Type 0
AllRunClean t [] [] = Unit {0}
AllRunClean t (input ∷ inputs) (place ∷ places) = RunsClean t input place × AllRunClean t inputs places
AllRunClean t inputs places = ⊥

-- each input fits its claim
abbrev pub AllFit : Transaction → List ClaimParts → List TxIn → Type 0
AllFit t [] [] = Unit {0}
AllFit t (c ∷ claims) (input ∷ inputs) = FitsClaim c t input × AllFit t claims inputs
AllFit t claims inputs = ⊥

-- the filling is that of the claims: no refusal holds, and all their slots can be filled
pub record IsFillingOf (claims : List ClaimParts) (outputs : List Output) (r : Rights) (preimages : List (List ℕ)) (f : Filling) : Type 0 where
  pub passed : ArePassed claims outputs
  pub fillable : AreFillable r preimages (all_slots claims)
  pub tx : f.tx ≡ filling_of claims outputs preimages
  pub places : f.places ≡ map (λ c. c.place) claims
  pub fits : AllFit f.tx claims f.tx.inputs

-- where nothing refuses accepted claims, each input of the transaction that fills them fits its claim
abbrev pub FillingsFit : Type 0
FillingsFit =
    (claims : List ClaimParts) (outputs : List Output) (r : Rights) (preimages : List (List ℕ)) → AllByRecursion IsWhole claims → ArePassed claims outputs
    → AreFillable r preimages (all_slots claims) → AllFit (filling_of claims outputs preimages) claims (filling_of claims outputs preimages).inputs
