-- The script and items that a witness program and a witness give, or why they give none (BIP 141).
use Rattle.std.specs.Prelude.{◌≡◌, ◌==◌, ℕ, List, [], ◌∷◌, length, drop, reverse, Option, Some, None, Result, Ok, Err, MatchBool}
use Rattle.std.specs.Str.{bytes_eq}
use Rattle.sha2.specs.Sha256.{sha256}
use Rattle.sighash.specs.Programs.{Given, is_key_hash_program, is_script_hash_program}
use Rattle.chain.specs.declared.given.Code.{Code}
use Rattle.chain.specs.declared.given.Code.TheVariants.{OfKeyHash, OfWitness}
use Rattle.chain.specs.declared.given.ProgramFault.{ProgramFault}
use Rattle.chain.specs.declared.given.ProgramFault.TheVariants.{OtherProgram, NotTwoItems, NoScript, OtherScript}

-- the bytes of the script
abbrev pub code_in : Code → List ℕ
code_in (OfKeyHash script) = script.items
code_in (OfWitness script) = script.now

-- what is given is so; or nothing is
abbrev pub IsGiven : Option Given → Result Given ProgramFault → Type 0
IsGiven given (Ok g) = given ≡ Some g
IsGiven given (Err fault) = given ≡ None

-- of a script's hash, and a witness from its end on: it has no item, or its last one has another hash
abbrev pub IsScriptHashFault : List ℕ → List (List ℕ) → ProgramFault → Type 0
IsScriptHashFault hash [] fault = fault ≡ NoScript
IsScriptHashFault hash (script ∷ below) fault = MatchBool (bytes_eq (sha256 script) hash) ⊥ (fault ≡ OtherScript)

-- why a program and a witness give no script to run
abbrev pub IsProgramFault : List ℕ → List (List ℕ) → ProgramFault → Type 0
IsProgramFault program witness fault =
    MatchBool (is_key_hash_program program) (MatchBool (length witness == 2) ⊥ (fault ≡ NotTwoItems))
    (MatchBool (is_script_hash_program program) (IsScriptHashFault (drop 2 program) (reverse witness) fault) (fault ≡ OtherProgram))
