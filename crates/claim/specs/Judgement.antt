-- Whether a claim is accepted: the path that it takes, or the first refusal: NoSuchPath, WrongArity, WrongProgram, WrongShell, Contradiction, Unmet.
use Rattle.std.specs.Prelude.{ℕ, Bool, false, true, ◌&&◌, ◌||◌, not, ◌==◌, nat_lt, nat_le, if◌then◌else◌, List, [], ◌∷◌, ◌++◌, length, take, drop, Option, None, unwrap_or, slice_get, Result, Ok, Err, ok_or}
use Rattle.std.specs.Str.{bytes_eq}
use Rattle.std.specs.Option.{option_map_or}
use Rattle.script.specs.declared.limits.TheConstants.{LOCKTIME_THRESHOLD}
use Rattle.script.specs.Spelling.{spelling}
use Rattle.script.specs.Step.{result_if, ◌>>=◌}
use Rattle.tx.specs.declared.input.OutPoint.{OutPoint}
use Rattle.tx.specs.declared.input.TxIn.{TxIn}
use Rattle.tx.specs.Fields.{unsigned_transaction, total_value, same_outpoint}
use Rattle.sighash.specs.Programs.{script_hash_program, is_key_hash_program, key_hash_script}
use Rattle.sighash.specs.Signing.{sighash}
use Rattle.facts.specs.Symbols.{Stated}
use Rattle.facts.specs.Sameness.{contradicts}
use Rattle.paths.specs.declared.state.Path.{Path}
use Rattle.paths.specs.Listing.{CheckedScript}
use Rattle.claim.specs.declared.parts.Slot.{Slot}
use Rattle.claim.specs.declared.parts.Place.{Place}
use Rattle.claim.specs.declared.parts.Shell.{Shell}
use Rattle.claim.specs.declared.parts.Shell.TheVariants.{Open, Fixed}
use Rattle.claim.specs.declared.errors.AcceptError.{AcceptError}
use Rattle.claim.specs.declared.errors.AcceptError.TheVariants.{NoSuchPath, WrongArity, Unmet, Contradiction, WrongProgram, WrongShell}
use Rattle.claim.specs.Evidence.{evidence_of}

-- the program is P2WPKH, and the script is the one that it stands for (BIP 141)
abbrev pub is_key_program : List ℕ → List ℕ → Bool
is_key_program script p = is_key_hash_program p && bytes_eq script (key_hash_script (drop 2 p))

-- the program stands for the script, as P2WSH or P2WPKH
abbrev pub is_program : List ℕ → List ℕ → Bool
is_program script p = bytes_eq p (script_hash_program script) || is_key_program script p

-- the lock time that a path asks for, 0 where there is none, and the age in blocks, which is a claim's sequence
abbrev pub height_of : Path → ℕ
height_of p = unwrap_or p.lock 0

abbrev pub age_of : Path → ℕ
age_of p = unwrap_or p.age 0

-- there is exactly one input, with this outpoint and this sequence
abbrev pub is_only_input : List TxIn → OutPoint → ℕ → Bool
is_only_input (i ∷ []) o sequence = same_outpoint i.outpoint o && i.sequence == sequence
is_only_input inputs o sequence = false

-- a fixed transaction fits the path and the place. It has version 2, one input, a lock time that is a height and that the path allows, and outputs
-- within the place's value
abbrev pub is_shell : Path → Place → Shell → Bool
is_shell p place Open = true
is_shell p place (Fixed t) = t.version == 2 && is_only_input t.inputs place.outpoint (age_of p)
    && nat_lt t.lock_time LOCKTIME_THRESHOLD && nat_le (height_of p) t.lock_time
    && nat_le (total_value t.outputs) place.value

-- the shell, with the witness items of a fixed transaction removed
abbrev pub bare_shell : Shell → Shell
bare_shell Open = Open
bare_shell (Fixed t) = Fixed (unsigned_transaction t)

-- the digest that the signatures are over, where the transaction is fixed: for its only input (BIP 143)
abbrev pub known_digest : List ℕ → Place → Shell → Option (List ℕ)
known_digest script place Open = None
known_digest script place (Fixed t) = sighash t 0 script place.value

-- a fact is shown with its polarity
abbrev pub has_polarity : Bool → Option Bool → Bool
has_polarity holds o = option_map_or (λ b. if b then holds else not holds) o false

abbrev pub is_met : Option (List ℕ) → List Slot → Stated → Bool
is_met known slots s = has_polarity s.holds (evidence_of known slots s.fact)

-- the facts are met, or the refusal names the first that is not
abbrev pub first_unmet_or : Option (List ℕ) → List Slot → List Stated → Path
    → Result Path AcceptError
first_unmet_or known slots [] p = Ok p
first_unmet_or known slots (s ∷ facts) p =
    if is_met known slots s then first_unmet_or known slots facts p else Err (Unmet s)

abbrev pub judgement_of_path : List ℕ → List Slot → Place → Shell → Path → Result Path AcceptError
judgement_of_path script slots place shell p = result_if (length slots == p.arity) WrongArity
    (result_if (is_program script place.program) WrongProgram
    (result_if (is_shell p place shell) WrongShell
    (result_if (not (contradicts p.facts)) Contradiction
    (first_unmet_or (known_digest script place shell) slots p.facts p))))

-- the path that a claim takes, or the first refusal. It is judged by a checked script, the index of a path, the slots with the top first, the place
-- and the shell
unfoldable pub judgement_of : CheckedScript → ℕ → List Slot → Place → Shell
    → Result Path AcceptError
judgement_of ways index slots place shell = ok_or (slice_get ways.paths index) NoSuchPath
    >>= judgement_of_path (spelling ways.ops) slots place shell

-- the lock time that a claim on a path needs: the path's, or that of the fixed transaction
abbrev pub needed_height : Path → Shell → ℕ
needed_height p Open = height_of p
needed_height p (Fixed t) = t.lock_time
