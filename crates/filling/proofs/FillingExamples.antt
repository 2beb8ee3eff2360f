-- Fillings of small claims, and why claims are not filled.
use Rattle.std.proofs.Common.{◌≡◌, ℕ, true, false, List, [], ◌∷◌, ◌++◌, map, replicate, refl, lit≤, Some}
use Rattle.std.specs.Prelude.{IsTrue}
use Rattle.script.specs.declared.opcode.Op.TheVariants.{CheckSig}
use Rattle.script.specs.Token.{token_of, is_key}
use Rattle.tx.specs.declared.input.TxIn.{TxIn}
use Rattle.tx.specs.Parts.{Output}
use Rattle.tx.specs.Fields.{Transaction}
use Rattle.tx.specs.Spelling.{outpoint, number}
use Rattle.paths.specs.declared.state.Path.{Path}
use Rattle.claim.specs.declared.parts.Slot.TheVariants.{Sig, Exact}
use Rattle.claim.specs.declared.parts.Shell.{Shell}
use Rattle.claim.specs.declared.parts.Shell.TheVariants.{Open, Fixed}
use Rattle.claim.specs.Claims.{ClaimParts}
use Rattle.filling.specs.declared.errors.FillError.TheVariants.{NoMemory, NoRight, NoPreimage, OutputsExceed, MixedShells, SameOutpoint}
use Rattle.filling.specs.Filling.{greatest_of, transaction_for, item_for}
use Rattle.filling.specs.Refusals.{are_mixed, share_outpoint, do_exceed, fill_error_number}

-- a path of a lock time and an age, and a claim on it, at an outpoint of this byte and index
abbrev path : ℕ → ℕ → Path
path height age = record { arity = 0; facts = []; ops = 0; height = 0; lock = Some height; age = Some age }

abbrev claim : ℕ → ℕ → ℕ → ℕ → Shell → ClaimParts
claim byte index height age shell = record { ways = record { ops = CheckSig ∷ []; paths = path height age ∷ [] }; index = 0; slots = []; place = record { outpoint = record { txid = replicate 32 byte; index = index }; value = 1000; program = [] }; shell = shell }

abbrev first : ClaimParts
first = claim 7 1 500 0 Open

abbrev second : ClaimParts
second = claim 8 1 700 144 Open

abbrev third : ClaimParts
third = claim 7 256 600 3 Open

abbrev input : ℕ → ℕ → ℕ → TxIn
input byte index sequence = record { outpoint = record { txid = replicate 32 byte; index = index }; sequence = sequence; witness = [] }

abbrev paid : ℕ → List Output
paid n = record { value = n; script = [] } ∷ record { value = 1; script = 0x51 ∷ [] } ∷ []

abbrev fixed : Transaction
fixed = record { version = 2; inputs = record (input 7 1 0) { witness = (1 ∷ []) ∷ [] } ∷ []; outputs = paid 5; lock_time = 501 }

-- version 2, the inputs in the order of the claims with their ages, the outputs, and the greatest height
open_claims : transaction_for (first ∷ second ∷ third ∷ []) (paid 2000) ≡ record { version = 2; inputs = input 7 1 0 ∷ input 8 1 144 ∷ input 7 256 3 ∷ []; outputs = paid 2000; lock_time = 700 }
open_claims = refl

one_claim : transaction_for (second ∷ []) (paid 2000) ≡ record { version = 2; inputs = input 8 1 144 ∷ []; outputs = paid 2000; lock_time = 700 }
one_claim = refl

-- a fixed claim has its own transaction, without its witness
fixed_claim : transaction_for (claim 7 1 500 0 (Fixed fixed) ∷ []) (paid 2000) ≡ record { version = 2; inputs = input 7 1 0 ∷ []; outputs = paid 5; lock_time = 501 }
fixed_claim = refl

greatest : map greatest_of ([] ∷ (7 ∷ []) ∷ (1 ∷ 9 ∷ 3 ∷ []) ∷ (4 ∷ 2 ∷ []) ∷ []) ≡ 0 ∷ 7 ∷ 9 ∷ 4 ∷ []
greatest = refl

mixed : map are_mixed ((first ∷ second ∷ []) ∷ (claim 7 1 500 0 (Fixed fixed) ∷ []) ∷ (claim 7 1 500 0 (Fixed fixed) ∷ second ∷ []) ∷ (second ∷ claim 7 1 500 0 (Fixed fixed) ∷ []) ∷ []) ≡ false ∷ false ∷ true ∷ true ∷ []
mixed = refl

-- the same id and the same index, whatever stands between
shared : map share_outpoint ((first ∷ second ∷ third ∷ []) ∷ (first ∷ second ∷ first ∷ []) ∷ (second ∷ third ∷ third ∷ []) ∷ (first ∷ []) ∷ []) ≡ false ∷ true ∷ true ∷ false ∷ []
unfolding outpoint number
shared = refl

-- two outputs of 1,000: up to 2,000 may be paid; what a fixed transaction pays is not checked here
exceeding : (map (do_exceed (first ∷ second ∷ [])) (paid 1999 ∷ paid 2000 ∷ [] ∷ []) ≡ false ∷ true ∷ false ∷ []) × (do_exceed (claim 7 1 500 0 (Fixed fixed) ∷ []) (paid 9000) ≡ false)
exceeding = (refl, refl)

key_form : IsTrue (is_key (2 ∷ replicate 32 1))
unfolding is_key
key_form = refl

-- a token over the digest, and exact bytes
filled : (item_for (replicate 32 7) [] (Sig (record { bytes = 2 ∷ replicate 32 1; form = key_form })) ≡ 2 ∷ (replicate 32 1 ++ (replicate 32 7 ++ 1 ∷ []))) × (item_for (replicate 32 7) [] (Exact (record { item = 9 ∷ []; short = lit≤ tt })) ≡ 9 ∷ [])
unfolding token_of
filled = (refl, refl)

numbers : map fill_error_number (NoMemory ∷ NoRight ∷ NoPreimage ∷ OutputsExceed ∷ MixedShells ∷ SameOutpoint ∷ []) ≡ 0 ∷ 1 ∷ 2 ∷ 3 ∷ 4 ∷ 5 ∷ []
numbers = refl
