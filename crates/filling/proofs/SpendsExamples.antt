-- Unsigned spends of small claims, and why none is made.
use Rattle.std.proofs.Common.{◌≡◌, ℕ, true, false, List, [], ◌∷◌, ◌++◌, map, replicate, refl, lit≤, Option, Some, None}
use Rattle.std.specs.Prelude.{IsTrue}
use Rattle.script.specs.declared.opcode.Op.TheVariants.{CheckSig}
use Rattle.script.specs.Token.{token_of, is_key}
use Rattle.tx.specs.declared.input.TxIn.{TxIn}
use Rattle.tx.specs.Parts.{Output}
use Rattle.tx.specs.Fields.{Transaction}
use Rattle.tx.specs.Spelling.{outpoint, number}
use Rattle.keys.specs.declared.compressed.Key.{Key}
use Rattle.facts.specs.Symbols.{Fact, Stated}
use Rattle.facts.specs.declared.symbols.KeySourceOver.TheVariants.{Slot as KeySlot}
use Rattle.facts.specs.declared.symbols.FactOver.TheVariants.{Hash, Size, Truth, Is, KeyForm, Form, Token, Assigned, Lock, Age}
use Rattle.paths.specs.declared.state.Path.{Path}
use Rattle.claim.specs.declared.parts.Slot.{Slot}
use Rattle.claim.specs.declared.parts.Slot.TheVariants.{Sig, Preimage, Exact}
use Rattle.claim.specs.declared.parts.Shell.{Shell}
use Rattle.claim.specs.declared.parts.Shell.TheVariants.{Open, Fixed}
use Rattle.claim.specs.Claims.{ClaimParts}
use Rattle.filling.specs.declared.missing.MissingSignature.{MissingSignature}
use Rattle.filling.specs.declared.errors.SpendError.TheVariants.{NoMemory, FixedTransaction, SameOutpoint, OutputsExceed, MeasuredSignature, NoPreimage}
use Rattle.filling.specs.Spends.{blank_for, missing_on, with_tokens, is_measuring, first_spend_refusal, spend_error_number}

key_form : (n : ℕ) → IsTrue (is_key (2 ∷ replicate 32 n))
unfolding is_key
key_form n = refl

abbrev key : ℕ → Key
key n = record { bytes = 2 ∷ replicate 32 n; form = key_form n }

abbrev exact : ℕ → Slot
exact n = Exact (record { item = n ∷ []; short = lit≤ tt })

abbrev empty : Slot
empty = Exact (record { item = []; short = lit≤ tt })

abbrev digest : List ℕ
digest = replicate 32 7

abbrev missing : ℕ → ℕ → ℕ → MissingSignature
missing input item n = record { input = input; item = item; key = key n; digest = digest }

-- ---- where signatures are missing

-- BIP 141: of a key's hash the witness is the signature, then the key
key_hash : missing_on 4 digest (exact 9 ∷ Sig (key 1) ∷ []) ≡ missing 4 0 1 ∷ []
key_hash = refl

-- BOLT 3: the funding output is spent by an empty item, the signature of the first key, and that of the second, which is the top
both_keys : missing_on 5 digest (Sig (key 2) ∷ Sig (key 1) ∷ empty ∷ []) ≡ missing 5 2 2 ∷ missing 5 1 1 ∷ []
both_keys = refl

-- BOLT 3: an offered HTLC is claimed by the signature, then the preimage
direct_preimage : missing_on 0 digest (Preimage (replicate 32 3) ∷ Sig (key 6) ∷ []) ≡ missing 0 0 6 ∷ []
direct_preimage = refl

none_missing : missing_on 1 digest (exact 9 ∷ empty ∷ []) ≡ []
none_missing = refl

-- nothing stands in the place of a signature, nor where a preimage is lacking
blank : map (blank_for []) (Sig (key 1) ∷ exact 9 ∷ Preimage (replicate 32 3) ∷ []) ≡ [] ∷ (9 ∷ []) ∷ [] ∷ []
blank = refl

-- ---- the tokens in their places

abbrev input : ℕ → List (List ℕ) → TxIn
input n witness = record { outpoint = record { txid = replicate 32 n; index = n }; sequence = n; witness = witness }

-- each at its item of its input, and nothing else changes
tokens : with_tokens (missing 1 1 3 ∷ missing 0 0 1 ∷ missing 1 0 2 ∷ []) (input 5 ([] ∷ (9 ∷ []) ∷ []) ∷ input 6 ([] ∷ [] ∷ (8 ∷ []) ∷ []) ∷ input 7 ([] ∷ []) ∷ [])
    ≡ input 5 (token_of (key 1).bytes digest ∷ (9 ∷ []) ∷ []) ∷ input 6 (token_of (key 2).bytes digest ∷ token_of (key 3).bytes digest ∷ (8 ∷ []) ∷ []) ∷ input 7 ([] ∷ []) ∷ []
tokens = refl

-- ---- what measures a signature

-- every kind of fact on one slot
abbrev facts_on : ℕ → List Fact
facts_on i = Hash i [] ∷ Size i 32 ∷ Is i [] ∷ KeyForm i ∷ Truth i ∷ Form i ∷ Token i (KeySlot i) ∷ Assigned (i ∷ []) [] ∷ Lock i ∷ Age i ∷ []

-- on a signature; on another slot, and past the last one
measuring : map (is_measuring (exact 9 ∷ Sig (key 1) ∷ Preimage digest ∷ [])) (facts_on 1) ≡ true ∷ true ∷ true ∷ true ∷ false ∷ false ∷ false ∷ false ∷ false ∷ false ∷ []
measuring = refl

not_measuring : map (λ i. map (is_measuring (exact 9 ∷ Sig (key 1) ∷ Preimage digest ∷ [])) (facts_on i)) (0 ∷ 2 ∷ 3 ∷ []) ≡ replicate 3 (replicate 10 false)
not_measuring = refl

-- ---- refusals

abbrev path : List Stated → Path
path facts = record { arity = 1; facts = facts; ops = 0; height = 0; lock = None; age = None }

-- a claim on an output of 1,000 satoshis
abbrev claim : ℕ → List Stated → Slot → Shell → ClaimParts
claim byte facts slot shell = record { ways = record { ops = CheckSig ∷ []; paths = path facts ∷ [] }; index = 0; slots = slot ∷ []; place = record { outpoint = record { txid = replicate 32 byte; index = 1 }; value = 1000; program = [] }; shell = shell }

abbrev signed : ℕ → ClaimParts
signed byte = claim byte (record { fact = Form 0; holds = true } ∷ record { fact = Size 1 66; holds = true } ∷ []) (Sig (key 1)) Open

abbrev measured : ℕ → ClaimParts
measured byte = claim byte (record { fact = Form 0; holds = true } ∷ record { fact = Size 0 66; holds = true } ∷ []) (Sig (key 1)) Open

abbrev lacking : ℕ → ClaimParts
lacking byte = claim byte [] (Preimage digest) Open

abbrev fixed : ℕ → ClaimParts
fixed byte = claim byte [] (Sig (key 1)) (Fixed (record { version = 2; inputs = []; outputs = []; lock_time = 0 }))

abbrev paid : ℕ → List Output
paid n = record { value = n; script = [] } ∷ []

-- the first that holds, where the next one holds too; up to the value of both outputs may be paid
refusals : (first_spend_refusal (fixed 1 ∷ signed 1 ∷ []) (paid 2001) [] ≡ Some FixedTransaction)
    × (first_spend_refusal (measured 1 ∷ signed 1 ∷ []) (paid 2001) [] ≡ Some SameOutpoint)
    × (first_spend_refusal (measured 1 ∷ signed 2 ∷ []) (paid 2001) [] ≡ Some OutputsExceed)
    × (first_spend_refusal (lacking 1 ∷ measured 2 ∷ []) (paid 2000) [] ≡ Some MeasuredSignature)
    × (first_spend_refusal (signed 1 ∷ lacking 2 ∷ []) (paid 2000) [] ≡ Some NoPreimage)
    × (first_spend_refusal (signed 1 ∷ signed 2 ∷ []) (paid 2000) [] ≡ None)
unfolding outpoint number
refusals = (refl, refl, refl, refl, refl, refl)

numbers : map spend_error_number (NoMemory ∷ FixedTransaction ∷ SameOutpoint ∷ OutputsExceed ∷ MeasuredSignature ∷ NoPreimage ∷ []) ≡ 0 ∷ 1 ∷ 2 ∷ 3 ∷ 4 ∷ 5 ∷ []
numbers = refl
