-- Programs of a script's hash (BIP 141): the witness that they ask for, the order of its items, and what the script is run under (BIP 112).
use Rattle.std.proofs.Common.{◌≡◌, List, ℕ, [], ◌∷◌, Option, Some, None, refl, replicate}
use Rattle.sha2.specs.Sha256.{sha256, digest_bytes, hash_after, compress, rounds, schedule, first_words}
use Rattle.script.specs.declared.opcode.Op.TheVariants.{If}
use Rattle.script.specs.declared.stops.Kind.TheVariants.{Verify, Sequence}
use Rattle.script.specs.declared.stops.Cause.TheVariants.{FailedCheck}
use Rattle.script.specs.Number.{number_of}
use Rattle.script.specs.Run.{Outcome, Clean, Stopped, state_after}
use Rattle.script.specs.Step.{effect, age_passes}
use Rattle.tx.specs.declared.input.TxIn.{TxIn}
use Rattle.tx.specs.Fields.{Transaction}
use Rattle.sighash.specs.Programs.{single_op, script_ops, given_of, run_of}

-- 1 CHECKSEQUENCEVERIFY EQUALVERIFY 2 EQUAL: an age of one block, and the items 2 and 1, of which 1 is the top
abbrev script : List ℕ
script = 0x51 ∷ 0xb2 ∷ 0x88 ∷ 0x52 ∷ 0x87 ∷ []

-- its SHA-256
abbrev hash : List ℕ
hash = 0x04 ∷ 0xdf ∷ 0x50 ∷ 0x75 ∷ 0xa4 ∷ 0xdb ∷ 0x0a ∷ 0xd6 ∷ 0x52 ∷ 0x4f ∷ 0x87 ∷ 0x83 ∷ 0xda ∷ 0xe4 ∷ 0x14 ∷ 0x73 ∷ 0xb6 ∷ 0x71 ∷ 0x28 ∷ 0xb1 ∷ 0xb0 ∷ 0xe4 ∷ 0x98 ∷ 0x3a ∷ 0x00 ∷ 0xc8 ∷ 0xe6 ∷ 0xdd ∷ 0x76 ∷ 0x26 ∷ 0x98 ∷ 0xc9 ∷ []

abbrev program : List ℕ
program = 0x00 ∷ 0x20 ∷ hash

-- the script stands last in the witness, and the items before it are in their order; another item in its place has another hash
given : (given_of program ((2 ∷ []) ∷ (1 ∷ []) ∷ script ∷ []) ≡ Some (record { script = script; items = (2 ∷ []) ∷ (1 ∷ []) ∷ [] }))
    × (given_of program (script ∷ []) ≡ Some (record { script = script; items = [] }))
    × (given_of program (script ∷ (2 ∷ []) ∷ (1 ∷ []) ∷ []) ≡ None)
unfolding given_of sha256 digest_bytes hash_after compress rounds schedule first_words
given = (refl, refl, refl)

-- a transaction of a version, whose input has a sequence and these items before the script, and what the program's output gives
abbrev input_of : ℕ → List (List ℕ) → TxIn
input_of sequence witness = record { outpoint = record { txid = replicate 32 7; index = 1 }; sequence = sequence; witness = witness }

abbrev spending : ℕ → TxIn → Transaction
spending version input = record { version = version; inputs = input ∷ []; outputs = record { value = 900; script = [] } ∷ []; lock_time = 0 }

abbrev run_under : ℕ → ℕ → List (List ℕ) → Option Outcome
run_under version sequence witness =
    let input = input_of sequence witness in run_of (spending version input) input (record { value = 1000; script = program })

-- clean in this order only, with version 2 and not 1, and with the sequence of the input only
runs : (run_under 2 1 ((2 ∷ []) ∷ (1 ∷ []) ∷ script ∷ []) ≡ Some (Clean 3 3))
    × (run_under 2 1 ((1 ∷ []) ∷ (2 ∷ []) ∷ script ∷ []) ≡ Some (Stopped 2 (FailedCheck Verify)))
    × (run_under 1 1 ((2 ∷ []) ∷ (1 ∷ []) ∷ script ∷ []) ≡ Some (Stopped 1 (FailedCheck Sequence)))
    × (run_under 2 0 ((2 ∷ []) ∷ (1 ∷ []) ∷ script ∷ []) ≡ Some (Stopped 1 (FailedCheck Sequence)))
unfolding run_of given_of script_ops single_op state_after effect age_passes number_of sha256 digest_bytes hash_after compress rounds schedule first_words
runs = (refl, refl, refl, refl)

-- a script of 10,000 bytes, and of one more
sizes : (script_ops (replicate 10000 0x63) ≡ Some (replicate 10000 If)) × (script_ops (replicate 10001 0x63) ≡ None)
unfolding script_ops single_op
sizes = (refl, refl)
