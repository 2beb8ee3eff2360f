-- The definitions on known values.
use Rattle.std.proofs.Common.{◌≡◌, List, ℕ, [], ◌∷◌, ◌++◌, true, false, refl, replicate}
use Rattle.digest.specs.Hash.{sha256d}
use Rattle.tx.specs.declared.input.TxIn.{TxIn}
use Rattle.tx.specs.Fields.{Transaction}
use Rattle.tx.specs.Spelling.{number, compact_size, bytes_with_length, outpoint, output}
use Rattle.script.specs.Token.{token_of, is_token}
use Rattle.sighash.specs.declared.errors.DigestError.TheVariants.{NoSuchInput}
use Rattle.sighash.specs.Refusals.{refusal_number}
use Rattle.sighash.specs.Signing.{all_outpoints, all_sequences, all_outputs, signed_list}

abbrev key : List ℕ
key = 2 ∷ replicate 32 0x11

has_form : is_token (token_of key (replicate 32 0x22)) ≡ true
unfolding token_of is_token
has_form = refl

no_form : (is_token (token_of (4 ∷ replicate 32 0x11) (replicate 32 0x22)) ≡ false) × (is_token (token_of key (replicate 31 0x22)) ≡ false) × (is_token (replicate 66 2) ≡ false)
unfolding token_of is_token
no_form = (refl, refl, refl)

abbrev first : TxIn
first = record { outpoint = record { txid = replicate 32 7; index = 1 }; sequence = 5; witness = [] }

abbrev second : TxIn
second = record { outpoint = record { txid = replicate 32 8; index = 0 }; sequence = 144; witness = [] }

-- two inputs and one output to a script of one byte
abbrev both : Transaction
both = record { version = 2; inputs = first ∷ second ∷ []; outputs = record { value = 1000; script = 0x51 ∷ [] } ∷ []; lock_time = 500 }

second_is_signed : signed_list both second (0x52 ∷ 0x53 ∷ []) 7000 ≡
    ((((((((2 ∷ 0 ∷ 0 ∷ 0 ∷ [])
    ++ sha256d (replicate 32 7 ++ (1 ∷ 0 ∷ 0 ∷ 0 ∷ (replicate 32 8 ++ 0 ∷ 0 ∷ 0 ∷ 0 ∷ [])) ++ []))
    ++ sha256d (5 ∷ 0 ∷ 0 ∷ 0 ∷ 144 ∷ 0 ∷ 0 ∷ 0 ∷ []))
    ++ (replicate 32 8 ++ 0 ∷ 0 ∷ 0 ∷ 0 ∷ []))
    ++ (2 ∷ 0x52 ∷ 0x53 ∷ []))
    ++ (0x58 ∷ 0x1b ∷ 0 ∷ 0 ∷ 0 ∷ 0 ∷ 0 ∷ 0 ∷ []))
    ++ (144 ∷ 0 ∷ 0 ∷ 0 ∷ []))
    ++ sha256d (0xe8 ∷ 0x03 ∷ 0 ∷ 0 ∷ 0 ∷ 0 ∷ 0 ∷ 0 ∷ 1 ∷ 0x51 ∷ []))
    ++ (0xf4 ∷ 0x01 ∷ 0 ∷ 0 ∷ [])
    ++ (1 ∷ 0 ∷ 0 ∷ 0 ∷ [])
unfolding signed_list all_outpoints all_sequences all_outputs outpoint output bytes_with_length compact_size number
second_is_signed = refl

only_refusal : refusal_number NoSuchInput ≡ 1
only_refusal = refl
