-- The transaction that closes the first of the two channels of one seed with the node's own commitment, which stands on more than one chain, and the hashes of the scripts that its outputs' spenders show.
use Rattle.std.proofs.Common.{◌≡◌, ℕ, false, List, [], ◌∷◌, map, drop, get_or, Some, None, refl, ap}
use Rattle.sha2.specs.Sha256.{sha256, digest_bytes, hash_after, compress, rounds, schedule, first_words}
use Rattle.digest.specs.Hash.{sha256d}
use Rattle.script.specs.Number.{number_of, digits, minimal_bytes_of}
use Rattle.script.specs.Token.{token_of, is_key, is_token, is_signature}
use Rattle.script.specs.Step.{lock_passes, age_passes, multi_sig, effect}
use Rattle.script.specs.Run.{state_after}
use Rattle.tx.specs.declared.input.TxIn.{TxIn}
use Rattle.tx.specs.Fields.{Transaction}
use Rattle.tx.specs.Spelling.{number, compact_size, bytes_with_length, outpoint, input, output, body, stripped_spelling, transaction_id}
use Rattle.sighash.specs.Signing.{all_outpoints, all_sequences, all_outputs, signed_list}
use Rattle.sighash.specs.Programs.{single_op, script_ops, given_of}
use Rattle.chain.specs.Blocks.{Coin}
use Rattle.chain.specs.Checks.{coin_refusal}
use Rattle.commit.specs.Commitments.{tx_output, transaction_of}
use Rattle.safety.proofs.Examples.{key}
use Rattle.chain_examples.proofs.Checks.{lone, shown_by, shows, runs}
use Rattle.chain_examples.proofs.Scripts.{first_funding_hashed}
use Rattle.chain_examples.proofs.Recorded.{first_grant, first_funding, first_funding_program}
use Rattle.chain_examples.proofs.SeededRecorded.{seeded_own_id, seeded_own_digest, seeded_own_contents, seeded_own_named, seeded_own_htlc_0, seeded_own_htlc_0_program, seeded_own_htlc_1, seeded_own_htlc_1_program, seeded_own_htlc_2, seeded_own_htlc_2_program, seeded_own_delayed, seeded_own_delayed_program}
use Rattle.chain_examples.proofs.SeededTables.{closing_signed}

abbrev pub closes_input : TxIn
closes_input = record { outpoint = record { txid = first_grant; index = 0 }; sequence = 2157138076; witness = [] ∷ token_of (key 0x10).bytes seeded_own_digest ∷ token_of (key 0x20).bytes seeded_own_digest ∷ first_funding ∷ [] }

abbrev pub closes : Transaction
closes = lone closes_input (map tx_output seeded_own_contents.outputs) 540886090

pub closes_is : transaction_id closes ≡ seeded_own_id
unfolding number compact_size bytes_with_length outpoint input output body stripped_spelling transaction_id transaction_of
closes_is = seeded_own_named

abbrev pub closes_coin : Coin
closes_coin = record { output = record { value = 100000; script = first_funding_program }; height = 0; spent = false }

pub closes_signed : sha256d (signed_list closes closes_input first_funding 100000) ≡ seeded_own_digest
unfolding all_outpoints all_sequences all_outputs signed_list
closes_signed = ap (λ (ds : List (List ℕ)). get_or ds 0 []) closing_signed

pub closes_runs : coin_refusal 1 closes closes_input (Some closes_coin) ≡ None
unfolding number_of digits minimal_bytes_of token_of is_key is_token is_signature lock_passes age_passes multi_sig effect state_after single_op script_ops given_of
closes_runs = runs 1 closes closes_input closes_coin (shown_by first_funding closes_input.witness) seeded_own_digest (shows (drop 2 first_funding_program) first_funding closes_input.witness first_funding_hashed) closes_signed refl

pub seeded_own_htlc_0_hashed : sha256 seeded_own_htlc_0 ≡ drop 2 seeded_own_htlc_0_program
unfolding sha256 digest_bytes hash_after compress rounds schedule first_words
seeded_own_htlc_0_hashed = refl

pub seeded_own_htlc_1_hashed : sha256 seeded_own_htlc_1 ≡ drop 2 seeded_own_htlc_1_program
unfolding sha256 digest_bytes hash_after compress rounds schedule first_words
seeded_own_htlc_1_hashed = refl

pub seeded_own_htlc_2_hashed : sha256 seeded_own_htlc_2 ≡ drop 2 seeded_own_htlc_2_program
unfolding sha256 digest_bytes hash_after compress rounds schedule first_words
seeded_own_htlc_2_hashed = refl

pub seeded_own_delayed_hashed : sha256 seeded_own_delayed ≡ drop 2 seeded_own_delayed_program
unfolding sha256 digest_bytes hash_after compress rounds schedule first_words
seeded_own_delayed_hashed = refl
