-- The transactions that close the first channel with its peer's newest commitment and the second one with a revoked one. They stand on more than one chain, so their ids are computed here once, and their scripts run here.
use Rattle.std.proofs.Common.{◌≡◌, ℕ, false, List, [], ◌∷◌, map, drop, get_or, Some, None, refl, ap}
use Rattle.digest.specs.Hash.{sha256d}
use Rattle.script.specs.Number.{number_of, digits, minimal_bytes_of}
use Rattle.script.specs.Token.{token_of, is_key, is_token, is_signature}
use Rattle.script.specs.Step.{lock_passes, age_passes, multi_sig, effect}
use Rattle.script.specs.Run.{state_after}
use Rattle.tx.specs.declared.input.TxIn.{TxIn}
use Rattle.tx.specs.Fields.{Transaction}
use Rattle.tx.specs.Spelling.{number, compact_size, bytes_with_length, outpoint, input, output, body, stripped_spelling, transaction_id}
use Rattle.sighash.specs.Signing.{all_outpoints, all_sequences, all_outputs, signed_list}
use Rattle.sighash.specs.Programs.{single_op, script_ops, given_of}
use Rattle.chain.specs.Blocks.{Coin}
use Rattle.chain.specs.Checks.{coin_refusal}
use Rattle.commit.specs.Commitments.{tx_output, transaction_of}
use Rattle.safety.proofs.Examples.{key}
use Rattle.chain_examples.proofs.Checks.{lone, shown_by, shows, runs}
use Rattle.chain_examples.proofs.Scripts.{first_funding_hashed, second_funding_hashed}
use Rattle.chain_examples.proofs.Tokens.{first_signed, second_signed}
use Rattle.chain_examples.proofs.Recorded.{first_grant, first_funding, first_funding_program, second_grant, second_funding, second_funding_program, first_newest_id, first_newest_digest, first_newest_contents, first_newest_named, second_opened_id, second_opened_digest, second_opened_contents, second_opened_named}

abbrev pub closes_first_input : TxIn
closes_first_input = record { outpoint = record { txid = first_grant; index = 0 }; sequence = 2157138076; witness = [] ∷ token_of (key 0x10).bytes first_newest_digest ∷ token_of (key 0x20).bytes first_newest_digest ∷ first_funding ∷ [] }

abbrev pub closes_first : Transaction
closes_first = lone closes_first_input (map tx_output first_newest_contents.outputs) 540886091

pub closes_first_is : transaction_id closes_first ≡ first_newest_id
unfolding number compact_size bytes_with_length outpoint input output body stripped_spelling transaction_id transaction_of
closes_first_is = first_newest_named

abbrev pub closes_first_coin : Coin
closes_first_coin = record { output = record { value = 100000; script = first_funding_program }; height = 0; spent = false }

closes_first_signed : sha256d (signed_list closes_first closes_first_input first_funding 100000) ≡ first_newest_digest
unfolding all_outpoints all_sequences all_outputs signed_list
closes_first_signed = ap (λ (ds : List (List ℕ)). get_or ds 1 []) first_signed

pub closes_first_runs : coin_refusal 1 closes_first closes_first_input (Some closes_first_coin) ≡ None
unfolding number_of digits minimal_bytes_of token_of is_key is_token is_signature lock_passes age_passes multi_sig effect state_after single_op script_ops given_of
closes_first_runs = runs 1 closes_first closes_first_input closes_first_coin (shown_by first_funding closes_first_input.witness) first_newest_digest (shows (drop 2 first_funding_program) first_funding closes_first_input.witness first_funding_hashed) closes_first_signed refl

abbrev pub closes_second_input : TxIn
closes_second_input = record { outpoint = record { txid = second_grant; index = 0 }; sequence = 2159067084; witness = [] ∷ token_of (key 0x30).bytes second_opened_digest ∷ token_of (key 0x40).bytes second_opened_digest ∷ second_funding ∷ [] }

abbrev pub closes_second : Transaction
closes_second = lone closes_second_input (map tx_output second_opened_contents.outputs) 549032011

pub closes_second_is : transaction_id closes_second ≡ second_opened_id
unfolding number compact_size bytes_with_length outpoint input output body stripped_spelling transaction_id transaction_of
closes_second_is = second_opened_named

abbrev pub closes_second_coin : Coin
closes_second_coin = record { output = record { value = 100000; script = second_funding_program }; height = 0; spent = false }

closes_second_signed : sha256d (signed_list closes_second closes_second_input second_funding 100000) ≡ second_opened_digest
unfolding all_outpoints all_sequences all_outputs signed_list
closes_second_signed = ap (λ (ds : List (List ℕ)). get_or ds 0 []) second_signed

pub closes_second_runs : coin_refusal 1 closes_second closes_second_input (Some closes_second_coin) ≡ None
unfolding number_of digits minimal_bytes_of token_of is_key is_token is_signature lock_passes age_passes multi_sig effect state_after single_op script_ops given_of
closes_second_runs = runs 1 closes_second closes_second_input closes_second_coin (shown_by second_funding closes_second_input.witness) second_opened_digest (shows (drop 2 second_funding_program) second_funding closes_second_input.witness second_funding_hashed) closes_second_signed refl
