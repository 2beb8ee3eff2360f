-- Why an HTLC that the node offers has to expire above 0, on a chain. The peer takes it with the node's own token on the HTLC-success transaction, and shows no preimage: the way that is the node's once the HTLC
-- expired asks for that token and for a lock time of at least the expiry. All else that the laws ask is met, and what they say of the output is refuted.
use Rattle.std.proofs.Common.{◌≡◌, ℕ, Bool, true, false, not, List, [], ◌∷◌, replicate, None, refl}
use Rattle.std.specs.Prelude.{◌&&◌}
use Rattle.std.proofs.lemmas.Bool.{and_parts}
use Rattle.chain.specs.Blocks.{Contents as Block, grant_id}
use Rattle.sha2.specs.Sha256.{sha256, digest_bytes, hash_after, compress, rounds, schedule, first_words}
use Rattle.digest.specs.Ripemd160.{left_words, right_words, left_rotations, right_rotations, left_constants, right_constants, block_words, left_line, right_line, blocks, ripemd160, compress as ripemd_compress, hash_after as ripemd_hash_after, digest_bytes as ripemd_digest_bytes}
use Rattle.script.specs.Number.{number_of, digits, minimal_bytes_of}
use Rattle.script.specs.Token.{token_of, is_key, is_token, is_signature}
use Rattle.script.specs.Step.{lock_passes, age_passes, multi_sig, effect}
use Rattle.script.specs.Run.{state_after}
use Rattle.tx.specs.Spelling.{number, compact_size, bytes_with_length, outpoint, input, output, body, stripped_spelling, transaction_id}
use Rattle.sighash.specs.Signing.{all_outpoints, all_sequences, all_outputs, signed_list}
use Rattle.sighash.specs.Programs.{single_op, script_ops, key_hash_program, script_hash_program, given_of, run_of}
use Rattle.keys.specs.Derivation.{point_of, derived_key, revocation_key}
use Rattle.terms.specs.Numbers.{mask_of}
use Rattle.terms.specs.Scripts.{number_push}
use Rattle.chain.specs.Checks.{transaction_refusal}
use Rattle.commit.specs.Keys.{keys_of}
use Rattle.commit.specs.Order.{output_cmp, in_order}
use Rattle.commit.specs.Outputs.{to_local_script, to_remote_script, htlc_script, outputs_of}
use Rattle.commit.specs.Commitments.{Contents, commitment_of, transaction_of, id_of, htlcs_from, htlc_tx_of}
use Rattle.commit.specs.Signing.{funding_script}
use Rattle.penalty.specs.Claimable.{Claimable, claims_by}
use Rattle.resolve.specs.Due.{peers_due}
use Rattle.tx.specs.Fields.{Transaction}
use Rattle.terms.specs.declared.sides.Side.TheVariants.{B}
use Rattle.commit.specs.declared.fees.Direction.TheVariants.{Received}
use Rattle.commit.specs.declared.outputs.HtlcOutput.{HtlcOutput}
use Rattle.resolve.specs.Due.{direct_on}
use Rattle.channel.specs.declared.commitments.CommitmentState.{CommitmentState}
use Rattle.channel.specs.Tokens.{contents_of}
use Rattle.claim.specs.declared.parts.Place.{Place}
use Rattle.safety.specs.Signing.{digest_of}
use Rattle.safety.specs.Fates.{htlc_signed}
use Rattle.safety.specs.Holdings.{Holding}
use Rattle.safety.specs.Breaks.{Breaks}
use Rattle.safety.specs.Resolutions.{Resolution, IsPaidOrLate}
use Rattle.safety.proofs.Worked.{keeps_numbers, keeps_rules, paid_or_late, is_stolen, stolen_claim}
use Rattle.safety.proofs.Examples.{key}
use Rattle.safety.proofs.WorkedChannels.{first_terms, first_opened, first_own, commitment, block, granting, closing, state, holding}
use Rattle.chain_examples.proofs.Tests.{is_worked, no, nothing_breaks}

-- 10,000 satoshis, with an expiry of 0
abbrev at_zero : HtlcOutput
at_zero = record { index = 0; direction = Received; htlc = record { id = 0; amount_msat = 10000000; hash = sha256 (replicate 32 7); expiry_height = 0 } }

abbrev newest : CommitmentState
newest = commitment B 1 (key 0x55) (record { a = record { balance_msat = 70000000; offered = at_zero.htlc ∷ [] }; b = record { balance_msat = 20000000; offered = [] }; feerate_per_kw = 1000 })

abbrev c : Contents
c = contents_of first_terms newest

abbrev script : List ℕ
script = htlc_script c.keys Received at_zero.htlc

abbrev takes : Transaction
takes = record {
  version = 2;
  inputs = record { outpoint = record { txid = id_of c; index = 0 }; sequence = 0; witness = token_of c.keys.remote_htlc (digest_of (htlc_signed c at_zero)) ∷ [] ∷ script ∷ [] } ∷ [];
  outputs = (htlc_tx_of c at_zero).outputs;
  lock_time = 0;
}

abbrev chain : List Block
chain = block (takes ∷ []) ∷ block (closing first_terms newest ∷ []) ∷ granting ∷ []

abbrev channel : Holding
channel = holding (state first_terms 1 false (replicate 32 0x50 ∷ []) (first_own ∷ []) (first_opened ∷ newest ∷ [])) [] None

abbrev on_htlc : Place
on_htlc = record { outpoint = record { txid = id_of c; index = 0 }; value = 10000; program = script_hash_program script }

-- the claim on it
abbrev claim : Claimable
claim = direct_on c Received at_zero.htlc on_htlc

-- the rules are kept but for the expiry, and the output is taken in none of the ways that the laws allow
abbrev is_lost : Bool
is_lost = (keeps_numbers channel.state && not (keeps_rules channel)) && is_stolen (channel ∷ []) chain (paid_or_late c claim) claim

passed : (is_worked (channel ∷ []) chain && is_lost) ≡ true
unfolding sha256 digest_bytes hash_after compress rounds schedule first_words ripemd160 left_words right_words left_rotations right_rotations left_constants right_constants block_words left_line right_line blocks ripemd_compress ripemd_hash_after ripemd_digest_bytes token_of is_key is_token is_signature number_of digits minimal_bytes_of lock_passes age_passes multi_sig effect state_after number compact_size bytes_with_length outpoint input output body stripped_spelling transaction_id all_outpoints all_sequences all_outputs signed_list single_op script_ops key_hash_program script_hash_program given_of run_of point_of derived_key revocation_key mask_of number_push grant_id transaction_refusal keys_of output_cmp in_order to_local_script to_remote_script htlc_script outputs_of commitment_of transaction_of htlcs_from htlc_tx_of funding_script claims_by peers_due
passed = refl

breaks_rules : keeps_rules channel ≡ false
breaks_rules =
    let a = and_parts (is_worked (channel ∷ []) chain) is_lost passed in
    let b = and_parts (keeps_numbers channel.state && not (keeps_rules channel)) (is_stolen (channel ∷ []) chain (paid_or_late c claim) claim) a.1 in
    no (keeps_rules channel) (and_parts (keeps_numbers channel.state) (not (keeps_rules channel)) b.0).1

lost : Resolution Breaks (channel ∷ []) chain (IsPaidOrLate false c claim) claim → ⊥
lost r =
    let a = and_parts (is_worked (channel ∷ []) chain) is_lost passed in
    let b = and_parts (keeps_numbers channel.state && not (keeps_rules channel)) (is_stolen (channel ∷ []) chain (paid_or_late c claim) claim) a.1 in
    nothing_breaks (channel ∷ []) chain a.0 (stolen_claim (channel ∷ []) chain c claim b.1 r)
