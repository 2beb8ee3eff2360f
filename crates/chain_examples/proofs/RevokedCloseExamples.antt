-- Why a side that closed a channel may revoke no more. On the chain here the node closed the channel with its commitment 0, and then took a signature for number 1, so that it gave out the secret of the commitment that
-- stands there. All else that the laws ask is met, and what they say of the channel is refuted.
use Rattle.std.proofs.Common.{◌≡◌, Bool, true, false, not, List, [], ◌∷◌, Some, refl, sym, ap, ◌∙◌, subst, arith}
use Rattle.std.specs.Prelude.{◌&&◌}
use Rattle.std.specs.List.{list_all}
use Rattle.std.specs.Str.{bytes_eq}
use Rattle.std.proofs.lemmas.Bool.{false≢true, and_parts}
use Rattle.std.proofs.lemmas.Option.{slice_get_past}
use Rattle.std.proofs.lemmas.Slice.Eq.{bytes_eq-Decides}
use Rattle.sha2.specs.Sha256.{sha256, digest_bytes, hash_after, compress, rounds, schedule, first_words}
use Rattle.digest.specs.Ripemd160.{left_words, right_words, left_rotations, right_rotations, left_constants, right_constants, block_words, left_line, right_line, blocks, ripemd160, compress as ripemd_compress, hash_after as ripemd_hash_after, digest_bytes as ripemd_digest_bytes}
use Rattle.script.specs.Number.{number_of, digits, minimal_bytes_of}
use Rattle.script.specs.Token.{token_of, is_key, is_token, is_signature}
use Rattle.script.specs.Step.{lock_passes, age_passes, multi_sig, effect}
use Rattle.script.specs.Run.{state_after}
use Rattle.tx.specs.Spelling.{number, compact_size, bytes_with_length, outpoint, input, output, body, stripped_spelling, transaction_id}
use Rattle.sighash.specs.Signing.{all_outpoints, all_sequences, all_outputs, signed_list}
use Rattle.sighash.specs.Programs.{single_op, script_ops, key_hash_program, script_hash_program, given_of, run_of}
use Rattle.keys.specs.Derivation.{point_of, derived_key, revocation_key}
use Rattle.terms.specs.Numbers.{mask_of}
use Rattle.terms.specs.Scripts.{number_push}
use Rattle.chain.specs.Checks.{transaction_refusal}
use Rattle.commit.specs.Keys.{keys_of}
use Rattle.commit.specs.Order.{output_cmp, in_order}
use Rattle.commit.specs.Outputs.{to_local_script, to_remote_script, htlc_script, outputs_of}
use Rattle.commit.specs.Commitments.{Contents, commitment_of, transaction_of, htlcs_from, htlc_tx_of}
use Rattle.commit.specs.Signing.{funding_script}
use Rattle.penalty.specs.Claimable.{claims_by}
use Rattle.resolve.specs.Due.{peers_due}
use Rattle.tx.specs.Fields.{Transaction}
use Rattle.tx.proofs.Witnesses.{same_id}
use Rattle.chain.specs.Blocks.{Contents as Block, Coin, grant_id, coin_at}
use Rattle.terms.specs.declared.sides.Side.TheVariants.{A}
use Rattle.channel.specs.declared.commitments.CommitmentState.{CommitmentState}
use Rattle.channel.specs.Tokens.{contents_of}
use Rattle.safety.specs.Whereabouts.{IsOnChain}
use Rattle.safety.specs.Holdings.{Holding}
use Rattle.safety.specs.Closers.{IsCloser, revoked, newest, next, own}
use Rattle.safety.specs.Everybody.{ChannelStands, unclosed, closed, broken}
use Rattle.safety.proofs.Lists.{none_some, some_is}
use Rattle.safety.proofs.Tests.{all_hold}
use Rattle.safety.proofs.Standing.{block_in}
use Rattle.safety.proofs.Seconds.{bare_commitment}
use Rattle.safety.proofs.Examples.{key}
use Rattle.safety.proofs.Worked.{keeps_numbers, keeps_rules}
use Rattle.safety.proofs.WorkedChannels.{first_terms, first_opened, first_own, plain, commitment, block, funded, granting, closing, state, holding}
use Rattle.chain_examples.proofs.Tests.{is_worked, no, nothing_breaks}

-- ---- a revocation after one's own close

abbrev second_own : CommitmentState
second_own = commitment A 1 (key 0x68) plain

-- it closed with number 0, and its newest commitment is number 1
abbrev channel : Holding
channel = holding (record (state first_terms 0 false [] (first_own ∷ second_own ∷ []) (first_opened ∷ [])) { number = 1 }) [] (Some 0)

abbrev chain : List Block
chain = block (closing first_terms first_own ∷ []) ∷ granting ∷ []

-- no transaction there has the id of this one
abbrev is_absent : List Block → Transaction → Bool
is_absent blocks t = list_all (λ b. list_all (λ u. not (bytes_eq (transaction_id u) (transaction_id t))) b.transactions) blocks

abbrev is_lost : Bool
is_lost = (keeps_numbers channel.state && not (keeps_rules channel)) && is_absent chain (transaction_of (contents_of first_terms first_opened))

passed : (is_worked (channel ∷ []) chain && is_lost) ≡ true
unfolding sha256 digest_bytes hash_after compress rounds schedule first_words ripemd160 left_words right_words left_rotations right_rotations left_constants right_constants block_words left_line right_line blocks ripemd_compress ripemd_hash_after ripemd_digest_bytes token_of is_key is_token is_signature number_of digits minimal_bytes_of lock_passes age_passes multi_sig effect state_after number compact_size bytes_with_length outpoint input output body stripped_spelling transaction_id all_outpoints all_sequences all_outputs signed_list single_op script_ops key_hash_program script_hash_program given_of run_of point_of derived_key revocation_key mask_of number_push grant_id transaction_refusal keys_of output_cmp in_order to_local_script to_remote_script htlc_script outputs_of commitment_of transaction_of htlcs_from htlc_tx_of funding_script claims_by peers_due
passed = refl

spent : coin_at chain first_terms.funding ≡ Some (record { output = funded first_terms; height = 0; spent = true })
unfolding sha256 digest_bytes hash_after compress rounds schedule first_words ripemd160 left_words right_words left_rotations right_rotations left_constants right_constants block_words left_line right_line blocks ripemd_compress ripemd_hash_after ripemd_digest_bytes token_of is_key is_token is_signature number_of digits minimal_bytes_of lock_passes age_passes multi_sig effect state_after number compact_size bytes_with_length outpoint input output body stripped_spelling transaction_id all_outpoints all_sequences all_outputs signed_list single_op script_ops key_hash_program script_hash_program given_of run_of point_of derived_key revocation_key mask_of number_push grant_id transaction_refusal keys_of output_cmp in_order to_local_script to_remote_script htlc_script outputs_of commitment_of transaction_of htlcs_from htlc_tx_of funding_script claims_by peers_due
spent = refl

not_there : (blocks : List Block) (c : Contents) → is_absent blocks (transaction_of c) ≡ true → IsOnChain blocks (transaction_of c) → ⊥
not_there blocks c e on =
    let b = all_hold (λ (x : Block). list_all (λ (u : Transaction). not (bytes_eq (transaction_id u) (transaction_id (transaction_of c)))) x.transactions) blocks e on.stands.block (block_in blocks on.height on.signed on.stands) in
    let differ = no (bytes_eq (transaction_id on.signed) (transaction_id (transaction_of c)))
    (all_hold (λ (u : Transaction). not (bytes_eq (transaction_id u) (transaction_id (transaction_of c)))) on.stands.block.transactions b on.signed on.stands.within) in
    let same : transaction_id on.signed ≡ transaction_id (transaction_of c) = same_id on.signed (transaction_of c) (on.same ∙ sym (bare_commitment c)) in
    false≢true (sym differ ∙ (bytes_eq-Decides (transaction_id on.signed) (transaction_id (transaction_of c))).1 same)

breaks_rules : keeps_rules channel ≡ false
breaks_rules =
    let a = and_parts (is_worked (channel ∷ []) chain) is_lost passed in
    let b = and_parts (keeps_numbers channel.state && not (keeps_rules channel)) (is_absent chain (transaction_of (contents_of first_terms first_opened))) a.1 in
    no (keeps_rules channel) (and_parts (keeps_numbers channel.state) (not (keeps_rules channel)) b.0).1

gone : is_absent chain (transaction_of (contents_of first_terms first_opened)) ≡ true
gone =
    let a = and_parts (is_worked (channel ∷ []) chain) is_lost passed in
    (and_parts (keeps_numbers channel.state && not (keeps_rules channel)) (is_absent chain (transaction_of (contents_of first_terms first_opened))) a.1).1

-- only the peer's commitment 0 may close the channel, and that is not there
no_closer : (k : CommitmentState) → IsCloser channel k → IsOnChain chain (transaction_of (contents_of first_terms k)) → ⊥
no_closer k (revoked n there r) on = none_some r.secret (sym (slice_get_past [] n (omega arith)) ∙ r.there)
no_closer k (newest there) on =
    not_there chain (contents_of first_terms first_opened) gone (subst (λ (x : CommitmentState). IsOnChain chain (transaction_of (contents_of first_terms x))) (sym (some_is first_opened k there)) on)
no_closer k (next awaits there) on = false≢true awaits
no_closer k (own at there) on = let e : 0 ≡ 1 = some_is 0 1 at in omega (arith, e)

stands_nowhere : ChannelStands (channel ∷ []) chain channel → ⊥
stands_nowhere (unclosed coin at free ready) = false≢true (sym free ∙ ap (λ (x : Coin). x.spent) (sym (some_is (record { output = funded first_terms; height = 0; spent = true }) coin (sym spent ∙ at))))
stands_nowhere (closed k closer on held) = no_closer k closer on
stands_nowhere (broken b) = nothing_breaks (channel ∷ []) chain (and_parts (is_worked (channel ∷ []) chain) is_lost passed).0 b
