-- The tokens that the node gives out with the four commitments of its peers, of the recorded bytes: what each is over, its digest, and how the hashes begin of what is hashed for it. All chains have these tokens, so they
-- are computed here once.
use Rattle.std.proofs.Common.{◌≡◌, ℕ, List, [], ◌∷◌, ◌++◌, map, ap, ◌∙◌, refl}
use Rattle.std.specs.List.{flat_map}
use Rattle.std.proofs.lemmas.List.{map-append}
use Rattle.sha2.specs.Sha256.{sha256, digest_bytes, hash_after, compress, rounds, schedule, first_words}
use Rattle.digest.specs.Ripemd160.{left_words, right_words, left_rotations, right_rotations, left_constants, right_constants, block_words, left_line, right_line, blocks, ripemd160, compress as ripemd_compress, hash_after as ripemd_hash_after, digest_bytes as ripemd_digest_bytes}
use Rattle.digest.specs.Hash.{sha256d}
use Rattle.script.specs.Number.{digits, minimal_bytes_of}
use Rattle.tx.specs.Parts.{Output}
use Rattle.tx.specs.Spelling.{number, compact_size, bytes_with_length, outpoint, output}
use Rattle.sighash.specs.Signing.{all_outpoints, all_sequences, all_outputs, signed_list}
use Rattle.sighash.specs.Programs.{script_hash_program}
use Rattle.terms.specs.Scripts.{number_push}
use Rattle.terms.specs.declared.agreement.Terms.{Terms}
use Rattle.commit.specs.Outputs.{to_local_script, to_remote_script, htlc_script}
use Rattle.commit.specs.Commitments.{Contents, spending, tx_output, transaction_of, id_of, htlcs_from, htlcs_of, htlc_tx_of}
use Rattle.commit.specs.Signing.{funding_script, input_of}
use Rattle.channel.specs.declared.commitments.CommitmentState.{CommitmentState}
use Rattle.channel.specs.Tokens.{funding_key}
use Rattle.safety.specs.Fates.{htlc_signed}
use Rattle.safety.specs.Holdings.{Release}
use Rattle.safety.specs.Given.{GivenToken, with_release}
use Rattle.safety.proofs.Examples.{key}
use Rattle.safety.proofs.WorkedChannels.{first_terms, second_terms, first_opened, first_newest, second_opened, second_newest}
use Rattle.chain_examples.proofs.Marks.{beginning}
use Rattle.chain_examples.proofs.Spends.{signed_over, outpoints_in, sequences_in, outputs_paid}
use Rattle.chain_examples.proofs.Recorded.{first_grant, first_funding, second_grant, second_funding, first_opened_digest, first_opened_contents, first_newest_id, first_newest_named, first_newest_keys, first_newest_htlc_0, first_newest_htlc_1, first_newest_delayed_program, first_newest_digest, first_newest_stage_0_digest, first_newest_stage_1_digest, first_newest_contents, first_own_contents, second_opened_id, second_opened_named, second_opened_keys, second_opened_delayed_program, second_opened_htlc_1, second_opened_digest, second_opened_stage_1_digest, second_opened_contents, second_newest_digest, second_newest_contents, second_own_contents}

-- ---- those of both channels, with the node's own

-- of each channel those with its commitments and those with its releases, and of the second channel those of a close
abbrev pub joined : {X : Type 0} → (first second released also closing : List X) → List X
joined first second released also closing = ((first ++ released) ++ []) ++ (((second ++ also) ++ closing) ++ [])

pub mapped : {X Y : Type 0} (f : X → Y) (first second released also closing : List X) {p q u v w : List Y} → map f first ≡ p → map f second ≡ q → map f released ≡ u → map f also ≡ v → map f closing ≡ w
    → map f (joined first second released also closing) ≡ joined p q u v w
mapped {X} {Y} f first second released also closing {p} {q} {u} {v} {w} a b c d e =
    map-append f ((first ++ released) ++ []) (((second ++ also) ++ closing) ++ [])
    ∙ ap (λ (ys : List Y). ys ++ map f (((second ++ also) ++ closing) ++ [])) (map-append f (first ++ released) [] ∙ ap (λ (ys : List Y). ys ++ []) (map-append f first released))
    ∙ ap (λ (ys : List Y). ((map f first ++ map f released) ++ []) ++ ys)
    (map-append f ((second ++ also) ++ closing) [] ∙ ap (λ (ys : List Y). ys ++ []) (map-append f (second ++ also) closing ∙ ap (λ (ys : List Y). ys ++ map f closing) (map-append f second also)))
    ∙ ap (λ (ys : List Y). joined ys (map f second) (map f released) (map f also) (map f closing)) a ∙ ap (λ (ys : List Y). joined p ys (map f released) (map f also) (map f closing)) b
    ∙ ap (λ (ys : List Y). joined p q ys (map f also) (map f closing)) c ∙ ap (λ (ys : List Y). joined p q u ys (map f closing)) d ∙ ap (λ (ys : List Y). joined p q u v ys) e

-- those that the node gives out with a commitment of these contents
abbrev pub given_one : Terms → CommitmentState → Contents → List GivenToken
given_one terms k c =
    record { key = funding_key terms k; over = record { transaction = transaction_of c; input = input_of c.funding c.hidden.sequence; code = funding_script terms; value = terms.capacity_sat } }
    ∷ map (λ x. record { key = c.keys.remote_htlc; over = htlc_signed c x }) (htlcs_of c)

-- with two commitments of one channel
abbrev given_two : Terms → CommitmentState → CommitmentState → Contents → Contents → List GivenToken
given_two terms k l c d = given_one terms k c ++ (given_one terms l d ++ [])

-- with those of what it released, and those of a close of the second channel with its own commitment
abbrev pub given_from : (first second : List Release) (closing : Contents → List GivenToken) (a b c d e f : Contents) → List GivenToken
given_from first second closing a b c d e f = joined (given_two first_terms first_opened first_newest a b) (given_two second_terms second_opened second_newest d e) (flat_map with_release first) (flat_map with_release second) (closing f)

-- ---- those with the peers' commitments

-- a token of a key, over the only input of a transaction
abbrev pub token : (key txid : List ℕ) (index sequence : ℕ) → List Output → (lock_time : ℕ) (code : List ℕ) (value : ℕ) → GivenToken
token key txid index sequence outputs lock_time code value = record {
  key = key;
  over = record {
    transaction = spending (record { txid = txid; index = index }) sequence outputs lock_time;
    input = input_of (record { txid = txid; index = index }) sequence;
    code = code;
    value = value;
  };
}

abbrev pub first_tokens : List GivenToken
first_tokens =
    token (key 0x10).bytes first_grant 0 2157138076 (map tx_output first_opened_contents.outputs) 540886090 first_funding 100000
    ∷ token (key 0x10).bytes first_grant 0 2157138076 (map tx_output first_newest_contents.outputs) 540886091 first_funding 100000
    ∷ token first_newest_keys.remote_htlc first_newest_id 0 0 (record { value = 9297; script = first_newest_delayed_program } ∷ []) 0 first_newest_htlc_0 10000
    ∷ token first_newest_keys.remote_htlc first_newest_id 1 0 (record { value = 11337; script = first_newest_delayed_program } ∷ []) 3 first_newest_htlc_1 12000
    ∷ []

abbrev pub second_tokens : List GivenToken
second_tokens =
    token (key 0x30).bytes second_grant 0 2159067084 (map tx_output second_opened_contents.outputs) 549032011 second_funding 100000
    ∷ token second_opened_keys.remote_htlc second_opened_id 1 0 (record { value = 11337; script = second_opened_delayed_program } ∷ []) 3 second_opened_htlc_1 12000
    ∷ token (key 0x30).bytes second_grant 0 2159067084 (map tx_output second_newest_contents.outputs) 549032010 second_funding 100000
    ∷ []

-- the same with an id of the commitment that the HTLC transactions spend
abbrev first_tokens_at : List ℕ → List GivenToken
first_tokens_at id =
    token (key 0x10).bytes first_grant 0 2157138076 (map tx_output first_opened_contents.outputs) 540886090 first_funding 100000
    ∷ token (key 0x10).bytes first_grant 0 2157138076 (map tx_output first_newest_contents.outputs) 540886091 first_funding 100000
    ∷ token first_newest_keys.remote_htlc id 0 0 (record { value = 9297; script = first_newest_delayed_program } ∷ []) 0 first_newest_htlc_0 10000
    ∷ token first_newest_keys.remote_htlc id 1 0 (record { value = 11337; script = first_newest_delayed_program } ∷ []) 3 first_newest_htlc_1 12000
    ∷ []

abbrev second_tokens_at : List ℕ → List GivenToken
second_tokens_at id =
    token (key 0x30).bytes second_grant 0 2159067084 (map tx_output second_opened_contents.outputs) 549032011 second_funding 100000
    ∷ token second_opened_keys.remote_htlc id 1 0 (record { value = 11337; script = second_opened_delayed_program } ∷ []) 3 second_opened_htlc_1 12000
    ∷ token (key 0x30).bytes second_grant 0 2159067084 (map tx_output second_newest_contents.outputs) 549032010 second_funding 100000
    ∷ []

with_first_at : given_two first_terms first_opened first_newest first_opened_contents first_newest_contents ≡ first_tokens_at (id_of first_newest_contents)
unfolding sha256 digest_bytes hash_after compress rounds schedule first_words ripemd160 left_words right_words left_rotations right_rotations left_constants right_constants block_words left_line right_line blocks ripemd_compress ripemd_hash_after ripemd_digest_bytes digits minimal_bytes_of number_push script_hash_program to_local_script to_remote_script htlc_script transaction_of htlcs_from htlc_tx_of funding_script
with_first_at = refl

with_first : given_two first_terms first_opened first_newest first_opened_contents first_newest_contents ≡ first_tokens
with_first = with_first_at ∙ ap first_tokens_at first_newest_named

with_second_at : given_two second_terms second_opened second_newest second_opened_contents second_newest_contents ≡ second_tokens_at (id_of second_opened_contents)
unfolding sha256 digest_bytes hash_after compress rounds schedule first_words ripemd160 left_words right_words left_rotations right_rotations left_constants right_constants block_words left_line right_line blocks ripemd_compress ripemd_hash_after ripemd_digest_bytes digits minimal_bytes_of number_push script_hash_program to_local_script to_remote_script htlc_script transaction_of htlcs_from htlc_tx_of funding_script
with_second_at = refl

with_second : given_two second_terms second_opened second_newest second_opened_contents second_newest_contents ≡ second_tokens
with_second = with_second_at ∙ ap second_tokens_at second_opened_named

pub given_recorded : (first second : List Release) (closing : Contents → List GivenToken)
    → given_from first second closing first_opened_contents first_newest_contents first_own_contents second_opened_contents second_newest_contents second_own_contents
    ≡ joined first_tokens second_tokens (flat_map with_release first) (flat_map with_release second) (closing second_own_contents)
given_recorded first second closing =
    ap (λ (zs : List GivenToken). joined zs (given_two second_terms second_opened second_newest second_opened_contents second_newest_contents) (flat_map with_release first) (flat_map with_release second) (closing second_own_contents)) with_first
    ∙ ap (λ (zs : List GivenToken). joined first_tokens zs (flat_map with_release first) (flat_map with_release second) (closing second_own_contents)) with_second

-- ---- their digests, and how the hashes begin of what is hashed for them

abbrev pub points_of : GivenToken → ℕ
points_of z = beginning (sha256d (outpoints_in z.over))

abbrev pub ages_of : GivenToken → ℕ
ages_of z = beginning (sha256d (sequences_in z.over))

abbrev pub payments_of : GivenToken → ℕ
payments_of z = beginning (sha256d (outputs_paid z.over))

pub first_signed : map signed_over first_tokens ≡ first_opened_digest ∷ first_newest_digest ∷ first_newest_stage_0_digest ∷ first_newest_stage_1_digest ∷ []
unfolding sha256 digest_bytes hash_after compress rounds schedule first_words number compact_size bytes_with_length outpoint output all_outpoints all_sequences all_outputs signed_list
first_signed = refl

pub second_signed : map signed_over second_tokens ≡ second_opened_digest ∷ second_opened_stage_1_digest ∷ second_newest_digest ∷ []
unfolding sha256 digest_bytes hash_after compress rounds schedule first_words number compact_size bytes_with_length outpoint output all_outpoints all_sequences all_outputs signed_list
second_signed = refl

pub first_points : map points_of first_tokens ≡ 0x0c16bb0e ∷ 0x0c16bb0e ∷ 0x1153e5f3 ∷ 0xf1efbbf6 ∷ []
unfolding sha256 digest_bytes hash_after compress rounds schedule first_words number compact_size bytes_with_length outpoint output all_outpoints all_sequences all_outputs signed_list
first_points = refl

pub second_points : map points_of second_tokens ≡ 0xb3dbeb72 ∷ 0x9728119d ∷ 0xb3dbeb72 ∷ []
unfolding sha256 digest_bytes hash_after compress rounds schedule first_words number compact_size bytes_with_length outpoint output all_outpoints all_sequences all_outputs signed_list
second_points = refl

pub first_ages : map ages_of first_tokens ≡ 0xe118709c ∷ 0xe118709c ∷ 0x8cb90125 ∷ 0x8cb90125 ∷ []
unfolding sha256 digest_bytes hash_after compress rounds schedule first_words number compact_size bytes_with_length outpoint output all_outpoints all_sequences all_outputs signed_list
first_ages = refl

pub second_ages : map ages_of second_tokens ≡ 0xf0328505 ∷ 0x8cb90125 ∷ 0xf0328505 ∷ []
unfolding sha256 digest_bytes hash_after compress rounds schedule first_words number compact_size bytes_with_length outpoint output all_outpoints all_sequences all_outputs signed_list
second_ages = refl

pub first_payments : map payments_of first_tokens ≡ 0xd64ab62f ∷ 0xa54faaa8 ∷ 0xbf4f8add ∷ 0x9699cb55 ∷ []
unfolding sha256 digest_bytes hash_after compress rounds schedule first_words number compact_size bytes_with_length outpoint output all_outpoints all_sequences all_outputs signed_list
first_payments = refl

pub second_payments : map payments_of second_tokens ≡ 0x4f88120a ∷ 0x1c10ab3a ∷ 0xf0d37a5d ∷ []
unfolding sha256 digest_bytes hash_after compress rounds schedule first_words number compact_size bytes_with_length outpoint output all_outpoints all_sequences all_outputs signed_list
second_payments = refl
