-- The outputs, keys and strings of the two worked channels, whose peers have each a commitment 0 and 1: what the contents of their commitments make of them, and what their hashes begin with, as `oracles/worked_chains.py`
-- computed it.
use Rattle.std.proofs.Common.{◌≡◌, ℕ, Bool, true, false, List, [], ◌∷◌, ◌++◌, map, replicate, Option, None, sym, ap, ◌∙◌, refl, subst}
use Rattle.std.specs.List.{flat_map}
use Rattle.sha2.specs.Sha256.{sha256, digest_bytes, hash_after, compress, rounds, schedule, first_words}
use Rattle.digest.specs.Ripemd160.{left_words, right_words, left_rotations, right_rotations, left_constants, right_constants, block_words, left_line, right_line, blocks, ripemd160, compress as ripemd_compress, hash_after as ripemd_hash_after, digest_bytes as ripemd_digest_bytes}
use Rattle.digest.specs.Hash.{sha256d, hash160}
use Rattle.script.specs.Number.{digits, minimal_bytes_of}
use Rattle.tx.specs.Spelling.{number, compact_size, bytes_with_length, outpoint, input, output, body, stripped_spelling, transaction_id}
use Rattle.sighash.specs.Programs.{key_hash_program, script_hash_program}
use Rattle.keys.specs.Derivation.{point_of}
use Rattle.chain.specs.Blocks.{Contents as Block, grant_id}
use Rattle.tx.specs.Parts.{Output}
use Rattle.tx.specs.Fields.{Transaction}
use Rattle.commit.specs.declared.outputs.HtlcOutput.{HtlcOutput}
use Rattle.terms.specs.Scripts.{number_push}
use Rattle.terms.specs.declared.agreement.Terms.{Terms}
use Rattle.commit.specs.Outputs.{to_local_script, to_remote_script, htlc_script}
use Rattle.commit.specs.Commitments.{Contents, spending, transaction_of, id_of, htlcs_from, htlcs_of, lock_time_of, htlc_tx_output, htlc_tx_of}
use Rattle.commit.specs.Signing.{funding_script}
use Rattle.penalty.specs.Claimable.{claims_by}
use Rattle.channel.specs.declared.commitments.CommitmentState.{CommitmentState}
use Rattle.safety.specs.Spending.{peer_keys}
use Rattle.safety.specs.Holdings.{Release, Holding}
use Rattle.safety.specs.Premises.{LockedOutput, funding_lock, locks_of, locks_by, owner_keys, keys_by}
use Rattle.safety.proofs.Examples.{key}
use Rattle.safety.proofs.Unbroken.{own_strings, htlc_strings, strings_in, payment_hashes}
use Rattle.safety.proofs.WorkedChannels.{first_terms, second_terms, first_htlc, second_htlc, third_htlc, first_opened, first_newest, first_own, second_opened, second_newest, second_own, state, holding}
use Rattle.chain_examples.proofs.Marks.{beginnings, marked, are_distinct, NoneCollide, no_two, from_hashes, from_first}
use Rattle.chain_examples.proofs.Recorded.{first_opened_contents, first_newest_contents, first_own_contents, second_opened_contents, second_newest_contents, second_own_contents, by_contents, first_funding_program, second_funding_program, first_home_program, first_funding_lock, first_newest_lock_0, first_newest_lock_1, first_newest_lock_2, first_newest_lock_3, first_newest_stage_0_lock, first_newest_stage_1_lock, first_opened_lock_0, first_opened_lock_1, first_own_lock_0, first_own_lock_1, second_funding_lock, second_newest_lock_0, second_newest_lock_1, second_opened_lock_0, second_opened_lock_1, second_opened_lock_2, second_opened_stage_1_lock, second_own_lock_0, second_own_lock_1, first_opened_delayed_program, first_opened_delayed, first_home, first_newest_htlc_0_program, first_newest_htlc_0, first_newest_delayed_program, first_newest_delayed, first_newest_htlc_1_program, first_newest_htlc_1, first_away_program, first_away, first_own_delayed_program, first_own_delayed, second_opened_delayed_program, second_opened_delayed, second_opened_htlc_1_program, second_opened_htlc_1, second_home_program, second_home, second_newest_delayed_program, second_newest_delayed, second_away_program, second_away, second_own_delayed_program, second_own_delayed, first_opened_id, first_newest_id, first_newest_stage_0_id, first_newest_stage_1_id, first_own_id, second_opened_id, second_opened_stage_1_id, second_newest_id, first_opened_named, first_newest_named, first_own_named, second_opened_named, second_newest_named, second_own_named, lock}

-- the node: the number of the newest commitment of the first peer, whether a signature awaits its revocation, that peer's secrets, what the node released in each channel, and the number with which it closed the second one
abbrev pub node : ℕ → Bool → List (List ℕ) → List Release → List Release → Option ℕ → List Holding
node number awaiting secrets first second closed =
    holding (state first_terms number awaiting secrets (first_own ∷ []) (first_opened ∷ first_newest ∷ [])) first None
    ∷ holding (state second_terms 1 false (replicate 32 0x51 ∷ []) (second_own ∷ []) (second_opened ∷ second_newest ∷ [])) second closed ∷ []

-- the block that grants both funding outputs
abbrev pub granting : Block
granting = record { transactions = []; granted = record { value = 100000; script = second_funding_program } ∷ record { value = 100000; script = first_funding_program } ∷ [] }

-- an output of these satoshis for the node
abbrev pub pays : ℕ → List Output
pays value = record { value = value; script = first_home_program } ∷ []

-- ---- outputs

abbrev locks_from : (a b c d e f : Contents) → List LockedOutput
locks_from a b c d e f =
    (funding_lock first_terms ∷ (locks_of a ++ (locks_of b ++ (locks_of c ++ [])))) ++ ((funding_lock second_terms ∷ (locks_of d ++ (locks_of e ++ (locks_of f ++ [])))) ++ [])

abbrev pub locks : List LockedOutput
locks =
    first_funding_lock ∷ first_opened_lock_0 ∷ first_opened_lock_1 ∷ first_newest_lock_0 ∷ first_newest_stage_0_lock ∷ first_newest_lock_1 ∷ first_newest_stage_1_lock ∷ first_newest_lock_2 ∷ first_newest_lock_3 ∷ first_own_lock_0 ∷ first_own_lock_1 ∷ second_funding_lock ∷ second_opened_lock_0 ∷ second_opened_lock_1 ∷ second_opened_stage_1_lock ∷ second_opened_lock_2 ∷ second_newest_lock_0 ∷ second_newest_lock_1 ∷ second_own_lock_0 ∷ second_own_lock_1 ∷ []

-- an HTLC transaction, by the id of the commitment that it spends
abbrev pub htlc_tx_with : List ℕ → Contents → HtlcOutput → Transaction
htlc_tx_with id c x = spending (record { txid = id; index = x.index }) 0 (htlc_tx_output c x ∷ []) (lock_time_of x.direction x.htlc)

first_newest_stage_0_from : transaction_id (htlc_tx_with first_newest_id first_newest_contents first_htlc) ≡ first_newest_stage_0_id
unfolding sha256 digest_bytes hash_after compress rounds schedule first_words number compact_size bytes_with_length outpoint input output body stripped_spelling transaction_id digits minimal_bytes_of number_push script_hash_program to_local_script
first_newest_stage_0_from = refl

first_newest_stage_0_named : transaction_id (htlc_tx_of first_newest_contents first_htlc) ≡ first_newest_stage_0_id
unfolding htlc_tx_of
first_newest_stage_0_named = ap (λ (id : List ℕ). transaction_id (htlc_tx_with id first_newest_contents first_htlc)) first_newest_named ∙ first_newest_stage_0_from

first_newest_stage_1_from : transaction_id (htlc_tx_with first_newest_id first_newest_contents second_htlc) ≡ first_newest_stage_1_id
unfolding sha256 digest_bytes hash_after compress rounds schedule first_words number compact_size bytes_with_length outpoint input output body stripped_spelling transaction_id digits minimal_bytes_of number_push script_hash_program to_local_script
first_newest_stage_1_from = refl

first_newest_stage_1_named : transaction_id (htlc_tx_of first_newest_contents second_htlc) ≡ first_newest_stage_1_id
unfolding htlc_tx_of
first_newest_stage_1_named = ap (λ (id : List ℕ). transaction_id (htlc_tx_with id first_newest_contents second_htlc)) first_newest_named ∙ first_newest_stage_1_from

second_opened_stage_1_from : transaction_id (htlc_tx_with second_opened_id second_opened_contents third_htlc) ≡ second_opened_stage_1_id
unfolding sha256 digest_bytes hash_after compress rounds schedule first_words number compact_size bytes_with_length outpoint input output body stripped_spelling transaction_id digits minimal_bytes_of number_push script_hash_program to_local_script
second_opened_stage_1_from = refl

pub second_opened_stage_1_named : transaction_id (htlc_tx_of second_opened_contents third_htlc) ≡ second_opened_stage_1_id
unfolding htlc_tx_of
second_opened_stage_1_named = ap (λ (id : List ℕ). transaction_id (htlc_tx_with id second_opened_contents third_htlc)) second_opened_named ∙ second_opened_stage_1_from

-- the outputs by the ids of commitments and of HTLC transactions
abbrev locks_at : (a b p q c d s e f : List ℕ) → List LockedOutput
locks_at a b p q c d s e f =
    first_funding_lock
    ∷ lock a 0 20000 first_opened_delayed_program first_opened_delayed
    ∷ lock a 1 79276 first_home_program first_home
    ∷ lock b 0 10000 first_newest_htlc_0_program first_newest_htlc_0
    ∷ lock p 0 9297 first_newest_delayed_program first_newest_delayed
    ∷ lock b 1 12000 first_newest_htlc_1_program first_newest_htlc_1
    ∷ lock q 0 11337 first_newest_delayed_program first_newest_delayed
    ∷ lock b 2 18000 first_newest_delayed_program first_newest_delayed
    ∷ lock b 3 58932 first_home_program first_home
    ∷ lock c 0 20000 first_away_program first_away
    ∷ lock c 1 79276 first_own_delayed_program first_own_delayed
    ∷ second_funding_lock
    ∷ lock d 0 8000 second_opened_delayed_program second_opened_delayed
    ∷ lock d 1 12000 second_opened_htlc_1_program second_opened_htlc_1
    ∷ lock s 0 11337 second_opened_delayed_program second_opened_delayed
    ∷ lock d 2 79104 second_home_program second_home
    ∷ lock e 0 20000 second_newest_delayed_program second_newest_delayed
    ∷ lock e 1 79276 second_home_program second_home
    ∷ lock f 0 20000 second_away_program second_away
    ∷ lock f 1 79276 second_own_delayed_program second_own_delayed
    ∷ []

locks_are_at : locks_from first_opened_contents first_newest_contents first_own_contents second_opened_contents second_newest_contents second_own_contents ≡ locks_at (id_of first_opened_contents) (id_of first_newest_contents) (transaction_id (htlc_tx_of first_newest_contents first_htlc)) (transaction_id (htlc_tx_of first_newest_contents second_htlc)) (id_of first_own_contents) (id_of second_opened_contents) (transaction_id (htlc_tx_of second_opened_contents third_htlc)) (id_of second_newest_contents) (id_of second_own_contents)
unfolding sha256 digest_bytes hash_after compress rounds schedule first_words ripemd160 left_words right_words left_rotations right_rotations left_constants right_constants block_words left_line right_line blocks ripemd_compress ripemd_hash_after ripemd_digest_bytes digits minimal_bytes_of number_push grant_id number script_hash_program key_hash_program to_local_script to_remote_script htlc_script funding_script claims_by
locks_are_at = refl

locks_are : locks_from first_opened_contents first_newest_contents first_own_contents second_opened_contents second_newest_contents second_own_contents ≡ locks
locks_are =
    locks_are_at
    ∙ ap (λ (x : List ℕ). locks_at x (id_of first_newest_contents) (transaction_id (htlc_tx_of first_newest_contents first_htlc)) (transaction_id (htlc_tx_of first_newest_contents second_htlc)) (id_of first_own_contents) (id_of second_opened_contents) (transaction_id (htlc_tx_of second_opened_contents third_htlc)) (id_of second_newest_contents) (id_of second_own_contents)) first_opened_named
    ∙ ap (λ (x : List ℕ). locks_at first_opened_id x (transaction_id (htlc_tx_of first_newest_contents first_htlc)) (transaction_id (htlc_tx_of first_newest_contents second_htlc)) (id_of first_own_contents) (id_of second_opened_contents) (transaction_id (htlc_tx_of second_opened_contents third_htlc)) (id_of second_newest_contents) (id_of second_own_contents)) first_newest_named
    ∙ ap (λ (x : List ℕ). locks_at first_opened_id first_newest_id x (transaction_id (htlc_tx_of first_newest_contents second_htlc)) (id_of first_own_contents) (id_of second_opened_contents) (transaction_id (htlc_tx_of second_opened_contents third_htlc)) (id_of second_newest_contents) (id_of second_own_contents)) first_newest_stage_0_named
    ∙ ap (λ (x : List ℕ). locks_at first_opened_id first_newest_id first_newest_stage_0_id x (id_of first_own_contents) (id_of second_opened_contents) (transaction_id (htlc_tx_of second_opened_contents third_htlc)) (id_of second_newest_contents) (id_of second_own_contents)) first_newest_stage_1_named
    ∙ ap (λ (x : List ℕ). locks_at first_opened_id first_newest_id first_newest_stage_0_id first_newest_stage_1_id x (id_of second_opened_contents) (transaction_id (htlc_tx_of second_opened_contents third_htlc)) (id_of second_newest_contents) (id_of second_own_contents)) first_own_named
    ∙ ap (λ (x : List ℕ). locks_at first_opened_id first_newest_id first_newest_stage_0_id first_newest_stage_1_id first_own_id x (transaction_id (htlc_tx_of second_opened_contents third_htlc)) (id_of second_newest_contents) (id_of second_own_contents)) second_opened_named
    ∙ ap (λ (x : List ℕ). locks_at first_opened_id first_newest_id first_newest_stage_0_id first_newest_stage_1_id first_own_id second_opened_id x (id_of second_newest_contents) (id_of second_own_contents)) second_opened_stage_1_named
    ∙ ap (λ (x : List ℕ). locks_at first_opened_id first_newest_id first_newest_stage_0_id first_newest_stage_1_id first_own_id second_opened_id second_opened_stage_1_id x (id_of second_own_contents)) second_newest_named
    ∙ ap (λ (x : List ℕ). locks_at first_opened_id first_newest_id first_newest_stage_0_id first_newest_stage_1_id first_own_id second_opened_id second_opened_stage_1_id second_newest_id x) second_own_named

pub locks_is : (n : ℕ) (a : Bool) (ss : List (List ℕ)) (r q : List Release) (c : Option ℕ) → locks_by (node n a ss r q c) ≡ locks
locks_is n a ss r q c = by_contents locks_from ∙ locks_are

-- ---- keys

abbrev keys_from : (a b c d e f : Contents) → List (List ℕ)
keys_from a b c d e f =
    ((key 0x10).bytes ∷ ((peer_keys a.keys ++ (peer_keys b.keys ++ [])) ++ (owner_keys c ++ []))) ++ (((key 0x30).bytes ∷ ((peer_keys d.keys ++ (peer_keys e.keys ++ [])) ++ (owner_keys f ++ []))) ++ [])

abbrev pub keys : List (List ℕ)
keys = keys_from first_opened_contents first_newest_contents first_own_contents second_opened_contents second_newest_contents second_own_contents

pub keys_is : (n : ℕ) (a : Bool) (ss : List (List ℕ)) (r q : List Release) (c : Option ℕ) → keys_by (node n a ss r q c) ≡ keys
keys_is n a ss r q c = by_contents keys_from

abbrev pub keys_begin : List ℕ
keys_begin = 0xde3840da ∷ 0x15084c99 ∷ 0x3853716a ∷ 0xadfce54f ∷ 0x57008a03 ∷ 0xf1423951 ∷ 0xadfce54f ∷ 0x5b9a27d3 ∷ 0x9d155530 ∷ 0x2b740d51 ∷ 0x0e282552 ∷ 0x33d37f47 ∷ 0x84829d93 ∷ 0x72922930 ∷ 0xdfe8c365 ∷ 0x84829d93 ∷ 0x78d5b29f ∷ 0xbe4b021a ∷ []

pub keys_hashed : beginnings hash160 keys ≡ keys_begin
unfolding sha256 digest_bytes hash_after compress rounds schedule first_words ripemd160 left_words right_words left_rotations right_rotations left_constants right_constants block_words left_line right_line blocks ripemd_compress ripemd_hash_after ripemd_digest_bytes
keys_hashed = refl

-- ---- strings that are hashed for the peers' commitments

abbrev pub strings_one : Terms → CommitmentState → Contents → List (List ℕ)
strings_one terms k c = own_strings terms k c ++ flat_map (htlc_strings c) (htlcs_of c)

abbrev strings_from : (a b c d e f : Contents) → List (List ℕ)
strings_from a b c d e f =
    (strings_one first_terms first_opened a ++ (strings_one first_terms first_newest b ++ [])) ++ ((strings_one second_terms second_opened d ++ (strings_one second_terms second_newest e ++ [])) ++ [])

abbrev pub strings : List (List ℕ)
strings = strings_from first_opened_contents first_newest_contents first_own_contents second_opened_contents second_newest_contents second_own_contents

-- the same by the ids of the commitments that HTLC transactions spend
abbrev pub strings_one_at : List ℕ → Terms → CommitmentState → Contents → List (List ℕ)
strings_one_at id terms k c = own_strings terms k c ++ flat_map (λ x. stripped_spelling (htlc_tx_with id c x) ∷ htlc_script c.keys x.direction x.htlc ∷ []) (htlcs_of c)

abbrev strings_at : (newest opened : List ℕ) → List (List ℕ)
strings_at newest opened =
    (strings_one first_terms first_opened first_opened_contents ++ (strings_one_at newest first_terms first_newest first_newest_contents ++ []))
    ++ ((strings_one_at opened second_terms second_opened second_opened_contents ++ (strings_one second_terms second_newest second_newest_contents ++ [])) ++ [])

strings_are : strings ≡ strings_at first_newest_id second_opened_id
unfolding htlc_tx_of htlcs_from
strings_are = ap (λ (id : List ℕ). strings_at id (id_of second_opened_contents)) first_newest_named ∙ ap (strings_at first_newest_id) second_opened_named

abbrev hashed : List (List ℕ)
hashed =
    (0x1f ∷ 0xda ∷ 0x0b ∷ 0xb1 ∷ 0x1b ∷ 0x66 ∷ 0x57 ∷ 0x48 ∷ 0x37 ∷ 0x1e ∷ 0x29 ∷ 0xd9 ∷ 0xf9 ∷ 0x95 ∷ 0x07 ∷ 0xc9 ∷ 0x4e ∷ 0x3c ∷ 0xb9 ∷ 0x37 ∷ 0xe6 ∷ 0x30 ∷ 0x74 ∷ 0xde ∷ 0xa3 ∷ 0x19 ∷ 0x52 ∷ 0xa2 ∷ 0x1d ∷ 0x05 ∷ 0x72 ∷ 0x78 ∷ [])
    ∷ (0xee ∷ 0xdc ∷ 0xb8 ∷ 0xb4 ∷ 0xa8 ∷ 0x9a ∷ 0x3c ∷ 0xcc ∷ 0xa9 ∷ 0xb9 ∷ 0x12 ∷ 0xf3 ∷ 0x4c ∷ 0x77 ∷ 0xfc ∷ 0x63 ∷ 0x78 ∷ 0x43 ∷ 0xac ∷ 0x69 ∷ 0x1a ∷ 0x0f ∷ 0x37 ∷ 0xad ∷ 0x13 ∷ 0x47 ∷ 0x7d ∷ 0xe6 ∷ 0xe3 ∷ 0xd3 ∷ 0x2d ∷ 0x93 ∷ [])
    ∷ (0xe1 ∷ 0x57 ∷ 0x77 ∷ 0x00 ∷ 0xe1 ∷ 0x27 ∷ 0xf1 ∷ 0xce ∷ 0x6e ∷ 0x20 ∷ 0xa4 ∷ 0xef ∷ 0xc2 ∷ 0xd9 ∷ 0x6a ∷ 0x98 ∷ 0x69 ∷ 0x79 ∷ 0xc7 ∷ 0x55 ∷ 0xd9 ∷ 0xab ∷ 0x55 ∷ 0x9a ∷ 0xf6 ∷ 0xb1 ∷ 0x75 ∷ 0x5e ∷ 0xb3 ∷ 0xf3 ∷ 0x22 ∷ 0x0e ∷ [])
    ∷ (0x28 ∷ 0x50 ∷ 0x37 ∷ 0x42 ∷ 0x4a ∷ 0x61 ∷ 0x62 ∷ 0xb0 ∷ 0xb1 ∷ 0x50 ∷ 0x74 ∷ 0x16 ∷ 0x59 ∷ 0x50 ∷ 0x3b ∷ 0xe0 ∷ 0x19 ∷ 0x56 ∷ 0xd5 ∷ 0x31 ∷ 0x83 ∷ 0xa5 ∷ 0x70 ∷ 0x93 ∷ 0xa6 ∷ 0x76 ∷ 0xa4 ∷ 0x9b ∷ 0xfa ∷ 0xc6 ∷ 0x46 ∷ 0x25 ∷ [])
    ∷ (0x20 ∷ 0xbe ∷ 0x9c ∷ 0x97 ∷ 0xfa ∷ 0xf3 ∷ 0x93 ∷ 0xad ∷ 0x59 ∷ 0x14 ∷ 0x4e ∷ 0xe3 ∷ 0x63 ∷ 0xa2 ∷ 0x99 ∷ 0xf9 ∷ 0x19 ∷ 0xf9 ∷ 0x34 ∷ 0x2c ∷ 0xf2 ∷ 0x94 ∷ 0xa9 ∷ 0xd8 ∷ 0xc8 ∷ 0xd4 ∷ 0x22 ∷ 0x61 ∷ 0x42 ∷ 0x88 ∷ 0xa7 ∷ 0x15 ∷ [])
    ∷ (0x56 ∷ 0x8c ∷ 0xdc ∷ 0x8f ∷ 0xb6 ∷ 0x36 ∷ 0xc2 ∷ 0x4d ∷ 0xc5 ∷ 0x3b ∷ 0x9d ∷ 0x41 ∷ 0xf7 ∷ 0x45 ∷ 0xe6 ∷ 0x9a ∷ 0x5a ∷ 0x33 ∷ 0x09 ∷ 0x19 ∷ 0x9e ∷ 0xc3 ∷ 0x6c ∷ 0xe3 ∷ 0x23 ∷ 0x41 ∷ 0x33 ∷ 0xd7 ∷ 0xdd ∷ 0x53 ∷ 0x32 ∷ 0x61 ∷ [])
    ∷ (0x68 ∷ 0x04 ∷ 0x42 ∷ 0x5e ∷ 0x4b ∷ 0xc4 ∷ 0xa6 ∷ 0x43 ∷ 0x96 ∷ 0x6b ∷ 0xda ∷ 0xa9 ∷ 0x7d ∷ 0x83 ∷ 0x04 ∷ 0x82 ∷ 0xc7 ∷ 0x31 ∷ 0xf2 ∷ 0x0a ∷ 0xb0 ∷ 0x27 ∷ 0xe4 ∷ 0x31 ∷ 0xdf ∷ 0x2f ∷ 0x2c ∷ 0x3f ∷ 0xc3 ∷ 0x39 ∷ 0x20 ∷ 0x91 ∷ [])
    ∷ (0xe1 ∷ 0x57 ∷ 0x77 ∷ 0x00 ∷ 0xe1 ∷ 0x27 ∷ 0xf1 ∷ 0xce ∷ 0x6e ∷ 0x20 ∷ 0xa4 ∷ 0xef ∷ 0xc2 ∷ 0xd9 ∷ 0x6a ∷ 0x98 ∷ 0x69 ∷ 0x79 ∷ 0xc7 ∷ 0x55 ∷ 0xd9 ∷ 0xab ∷ 0x55 ∷ 0x9a ∷ 0xf6 ∷ 0xb1 ∷ 0x75 ∷ 0x5e ∷ 0xb3 ∷ 0xf3 ∷ 0x22 ∷ 0x0e ∷ [])
    ∷ (0xfe ∷ 0x47 ∷ 0xcc ∷ 0x20 ∷ 0xe7 ∷ 0x73 ∷ 0x1b ∷ 0xb8 ∷ 0xed ∷ 0x22 ∷ 0xa4 ∷ 0x7c ∷ 0xf5 ∷ 0x58 ∷ 0x2f ∷ 0x7f ∷ 0x03 ∷ 0x5f ∷ 0x78 ∷ 0x1f ∷ 0x6e ∷ 0xce ∷ 0xf1 ∷ 0xdb ∷ 0xd4 ∷ 0x72 ∷ 0x95 ∷ 0x91 ∷ 0xb7 ∷ 0x1e ∷ 0xc1 ∷ 0xa4 ∷ [])
    ∷ (0x11 ∷ 0xa3 ∷ 0x3e ∷ 0xde ∷ 0x3e ∷ 0x4c ∷ 0x28 ∷ 0x63 ∷ 0xc6 ∷ 0x61 ∷ 0xac ∷ 0x61 ∷ 0xed ∷ 0x06 ∷ 0xb1 ∷ 0x2a ∷ 0x9f ∷ 0x86 ∷ 0x57 ∷ 0x12 ∷ 0x4a ∷ 0xe3 ∷ 0x10 ∷ 0x28 ∷ 0x50 ∷ 0x97 ∷ 0x09 ∷ 0x47 ∷ 0x9d ∷ 0xdd ∷ 0xb1 ∷ 0xc3 ∷ [])
    ∷ (0x60 ∷ 0x48 ∷ 0xbe ∷ 0xbe ∷ 0x5c ∷ 0x11 ∷ 0xc9 ∷ 0x46 ∷ 0x14 ∷ 0xd5 ∷ 0x82 ∷ 0x03 ∷ 0xe8 ∷ 0x7b ∷ 0x70 ∷ 0x2c ∷ 0xe3 ∷ 0x33 ∷ 0xad ∷ 0x24 ∷ 0x37 ∷ 0xf7 ∷ 0xf7 ∷ 0x28 ∷ 0xfb ∷ 0x1f ∷ 0xa3 ∷ 0xa8 ∷ 0x5b ∷ 0x01 ∷ 0x82 ∷ 0x85 ∷ [])
    ∷ (0xed ∷ 0xe0 ∷ 0x5c ∷ 0xf6 ∷ 0x9b ∷ 0xa4 ∷ 0xc4 ∷ 0x0c ∷ 0x43 ∷ 0xd5 ∷ 0x27 ∷ 0x0c ∷ 0xc4 ∷ 0x30 ∷ 0xd0 ∷ 0x48 ∷ 0xf3 ∷ 0x2e ∷ 0xd7 ∷ 0x92 ∷ 0x2b ∷ 0x54 ∷ 0x82 ∷ 0xba ∷ 0x4c ∷ 0x41 ∷ 0xf4 ∷ 0x7b ∷ 0x76 ∷ 0x1b ∷ 0xdd ∷ 0xec ∷ [])
    ∷ (0x70 ∷ 0x88 ∷ 0xd5 ∷ 0x34 ∷ 0x43 ∷ 0xba ∷ 0x7f ∷ 0xcc ∷ 0xd4 ∷ 0x2a ∷ 0x5d ∷ 0xc3 ∷ 0x5a ∷ 0x63 ∷ 0xe2 ∷ 0x45 ∷ 0xf7 ∷ 0xb0 ∷ 0x63 ∷ 0x04 ∷ 0xd7 ∷ 0x77 ∷ 0xef ∷ 0xb2 ∷ 0x29 ∷ 0xfa ∷ 0xca ∷ 0x40 ∷ 0xc0 ∷ 0xe5 ∷ 0xc4 ∷ 0x81 ∷ [])
    ∷ (0xe9 ∷ 0x72 ∷ 0xff ∷ 0xe3 ∷ 0x6d ∷ 0x02 ∷ 0xaf ∷ 0xcc ∷ 0x45 ∷ 0x40 ∷ 0x6b ∷ 0xb5 ∷ 0x68 ∷ 0x94 ∷ 0x88 ∷ 0xde ∷ 0xfb ∷ 0xe4 ∷ 0x0b ∷ 0x91 ∷ 0xd7 ∷ 0x9f ∷ 0x90 ∷ 0xf2 ∷ 0x20 ∷ 0x64 ∷ 0x61 ∷ 0xc1 ∷ 0x0f ∷ 0xaf ∷ 0x3f ∷ 0xf2 ∷ [])
    ∷ (0x4a ∷ 0x19 ∷ 0xd3 ∷ 0x98 ∷ 0x98 ∷ 0x81 ∷ 0xd7 ∷ 0x9b ∷ 0x26 ∷ 0x9d ∷ 0x7b ∷ 0x46 ∷ 0xae ∷ 0xbf ∷ 0x78 ∷ 0xdf ∷ 0xe5 ∷ 0xae ∷ 0x82 ∷ 0x54 ∷ 0xe0 ∷ 0xab ∷ 0xa2 ∷ 0x24 ∷ 0x00 ∷ 0xcf ∷ 0xb4 ∷ 0x74 ∷ 0xfc ∷ 0x7d ∷ 0xcc ∷ 0x99 ∷ [])
    ∷ (0x3a ∷ 0x63 ∷ 0xd9 ∷ 0x4a ∷ 0x02 ∷ 0xbb ∷ 0xd3 ∷ 0x0a ∷ 0x21 ∷ 0x97 ∷ 0xd6 ∷ 0x8d ∷ 0xd4 ∷ 0x69 ∷ 0xfe ∷ 0x7d ∷ 0x48 ∷ 0xa7 ∷ 0xdb ∷ 0x8c ∷ 0xe8 ∷ 0xee ∷ 0x47 ∷ 0x89 ∷ 0x34 ∷ 0xdd ∷ 0xcf ∷ 0x83 ∷ 0x44 ∷ 0xc0 ∷ 0xf5 ∷ 0x7b ∷ [])
    ∷ (0xa2 ∷ 0xd5 ∷ 0xee ∷ 0xc4 ∷ 0xea ∷ 0xfc ∷ 0x20 ∷ 0xf2 ∷ 0x36 ∷ 0xc0 ∷ 0x2f ∷ 0xab ∷ 0x98 ∷ 0x38 ∷ 0xff ∷ 0x4a ∷ 0x6c ∷ 0x5d ∷ 0x69 ∷ 0x12 ∷ 0x6c ∷ 0x74 ∷ 0xd2 ∷ 0x65 ∷ 0x6b ∷ 0x6c ∷ 0xea ∷ 0x55 ∷ 0x3e ∷ 0x74 ∷ 0x68 ∷ 0x82 ∷ [])
    ∷ (0x72 ∷ 0xc3 ∷ 0x65 ∷ 0xbf ∷ 0xeb ∷ 0x8e ∷ 0x3d ∷ 0xa1 ∷ 0x60 ∷ 0x7c ∷ 0x44 ∷ 0xf6 ∷ 0xe0 ∷ 0xd9 ∷ 0xeb ∷ 0xcf ∷ 0x77 ∷ 0xc2 ∷ 0x95 ∷ 0x7d ∷ 0x41 ∷ 0x2f ∷ 0xd4 ∷ 0xac ∷ 0x15 ∷ 0x59 ∷ 0x4f ∷ 0xa6 ∷ 0x75 ∷ 0x1b ∷ 0xcf ∷ 0x5a ∷ [])
    ∷ (0x2c ∷ 0xd3 ∷ 0xf5 ∷ 0xda ∷ 0x27 ∷ 0x25 ∷ 0x69 ∷ 0x09 ∷ 0xcc ∷ 0x4d ∷ 0x27 ∷ 0x88 ∷ 0x36 ∷ 0x79 ∷ 0x3a ∷ 0x67 ∷ 0x42 ∷ 0xce ∷ 0xe8 ∷ 0x0f ∷ 0x0c ∷ 0x24 ∷ 0x7c ∷ 0x65 ∷ 0x1e ∷ 0xe8 ∷ 0x78 ∷ 0x62 ∷ 0x39 ∷ 0xe6 ∷ 0x95 ∷ 0xf2 ∷ [])
    ∷ (0x1f ∷ 0xf9 ∷ 0x04 ∷ 0x09 ∷ 0xda ∷ 0x38 ∷ 0xa1 ∷ 0x63 ∷ 0x37 ∷ 0x3b ∷ 0x37 ∷ 0x32 ∷ 0x08 ∷ 0x35 ∷ 0x41 ∷ 0xa6 ∷ 0xb7 ∷ 0xd1 ∷ 0xbc ∷ 0x48 ∷ 0xaa ∷ 0xd7 ∷ 0xae ∷ 0x2b ∷ 0xb5 ∷ 0x51 ∷ 0x8d ∷ 0xb2 ∷ 0x82 ∷ 0xe9 ∷ 0x9a ∷ 0xec ∷ [])
    ∷ (0x5d ∷ 0xfe ∷ 0x5a ∷ 0x54 ∷ 0x4d ∷ 0xcc ∷ 0x3e ∷ 0xa3 ∷ 0x0d ∷ 0x06 ∷ 0xe4 ∷ 0x6a ∷ 0x8d ∷ 0x98 ∷ 0x18 ∷ 0x76 ∷ 0xcc ∷ 0x37 ∷ 0xee ∷ 0x89 ∷ 0x57 ∷ 0xee ∷ 0x46 ∷ 0x7a ∷ 0x0c ∷ 0x4d ∷ 0x05 ∷ 0xad ∷ 0xd7 ∷ 0xb8 ∷ 0x86 ∷ 0xef ∷ [])
    ∷ (0x50 ∷ 0x89 ∷ 0x53 ∷ 0x4b ∷ 0x17 ∷ 0xa5 ∷ 0x1a ∷ 0x80 ∷ 0xf7 ∷ 0x27 ∷ 0xcb ∷ 0x24 ∷ 0xb8 ∷ 0xb3 ∷ 0xb5 ∷ 0xd8 ∷ 0x6e ∷ 0x50 ∷ 0xa6 ∷ 0xda ∷ 0x11 ∷ 0x80 ∷ 0x9a ∷ 0x94 ∷ 0xf9 ∷ 0xbe ∷ 0x3a ∷ 0x35 ∷ 0xb9 ∷ 0x7e ∷ 0xc7 ∷ 0x9d ∷ [])
    ∷ (0x8b ∷ 0x26 ∷ 0x8d ∷ 0x96 ∷ 0xe1 ∷ 0x0d ∷ 0x38 ∷ 0xa1 ∷ 0xa3 ∷ 0xe9 ∷ 0x66 ∷ 0x9a ∷ 0x54 ∷ 0xa5 ∷ 0x41 ∷ 0xd8 ∷ 0x27 ∷ 0xfc ∷ 0x2e ∷ 0xd7 ∷ 0x38 ∷ 0xd3 ∷ 0xa9 ∷ 0xbe ∷ 0x6d ∷ 0x12 ∷ 0x88 ∷ 0x71 ∷ 0xb5 ∷ 0x63 ∷ 0xd2 ∷ 0x92 ∷ [])
    ∷ (0xa2 ∷ 0xd5 ∷ 0xee ∷ 0xc4 ∷ 0xea ∷ 0xfc ∷ 0x20 ∷ 0xf2 ∷ 0x36 ∷ 0xc0 ∷ 0x2f ∷ 0xab ∷ 0x98 ∷ 0x38 ∷ 0xff ∷ 0x4a ∷ 0x6c ∷ 0x5d ∷ 0x69 ∷ 0x12 ∷ 0x6c ∷ 0x74 ∷ 0xd2 ∷ 0x65 ∷ 0x6b ∷ 0x6c ∷ 0xea ∷ 0x55 ∷ 0x3e ∷ 0x74 ∷ 0x68 ∷ 0x82 ∷ [])
    ∷ (0x77 ∷ 0x4c ∷ 0x97 ∷ 0x21 ∷ 0xea ∷ 0xd3 ∷ 0x0c ∷ 0xe2 ∷ 0x09 ∷ 0x91 ∷ 0xc5 ∷ 0xc8 ∷ 0x0f ∷ 0x23 ∷ 0x68 ∷ 0x7a ∷ 0x03 ∷ 0xe0 ∷ 0xc3 ∷ 0x91 ∷ 0xed ∷ 0xc5 ∷ 0x02 ∷ 0xc6 ∷ 0xa2 ∷ 0x14 ∷ 0x7b ∷ 0x0e ∷ 0xfa ∷ 0xf8 ∷ 0xbe ∷ 0x9c ∷ [])
    ∷ (0x39 ∷ 0x80 ∷ 0xc2 ∷ 0x1f ∷ 0x13 ∷ 0x44 ∷ 0xdf ∷ 0x5b ∷ 0x21 ∷ 0x22 ∷ 0x33 ∷ 0x0c ∷ 0xf8 ∷ 0x3a ∷ 0x0a ∷ 0xc4 ∷ 0x7d ∷ 0x8f ∷ 0x79 ∷ 0x91 ∷ 0x51 ∷ 0xca ∷ 0xc3 ∷ 0xa9 ∷ 0x3e ∷ 0xb1 ∷ 0x18 ∷ 0xef ∷ 0x62 ∷ 0xab ∷ 0x33 ∷ 0x78 ∷ [])
    ∷ []

hashed_from : map sha256 (strings_at first_newest_id second_opened_id) ≡ hashed
unfolding sha256 digest_bytes hash_after compress rounds schedule first_words number compact_size bytes_with_length outpoint input output body stripped_spelling digits minimal_bytes_of number_push point_of script_hash_program to_local_script to_remote_script htlc_script transaction_of htlcs_from ripemd160 left_words right_words left_rotations right_rotations left_constants right_constants block_words left_line right_line blocks ripemd_compress ripemd_hash_after ripemd_digest_bytes
hashed_from = refl

hashed_are : map sha256 strings ≡ hashed
hashed_are = ap (map sha256) strings_are ∙ hashed_from

abbrev pub once_begin : List ℕ
once_begin = 0x1fda0bb1 ∷ 0xeedcb8b4 ∷ 0xe1577700 ∷ 0x28503742 ∷ 0x20be9c97 ∷ 0x568cdc8f ∷ 0x6804425e ∷ 0xe1577700 ∷ 0xfe47cc20 ∷ 0x11a33ede ∷ 0x6048bebe ∷ 0xede05cf6 ∷ 0x7088d534 ∷ 0xe972ffe3 ∷ 0x4a19d398 ∷ 0x3a63d94a ∷ 0xa2d5eec4 ∷ 0x72c365bf ∷ 0x2cd3f5da ∷ 0x1ff90409 ∷ 0x5dfe5a54 ∷ 0x5089534b ∷ 0x8b268d96 ∷ 0xa2d5eec4 ∷ 0x774c9721 ∷ 0x3980c21f ∷ []

pub once_hashed : beginnings sha256 strings ≡ once_begin
once_hashed = from_hashes sha256 strings hashed hashed_are ∙ refl

once_distinct : are_distinct (marked strings once_begin) ≡ true
unfolding htlcs_from
once_distinct = refl

pub once_whole : (n : ℕ) (a : Bool) (ss : List (List ℕ)) (r q : List Release) (c : Option ℕ) → NoneCollide sha256 (strings_in (node n a ss r q c)) (strings_in (node n a ss r q c))
once_whole n a ss r q c = subst (λ (xs : List (List ℕ)). NoneCollide sha256 xs xs) (sym (by_contents strings_from)) (no_two sha256 strings once_begin once_hashed once_distinct)

abbrev pub twice_begin : List ℕ
twice_begin = 0x999c126f ∷ 0x2c9164a8 ∷ 0x46d338a9 ∷ 0xeb6b6114 ∷ 0xf83d4248 ∷ 0x3a246ec1 ∷ 0xe5bb54e4 ∷ 0x46d338a9 ∷ 0xf39e33eb ∷ 0xc2143b72 ∷ 0xda40eaa8 ∷ 0xc1018d2f ∷ 0x351d3c38 ∷ 0xa4f8c096 ∷ 0x953815cc ∷ 0xe0534987 ∷ 0x5d72536b ∷ 0x266edbce ∷ 0x3f49b74a ∷ 0x0ed1777b ∷ 0x590c6bb5 ∷ 0xb8d45e1f ∷ 0xbffa47bd ∷ 0x5d72536b ∷ 0x2f49c9e3 ∷ 0xa883f6d7 ∷ []

twice_are : beginnings sha256 hashed ≡ twice_begin
unfolding sha256 digest_bytes hash_after compress rounds schedule first_words
twice_are = refl

pub twice_hashed : beginnings sha256d strings ≡ twice_begin
twice_hashed = from_first sha256 sha256 strings hashed hashed_are ∙ twice_are

twice_distinct : are_distinct (marked strings twice_begin) ≡ true
unfolding htlcs_from
twice_distinct = refl

pub twice_whole : (n : ℕ) (a : Bool) (ss : List (List ℕ)) (r q : List Release) (c : Option ℕ) → NoneCollide sha256d (strings_in (node n a ss r q c)) (strings_in (node n a ss r q c))
twice_whole n a ss r q c = subst (λ (xs : List (List ℕ)). NoneCollide sha256d xs xs) (sym (by_contents strings_from)) (no_two sha256d strings twice_begin twice_hashed twice_distinct)

abbrev pub short_begin : List ℕ
short_begin = 0xe4e50085 ∷ 0xc6658f82 ∷ 0xadfce54f ∷ 0x49d5ca13 ∷ 0x7c5fd1e4 ∷ 0xe8c66160 ∷ 0x6b51cb37 ∷ 0xadfce54f ∷ 0x26da4299 ∷ 0xb1c5e3ae ∷ 0x06437983 ∷ 0xc69e205b ∷ 0xad51a0f4 ∷ 0x47459b89 ∷ 0x7a3e14fa ∷ 0xe7dc806a ∷ 0x84829d93 ∷ 0xe1ef164e ∷ 0x869cbb93 ∷ 0x7cc3424d ∷ 0xf688ccce ∷ 0xdb5a9df6 ∷ 0x90aa5904 ∷ 0x84829d93 ∷ 0xa13a70e4 ∷ 0xbe4f4856 ∷ []

short_are : beginnings ripemd160 hashed ≡ short_begin
unfolding ripemd160 left_words right_words left_rotations right_rotations left_constants right_constants block_words left_line right_line blocks ripemd_compress ripemd_hash_after ripemd_digest_bytes
short_are = refl

pub short_hashed : beginnings hash160 strings ≡ short_begin
short_hashed = from_first sha256 ripemd160 strings hashed hashed_are ∙ short_are

short_distinct : are_distinct (marked strings short_begin) ≡ true
unfolding htlcs_from
short_distinct = refl

pub short_whole : (n : ℕ) (a : Bool) (ss : List (List ℕ)) (r q : List Release) (c : Option ℕ) → NoneCollide hash160 (strings_in (node n a ss r q c)) (strings_in (node n a ss r q c))
short_whole n a ss r q c = subst (λ (xs : List (List ℕ)). NoneCollide hash160 xs xs) (sym (by_contents strings_from)) (no_two hash160 strings short_begin short_hashed short_distinct)

-- ---- payment hashes

abbrev pub hashes_one : Contents → List (List ℕ)
hashes_one c = map (λ x. x.htlc.hash) (htlcs_of c)

abbrev hashes_from : (a b c d e f : Contents) → List (List ℕ)
hashes_from a b c d e f = (hashes_one a ++ (hashes_one b ++ [])) ++ ((hashes_one d ++ (hashes_one e ++ [])) ++ [])

abbrev pub hashes : List (List ℕ)
hashes = hashes_from first_opened_contents first_newest_contents first_own_contents second_opened_contents second_newest_contents second_own_contents

pub hashes_is : (n : ℕ) (a : Bool) (ss : List (List ℕ)) (r q : List Release) (c : Option ℕ) → payment_hashes (node n a ss r q c) ≡ hashes
hashes_is n a ss r q c = by_contents hashes_from

abbrev pub hashes_begin : List ℕ
hashes_begin = 0xb566a3ee ∷ 0x9d4c1c21 ∷ 0x7d81f275 ∷ []

pub hashes_hashed : beginnings ripemd160 hashes ≡ hashes_begin
unfolding sha256 digest_bytes hash_after compress rounds schedule first_words ripemd160 left_words right_words left_rotations right_rotations left_constants right_constants block_words left_line right_line blocks ripemd_compress ripemd_hash_after ripemd_digest_bytes htlcs_from
hashes_hashed = refl
