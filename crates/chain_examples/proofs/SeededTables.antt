-- The outputs, keys, strings and tokens of the two channels of one seed: what the contents of their commitments make of them. What is hashed for the peers' commitments was hashed for the other chains.
use Rattle.std.proofs.Common.{◌≡◌, ℕ, true, List, [], ◌∷◌, ◌++◌, map, take, drop, get_or, sym, ap, ◌∙◌, refl, subst}
use Rattle.std.specs.Prelude.{codes}
use Rattle.std.specs.List.{flat_map}
use Rattle.std.proofs.lemmas.List.{map-append}
use Rattle.sha2.specs.Sha256.{sha256, digest_bytes, hash_after, compress, rounds, schedule, first_words}
use Rattle.digest.specs.Ripemd160.{left_words, right_words, left_rotations, right_rotations, left_constants, right_constants, block_words, left_line, right_line, blocks, ripemd160, compress as ripemd_compress, hash_after as ripemd_hash_after, digest_bytes as ripemd_digest_bytes}
use Rattle.digest.specs.Hash.{sha256d, hash160}
use Rattle.script.specs.Number.{digits, minimal_bytes_of}
use Rattle.tx.specs.Spelling.{number, compact_size, bytes_with_length, outpoint, output, transaction_id}
use Rattle.sighash.specs.Signing.{all_outpoints, all_sequences, all_outputs, signed_list}
use Rattle.sighash.specs.Programs.{script_hash_program, key_hash_program}
use Rattle.chain.specs.Blocks.{grant_id}
use Rattle.terms.specs.Scripts.{number_push}
use Rattle.commit.specs.Keys.{keys_of}
use Rattle.commit.specs.Outputs.{to_local_script, to_remote_script, htlc_script}
use Rattle.commit.specs.Commitments.{Contents, commitment_of, tx_output, transaction_of, id_of, htlcs_from, htlc_tx_of}
use Rattle.commit.specs.Signing.{funding_script, input_of}
use Rattle.penalty.specs.Claimable.{claims_by}
use Rattle.safety.specs.Spending.{peer_keys}
use Rattle.safety.specs.Holdings.{Release}
use Rattle.safety.specs.Given.{GivenToken, given_by, with_release}
use Rattle.safety.specs.Premises.{LockedOutput, funding_lock, locks_of, locks_by, owner_keys, keys_by, newest_revocation}
use Rattle.safety.proofs.Examples.{key}
use Rattle.safety.proofs.Unbroken.{strings_in, payment_hashes}
use Rattle.safety.proofs.WorkedChannels.{second_terms, first_opened, second_opened, third_htlc}
use Rattle.chain_examples.proofs.Marks.{beginnings, marked, are_distinct, NoneCollide, no_two}
use Rattle.chain_examples.proofs.Spends.{signed_over}
use Rattle.chain_examples.proofs.Recorded.{first_grant, first_funding, first_funding_lock, first_opened_id, first_opened_named, first_opened_contents, first_opened_digest, first_opened_delayed, first_opened_delayed_program, first_opened_lock_0, first_opened_lock_1, first_home, first_home_program, first_away, first_away_program, second_grant, second_funding, second_funding_lock, second_opened_id, second_opened_named, second_opened_keys, second_opened_contents, second_opened_digest, second_opened_stage_1_id, second_opened_stage_1_digest, second_opened_delayed, second_opened_delayed_program, second_opened_htlc_1, second_opened_htlc_1_program, second_opened_lock_0, second_opened_lock_1, second_opened_stage_1_lock, second_opened_lock_2, second_home, second_home_program, second_away, second_away_program, lock}
use Rattle.chain_examples.proofs.Tables.{keys_begin as other_keys_begin, keys_hashed as other_keys_hashed, strings_one, once_begin, once_hashed, twice_begin, twice_hashed, short_begin, short_hashed, hashes_one, hashes_hashed, second_opened_stage_1_named}
use Rattle.chain_examples.proofs.Tokens.{given_one, token, points_of, ages_of, payments_of, first_signed, second_signed, first_points, second_points, first_ages, second_ages, first_payments, second_payments}
use Rattle.chain_examples.proofs.SeededChannels.{seeded_terms, sibling_own, back_htlc, paid_htlc, received_htlc, one_seed}
use Rattle.chain_examples.proofs.SeededRecorded.{point_0, point_0_is, point_1, point_1_is, by_seeded, seeded_own_contents, seeded_own_delayed, seeded_own_delayed_program, seeded_own_digest, seeded_own_htlc_0, seeded_own_htlc_0_program, seeded_own_htlc_1, seeded_own_htlc_1_program, seeded_own_htlc_2, seeded_own_htlc_2_program, seeded_own_id, seeded_own_keys, seeded_own_lock_0, seeded_own_lock_1, seeded_own_lock_2, seeded_own_lock_3, seeded_own_lock_4, seeded_own_named, seeded_own_stage_0_id, seeded_own_stage_0_lock, seeded_own_stage_0_named, seeded_own_stage_1_id, seeded_own_stage_1_lock, seeded_own_stage_1_named, seeded_own_stage_2_id, seeded_own_stage_2_lock, seeded_own_stage_2_named, sibling_old_contents, sibling_old_delayed, sibling_old_delayed_program, sibling_old_id, sibling_old_lock_0, sibling_old_lock_1, sibling_old_named, sibling_own_contents, sibling_own_delayed, sibling_own_delayed_program, sibling_own_keys, sibling_own_lock_0, sibling_own_lock_1, sibling_own_named}
use Rattle.chain_examples.proofs.OwnSpends.{htlc_keys_by, revocations_by, own_hashes_by}

-- ---- outputs

abbrev locks_from : (a b c d e : Contents) → List LockedOutput
locks_from a b c d e = (funding_lock seeded_terms ∷ (locks_of a ++ (locks_of b ++ []))) ++ ((funding_lock second_terms ∷ (locks_of c ++ (locks_of d ++ (locks_of e ++ [])))) ++ [])

abbrev pub locks : List LockedOutput
locks =
    first_funding_lock
    ∷ first_opened_lock_0
    ∷ first_opened_lock_1
    ∷ seeded_own_lock_0
    ∷ seeded_own_stage_0_lock
    ∷ seeded_own_lock_1
    ∷ seeded_own_stage_1_lock
    ∷ seeded_own_lock_2
    ∷ seeded_own_stage_2_lock
    ∷ seeded_own_lock_3
    ∷ seeded_own_lock_4
    ∷ second_funding_lock
    ∷ second_opened_lock_0
    ∷ second_opened_lock_1
    ∷ second_opened_stage_1_lock
    ∷ second_opened_lock_2
    ∷ sibling_old_lock_0
    ∷ sibling_old_lock_1
    ∷ sibling_own_lock_0
    ∷ sibling_own_lock_1
    ∷ []

-- by the ids of commitments and of HTLC transactions
abbrev locks_at : (a b p q r c s d e : List ℕ) → List LockedOutput
locks_at a b p q r c s d e =
    first_funding_lock
    ∷ lock a 0 20000 first_opened_delayed_program first_opened_delayed
    ∷ lock a 1 79276 first_home_program first_home
    ∷ lock b 0 2000 seeded_own_htlc_0_program seeded_own_htlc_0
    ∷ lock p 0 1337 seeded_own_delayed_program seeded_own_delayed
    ∷ lock b 1 3000 seeded_own_htlc_1_program seeded_own_htlc_1
    ∷ lock q 0 2337 seeded_own_delayed_program seeded_own_delayed
    ∷ lock b 2 12000 seeded_own_htlc_2_program seeded_own_htlc_2
    ∷ lock r 0 11297 seeded_own_delayed_program seeded_own_delayed
    ∷ lock b 3 22399 first_away_program first_away
    ∷ lock b 4 58760 seeded_own_delayed_program seeded_own_delayed
    ∷ second_funding_lock
    ∷ lock c 0 8000 second_opened_delayed_program second_opened_delayed
    ∷ lock c 1 12000 second_opened_htlc_1_program second_opened_htlc_1
    ∷ lock s 0 11337 second_opened_delayed_program second_opened_delayed
    ∷ lock c 2 79104 second_home_program second_home
    ∷ lock d 0 20000 second_away_program second_away
    ∷ lock d 1 79276 sibling_old_delayed_program sibling_old_delayed
    ∷ lock e 0 20000 second_away_program second_away
    ∷ lock e 1 79276 sibling_own_delayed_program sibling_own_delayed
    ∷ []

locks_are_at : locks_from first_opened_contents seeded_own_contents second_opened_contents sibling_old_contents sibling_own_contents ≡ locks_at (id_of first_opened_contents) (id_of seeded_own_contents) (transaction_id (htlc_tx_of seeded_own_contents back_htlc)) (transaction_id (htlc_tx_of seeded_own_contents paid_htlc)) (transaction_id (htlc_tx_of seeded_own_contents received_htlc)) (id_of second_opened_contents) (transaction_id (htlc_tx_of second_opened_contents third_htlc)) (id_of sibling_old_contents) (id_of sibling_own_contents)
unfolding sha256 digest_bytes hash_after compress rounds schedule first_words ripemd160 left_words right_words left_rotations right_rotations left_constants right_constants block_words left_line right_line blocks ripemd_compress ripemd_hash_after ripemd_digest_bytes digits minimal_bytes_of number_push script_hash_program to_local_script to_remote_script htlc_script grant_id number key_hash_program funding_script claims_by
locks_are_at = refl

locks_are : locks_from first_opened_contents seeded_own_contents second_opened_contents sibling_old_contents sibling_own_contents ≡ locks
locks_are =
    locks_are_at
    ∙ ap (λ (x : List ℕ). locks_at x (id_of seeded_own_contents) (transaction_id (htlc_tx_of seeded_own_contents back_htlc)) (transaction_id (htlc_tx_of seeded_own_contents paid_htlc)) (transaction_id (htlc_tx_of seeded_own_contents received_htlc)) (id_of second_opened_contents) (transaction_id (htlc_tx_of second_opened_contents third_htlc)) (id_of sibling_old_contents) (id_of sibling_own_contents)) first_opened_named
    ∙ ap (λ (x : List ℕ). locks_at first_opened_id x (transaction_id (htlc_tx_of seeded_own_contents back_htlc)) (transaction_id (htlc_tx_of seeded_own_contents paid_htlc)) (transaction_id (htlc_tx_of seeded_own_contents received_htlc)) (id_of second_opened_contents) (transaction_id (htlc_tx_of second_opened_contents third_htlc)) (id_of sibling_old_contents) (id_of sibling_own_contents)) seeded_own_named
    ∙ ap (λ (x : List ℕ). locks_at first_opened_id seeded_own_id x (transaction_id (htlc_tx_of seeded_own_contents paid_htlc)) (transaction_id (htlc_tx_of seeded_own_contents received_htlc)) (id_of second_opened_contents) (transaction_id (htlc_tx_of second_opened_contents third_htlc)) (id_of sibling_old_contents) (id_of sibling_own_contents)) seeded_own_stage_0_named
    ∙ ap (λ (x : List ℕ). locks_at first_opened_id seeded_own_id seeded_own_stage_0_id x (transaction_id (htlc_tx_of seeded_own_contents received_htlc)) (id_of second_opened_contents) (transaction_id (htlc_tx_of second_opened_contents third_htlc)) (id_of sibling_old_contents) (id_of sibling_own_contents)) seeded_own_stage_1_named
    ∙ ap (λ (x : List ℕ). locks_at first_opened_id seeded_own_id seeded_own_stage_0_id seeded_own_stage_1_id x (id_of second_opened_contents) (transaction_id (htlc_tx_of second_opened_contents third_htlc)) (id_of sibling_old_contents) (id_of sibling_own_contents)) seeded_own_stage_2_named
    ∙ ap (λ (x : List ℕ). locks_at first_opened_id seeded_own_id seeded_own_stage_0_id seeded_own_stage_1_id seeded_own_stage_2_id x (transaction_id (htlc_tx_of second_opened_contents third_htlc)) (id_of sibling_old_contents) (id_of sibling_own_contents)) second_opened_named
    ∙ ap (λ (x : List ℕ). locks_at first_opened_id seeded_own_id seeded_own_stage_0_id seeded_own_stage_1_id seeded_own_stage_2_id second_opened_id x (id_of sibling_old_contents) (id_of sibling_own_contents)) second_opened_stage_1_named
    ∙ ap (λ (x : List ℕ). locks_at first_opened_id seeded_own_id seeded_own_stage_0_id seeded_own_stage_1_id seeded_own_stage_2_id second_opened_id second_opened_stage_1_id x (id_of sibling_own_contents)) sibling_old_named
    ∙ ap (λ (x : List ℕ). locks_at first_opened_id seeded_own_id seeded_own_stage_0_id seeded_own_stage_1_id seeded_own_stage_2_id second_opened_id second_opened_stage_1_id sibling_old_id x) sibling_own_named

pub locks_is : (rs : List Release) → locks_by (one_seed rs) ≡ locks
locks_is rs = by_seeded locks_from ∙ locks_are

-- ---- keys

abbrev keys_from : (a b c d e : Contents) → List (List ℕ)
keys_from a b c d e = ((key 0x10).bytes ∷ ((peer_keys a.keys ++ []) ++ (owner_keys b ++ []))) ++ (((key 0x30).bytes ∷ ((peer_keys c.keys ++ []) ++ (owner_keys d ++ (owner_keys e ++ [])))) ++ [])

abbrev pub keys : List (List ℕ)
keys = keys_from first_opened_contents seeded_own_contents second_opened_contents sibling_old_contents sibling_own_contents

pub keys_is : (rs : List Release) → keys_by (one_seed rs) ≡ keys
keys_is rs = by_seeded keys_from

-- those that the other chains have not
abbrev new_keys : List (List ℕ)
new_keys = owner_keys seeded_own_contents ++ (owner_keys sibling_old_contents ++ owner_keys sibling_own_contents)

abbrev new_keys_begin : List ℕ
new_keys_begin = 0x0ed7de51 ∷ 0x08669d4d ∷ 0xb5ea52a1 ∷ 0x86fc6ae9 ∷ 0xecf0c2ac ∷ 0xe5d479dd ∷ []

new_keys_hashed : beginnings hash160 new_keys ≡ new_keys_begin
unfolding sha256 digest_bytes hash_after compress rounds schedule first_words ripemd160 left_words right_words left_rotations right_rotations left_constants right_constants block_words left_line right_line blocks ripemd_compress ripemd_hash_after ripemd_digest_bytes
new_keys_hashed = refl

-- the first four of the others, two new ones, four of the others from the tenth on, and the rest of the new ones
abbrev with_new : List ℕ → List ℕ → List ℕ
with_new old new = take 4 old ++ (take 2 new ++ (take 4 (drop 9 old) ++ drop 2 new))

abbrev pub keys_begin : List ℕ
keys_begin = with_new other_keys_begin new_keys_begin

pub keys_hashed : beginnings hash160 keys ≡ keys_begin
keys_hashed = ap (λ (ns : List ℕ). with_new ns (beginnings hash160 new_keys)) other_keys_hashed ∙ ap (with_new other_keys_begin) new_keys_hashed

-- ---- strings that are hashed for the peers' commitments: those of the first one of each channel

abbrev strings_from : (a b c d e : Contents) → List (List ℕ)
strings_from a b c d e = (strings_one seeded_terms first_opened a ++ []) ++ ((strings_one second_terms second_opened c ++ []) ++ [])

abbrev strings : List (List ℕ)
strings = strings_from first_opened_contents seeded_own_contents second_opened_contents sibling_old_contents sibling_own_contents

abbrev first_ones : List ℕ → List ℕ
first_ones ns = take 5 ns ++ take 7 (drop 14 ns)

once_are : beginnings sha256 strings ≡ first_ones once_begin
unfolding htlcs_from
once_are = ap first_ones once_hashed

once_distinct : are_distinct (marked strings (first_ones once_begin)) ≡ true
unfolding htlcs_from
once_distinct = refl

pub once_whole : (rs : List Release) → NoneCollide sha256 (strings_in (one_seed rs)) (strings_in (one_seed rs))
once_whole rs = subst (λ (xs : List (List ℕ)). NoneCollide sha256 xs xs) (sym (by_seeded strings_from)) (no_two sha256 strings (first_ones once_begin) once_are once_distinct)

twice_are : beginnings sha256d strings ≡ first_ones twice_begin
unfolding htlcs_from
twice_are = ap first_ones twice_hashed

twice_distinct : are_distinct (marked strings (first_ones twice_begin)) ≡ true
unfolding htlcs_from
twice_distinct = refl

pub twice_whole : (rs : List Release) → NoneCollide sha256d (strings_in (one_seed rs)) (strings_in (one_seed rs))
twice_whole rs = subst (λ (xs : List (List ℕ)). NoneCollide sha256d xs xs) (sym (by_seeded strings_from)) (no_two sha256d strings (first_ones twice_begin) twice_are twice_distinct)

short_are : beginnings hash160 strings ≡ first_ones short_begin
unfolding htlcs_from
short_are = ap first_ones short_hashed

short_distinct : are_distinct (marked strings (first_ones short_begin)) ≡ true
unfolding htlcs_from
short_distinct = refl

pub short_whole : (rs : List Release) → NoneCollide hash160 (strings_in (one_seed rs)) (strings_in (one_seed rs))
short_whole rs = subst (λ (xs : List (List ℕ)). NoneCollide hash160 xs xs) (sym (by_seeded strings_from)) (no_two hash160 strings (first_ones short_begin) short_are short_distinct)

-- ---- payment hashes

abbrev hashes_from : (a b c d e : Contents) → List (List ℕ)
hashes_from a b c d e = (hashes_one a ++ []) ++ ((hashes_one c ++ []) ++ [])

abbrev pub hashes : List (List ℕ)
hashes = hashes_from first_opened_contents seeded_own_contents second_opened_contents sibling_old_contents sibling_own_contents

pub hashes_is : (rs : List Release) → payment_hashes (one_seed rs) ≡ hashes
hashes_is rs = by_seeded hashes_from

abbrev pub hashes_begin : List ℕ
hashes_begin = 0x7d81f275 ∷ []

pub hashes_begin_so : beginnings ripemd160 hashes ≡ hashes_begin
unfolding htlcs_from
hashes_begin_so = ap (λ (ns : List ℕ). get_or ns 2 0 ∷ []) hashes_hashed

-- ---- what is hashed for the newest own commitments

abbrev newest_keys_at : (p q : List ℕ) → List (List ℕ)
newest_keys_at p q = (codes "derive" ++ (key 0x13).bytes ++ p) ∷ (codes "derive" ++ (key 0x23).bytes ++ p) ∷ (codes "derive" ++ (key 0x33).bytes ++ q) ∷ (codes "derive" ++ (key 0x43).bytes ++ q) ∷ []

newest_keys_are : (rs : List Release) → htlc_keys_by (one_seed rs) ≡ newest_keys_at point_0 point_1
newest_keys_are rs = ap (λ (p : List ℕ). newest_keys_at p sibling_own.point.bytes) point_0_is ∙ ap (newest_keys_at point_0) point_1_is

abbrev htlc_keys_begin : List ℕ
htlc_keys_begin = 0x2584b212 ∷ 0x369d819f ∷ 0xba66a38d ∷ 0x8ac4968c ∷ []

htlc_keys_hashed : beginnings sha256 (newest_keys_at point_0 point_1) ≡ htlc_keys_begin
unfolding sha256 digest_bytes hash_after compress rounds schedule first_words
htlc_keys_hashed = refl

pub htlc_keys_whole : (rs : List Release) → NoneCollide sha256 (htlc_keys_by (one_seed rs)) (htlc_keys_by (one_seed rs))
htlc_keys_whole rs = subst (λ (xs : List (List ℕ)). NoneCollide sha256 xs xs) (sym (newest_keys_are rs)) (no_two sha256 (newest_keys_at point_0 point_1) htlc_keys_begin htlc_keys_hashed refl)

abbrev revocations_from : (a b c d e : Contents) → List (List ℕ)
revocations_from a b c d e = b.keys.revocation ∷ e.keys.revocation ∷ []

abbrev pub revocations : List (List ℕ)
revocations = seeded_own_keys.revocation ∷ sibling_own_keys.revocation ∷ []

pub revocations_are : (rs : List Release) → revocations_by (one_seed rs) ≡ revocations
revocations_are rs = by_seeded revocations_from

-- they are those that no input may show
pub newest_are : (rs : List Release) → map newest_revocation (one_seed rs) ≡ revocations
unfolding commitment_of keys_of
newest_are rs = by_seeded revocations_from

abbrev pub revocations_begin : List ℕ
revocations_begin = 0x8db67f8d ∷ 0x0f8501e3 ∷ []

pub revocations_hashed : beginnings hash160 revocations ≡ revocations_begin
unfolding sha256 digest_bytes hash_after compress rounds schedule first_words ripemd160 left_words right_words left_rotations right_rotations left_constants right_constants block_words left_line right_line blocks ripemd_compress ripemd_hash_after ripemd_digest_bytes
revocations_hashed = refl

abbrev own_hashes_from : (a b c d e : Contents) → List (List ℕ)
own_hashes_from a b c d e = (hashes_one b ++ []) ++ ((hashes_one e ++ []) ++ [])

abbrev pub own_hashes : List (List ℕ)
own_hashes = own_hashes_from first_opened_contents seeded_own_contents second_opened_contents sibling_old_contents sibling_own_contents

pub own_hashes_are : (rs : List Release) → own_hashes_by (one_seed rs) ≡ own_hashes
own_hashes_are rs = by_seeded own_hashes_from

abbrev pub own_hashes_begin : List ℕ
own_hashes_begin = 0xb566a3ee ∷ 0xba006b66 ∷ 0x9d4c1c21 ∷ []

pub own_hashes_hashed : beginnings ripemd160 own_hashes ≡ own_hashes_begin
unfolding sha256 digest_bytes hash_after compress rounds schedule first_words ripemd160 left_words right_words left_rotations right_rotations left_constants right_constants block_words left_line right_line blocks ripemd_compress ripemd_hash_after ripemd_digest_bytes htlcs_from
own_hashes_hashed = refl

-- ---- the tokens that the node gave out

-- those with the first peer's commitment, those of releases in that channel, that of the close, and those with the second peer's commitment
abbrev pub joined : {X : Type 0} → (first released closing second : List X) → List X
joined first released closing second = ((first ++ released) ++ closing) ++ second

pub mapped : {X Y : Type 0} (f : X → Y) (first released closing second : List X) {p q r s : List Y} → map f first ≡ p → map f released ≡ q → map f closing ≡ r → map f second ≡ s
    → map f (joined first released closing second) ≡ joined p q r s
mapped {X} {Y} f first released closing second {p} {q} {r} {s} a b c d =
    map-append f ((first ++ released) ++ closing) second
    ∙ ap (λ (ys : List Y). ys ++ map f second) (map-append f (first ++ released) closing ∙ ap (λ (ys : List Y). ys ++ map f closing) (map-append f first released))
    ∙ ap (λ (ys : List Y). joined ys (map f released) (map f closing) (map f second)) a ∙ ap (λ (ys : List Y). joined p ys (map f closing) (map f second)) b
    ∙ ap (λ (ys : List Y). joined p q ys (map f second)) c ∙ ap (λ (ys : List Y). joined p q r ys) d

abbrev closing_with : Contents → List GivenToken
closing_with b = record { key = (key 0x10).bytes; over = record { transaction = transaction_of b; input = input_of b.funding b.hidden.sequence; code = funding_script seeded_terms; value = 100000 } } ∷ []

abbrev given_from : List Release → (a b c d e : Contents) → List GivenToken
given_from rs a b c d e = joined (given_one seeded_terms first_opened a ++ []) (flat_map with_release rs) (closing_with b) ((((given_one second_terms second_opened c ++ []) ++ []) ++ []) ++ [])

abbrev pub opened_tokens : List GivenToken
opened_tokens = token (key 0x10).bytes first_grant 0 2157138076 (map tx_output first_opened_contents.outputs) 540886090 first_funding 100000 ∷ []

abbrev pub closing_tokens : List GivenToken
closing_tokens = token (key 0x10).bytes first_grant 0 2157138076 (map tx_output seeded_own_contents.outputs) 540886090 first_funding 100000 ∷ []

abbrev sibling_tokens_at : List ℕ → List GivenToken
sibling_tokens_at id =
    token (key 0x30).bytes second_grant 0 2159067084 (map tx_output second_opened_contents.outputs) 549032011 second_funding 100000
    ∷ token second_opened_keys.remote_htlc id 1 0 (record { value = 11337; script = second_opened_delayed_program } ∷ []) 3 second_opened_htlc_1 12000
    ∷ []

abbrev pub sibling_tokens : List GivenToken
sibling_tokens = sibling_tokens_at second_opened_id

given_at : (rs : List Release) → given_from rs first_opened_contents seeded_own_contents second_opened_contents sibling_old_contents sibling_own_contents ≡ joined opened_tokens (flat_map with_release rs) closing_tokens (sibling_tokens_at (id_of second_opened_contents))
unfolding sha256 digest_bytes hash_after compress rounds schedule first_words ripemd160 left_words right_words left_rotations right_rotations left_constants right_constants block_words left_line right_line blocks ripemd_compress ripemd_hash_after ripemd_digest_bytes digits minimal_bytes_of number_push script_hash_program to_local_script to_remote_script htlc_script transaction_of htlcs_from htlc_tx_of funding_script
given_at rs = refl

pub given_recorded : (rs : List Release) → given_by (one_seed rs) ≡ joined opened_tokens (flat_map with_release rs) closing_tokens sibling_tokens
given_recorded rs = by_seeded (given_from rs) ∙ given_at rs ∙ ap (λ (id : List ℕ). joined opened_tokens (flat_map with_release rs) closing_tokens (sibling_tokens_at id)) second_opened_named

pub opened_signed : map signed_over opened_tokens ≡ first_opened_digest ∷ []
opened_signed = ap (λ (ds : List (List ℕ)). get_or ds 0 [] ∷ []) first_signed

pub sibling_signed : map signed_over sibling_tokens ≡ second_opened_digest ∷ second_opened_stage_1_digest ∷ []
sibling_signed = ap (λ (ds : List (List ℕ)). get_or ds 0 [] ∷ get_or ds 1 [] ∷ []) second_signed

pub closing_signed : map signed_over closing_tokens ≡ seeded_own_digest ∷ []
unfolding sha256 digest_bytes hash_after compress rounds schedule first_words number compact_size bytes_with_length outpoint output all_outpoints all_sequences all_outputs signed_list
closing_signed = refl

pub opened_points : map points_of opened_tokens ≡ 0x0c16bb0e ∷ []
opened_points = ap (λ (ns : List ℕ). get_or ns 0 0 ∷ []) first_points

pub closing_points : map points_of closing_tokens ≡ 0x0c16bb0e ∷ []
unfolding sha256 digest_bytes hash_after compress rounds schedule first_words number compact_size bytes_with_length outpoint output all_outpoints all_sequences all_outputs signed_list
closing_points = refl

pub sibling_points : map points_of sibling_tokens ≡ 0xb3dbeb72 ∷ 0x9728119d ∷ []
sibling_points = ap (λ (ns : List ℕ). get_or ns 0 0 ∷ get_or ns 1 0 ∷ []) second_points

pub opened_ages : map ages_of opened_tokens ≡ 0xe118709c ∷ []
opened_ages = ap (λ (ns : List ℕ). get_or ns 0 0 ∷ []) first_ages

pub closing_ages : map ages_of closing_tokens ≡ 0xe118709c ∷ []
unfolding sha256 digest_bytes hash_after compress rounds schedule first_words number compact_size bytes_with_length outpoint output all_outpoints all_sequences all_outputs signed_list
closing_ages = refl

pub sibling_ages : map ages_of sibling_tokens ≡ 0xf0328505 ∷ 0x8cb90125 ∷ []
sibling_ages = ap (λ (ns : List ℕ). get_or ns 0 0 ∷ get_or ns 1 0 ∷ []) second_ages

pub opened_payments : map payments_of opened_tokens ≡ 0xd64ab62f ∷ []
opened_payments = ap (λ (ns : List ℕ). get_or ns 0 0 ∷ []) first_payments

pub closing_payments : map payments_of closing_tokens ≡ 0x6ba4d113 ∷ []
unfolding sha256 digest_bytes hash_after compress rounds schedule first_words number compact_size bytes_with_length outpoint output all_outpoints all_sequences all_outputs signed_list
closing_payments = refl

pub sibling_payments : map payments_of sibling_tokens ≡ 0x4f88120a ∷ 0x1c10ab3a ∷ []
sibling_payments = ap (λ (ns : List ℕ). get_or ns 0 0 ∷ get_or ns 1 0 ∷ []) second_payments
