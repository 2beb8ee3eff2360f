-- The two channels of a node in the worked examples: ids that a script of its own computed, that the node keeps the rules, and which commitments may close them.
use Rattle.std.proofs.Common.{◌≡◌, ℕ, zero, suc, Bool, true, false, List, [], ◌∷◌, replicate, Some, None, refl, sym, ap, ◌∙◌, arith}
use Rattle.std.specs.Prelude.{slice_get}
use Rattle.std.specs.Str.{bytes_eq}
use Rattle.std.proofs.lemmas.Bool.{false≢true}
use Rattle.std.proofs.lemmas.Option.{slice_get_past}
use Rattle.sha2.specs.Sha256.{sha256, digest_bytes, hash_after, compress, rounds, schedule, first_words}
use Rattle.digest.specs.Ripemd160.{left_words, right_words, left_rotations, right_rotations, left_constants, right_constants, block_words, left_line, right_line, blocks, ripemd160, compress as ripemd_compress, hash_after as ripemd_hash_after, digest_bytes as ripemd_digest_bytes}
use Rattle.script.specs.Number.{digits, minimal_bytes_of}
use Rattle.tx.specs.Spelling.{number, compact_size, bytes_with_length, outpoint, input, output, body, stripped_spelling, transaction_id}
use Rattle.sighash.specs.Programs.{key_hash_program, script_hash_program}
use Rattle.keys.specs.Derivation.{point_of, derived_key, revocation_key}
use Rattle.terms.specs.Numbers.{mask_of}
use Rattle.terms.specs.Scripts.{number_push}
use Rattle.chain.specs.Blocks.{grant_id}
use Rattle.commit.specs.Keys.{keys_of}
use Rattle.commit.specs.Order.{output_cmp, in_order}
use Rattle.commit.specs.Outputs.{to_local_script, to_remote_script, htlc_script, outputs_of}
use Rattle.commit.specs.Commitments.{commitment_of, transaction_of, id_of, htlcs_from}
use Rattle.channel.specs.declared.commitments.CommitmentState.{CommitmentState}
use Rattle.safety.specs.Holdings.{Holding, KeepsRules, EachKeepsRules}
use Rattle.safety.specs.Closers.{IsCloser, revoked, newest, next, own}
use Rattle.safety.proofs.Lists.{none_some, some_is}
use Rattle.safety.proofs.Taken.{grants_are_out_points}
use Rattle.safety.proofs.Examples.{same_eq}
use Rattle.safety.proofs.Worked.{keeps_rules, kept, two_channels}
use Rattle.safety.proofs.WorkedChannels.{first_terms, second_terms, first_opened, first_newest, first_own, second_opened, second_newest, second_own, c, d, state, holding}

-- ---- ids

pub first_id : id_of c ≡ 0x3a ∷ 0x24 ∷ 0x6e ∷ 0xc1 ∷ 0x85 ∷ 0x53 ∷ 0x61 ∷ 0xd3 ∷ 0x95 ∷ 0xd9 ∷ 0x3f ∷ 0x3d ∷ 0xb9 ∷ 0x17 ∷ 0x24 ∷ 0xb5 ∷ 0x37 ∷ 0xce ∷ 0x2c ∷ 0x96 ∷ 0x98 ∷ 0x9d ∷ 0x05 ∷ 0x51 ∷ 0x82 ∷ 0xe0 ∷ 0xe0 ∷ 0xfc ∷ 0xef ∷ 0xdc ∷ 0xaf ∷ 0xb6 ∷ []
unfolding sha256 digest_bytes hash_after compress rounds schedule first_words ripemd160 left_words right_words left_rotations right_rotations left_constants right_constants block_words left_line right_line blocks ripemd_compress ripemd_hash_after ripemd_digest_bytes digits minimal_bytes_of number compact_size bytes_with_length outpoint input output body stripped_spelling transaction_id key_hash_program script_hash_program point_of derived_key revocation_key mask_of number_push grant_id keys_of output_cmp in_order to_local_script to_remote_script htlc_script outputs_of commitment_of transaction_of
first_id = refl

pub second_id : id_of d ≡ 0x95 ∷ 0x38 ∷ 0x15 ∷ 0xcc ∷ 0xc0 ∷ 0x04 ∷ 0xb2 ∷ 0xa3 ∷ 0xe5 ∷ 0x6f ∷ 0xe0 ∷ 0xa8 ∷ 0x3e ∷ 0x4c ∷ 0x88 ∷ 0x3b ∷ 0x1a ∷ 0x17 ∷ 0xa1 ∷ 0x2a ∷ 0x21 ∷ 0xce ∷ 0x3a ∷ 0x6a ∷ 0xba ∷ 0x59 ∷ 0x04 ∷ 0x76 ∷ 0xe5 ∷ 0x2a ∷ 0xde ∷ 0x73 ∷ []
unfolding sha256 digest_bytes hash_after compress rounds schedule first_words ripemd160 left_words right_words left_rotations right_rotations left_constants right_constants block_words left_line right_line blocks ripemd_compress ripemd_hash_after ripemd_digest_bytes digits minimal_bytes_of number compact_size bytes_with_length outpoint input output body stripped_spelling transaction_id key_hash_program script_hash_program point_of derived_key revocation_key mask_of number_push grant_id keys_of output_cmp in_order to_local_script to_remote_script htlc_script outputs_of commitment_of transaction_of
second_id = refl

-- no grant has them
no_first : bytes_eq (grant_id 0) (0x3a ∷ 0x24 ∷ 0x6e ∷ 0xc1 ∷ 0x85 ∷ 0x53 ∷ 0x61 ∷ 0xd3 ∷ 0x95 ∷ 0xd9 ∷ 0x3f ∷ 0x3d ∷ 0xb9 ∷ 0x17 ∷ 0x24 ∷ 0xb5 ∷ 0x37 ∷ 0xce ∷ 0x2c ∷ 0x96 ∷ 0x98 ∷ 0x9d ∷ 0x05 ∷ 0x51 ∷ 0x82 ∷ 0xe0 ∷ 0xe0 ∷ 0xfc ∷ 0xef ∷ 0xdc ∷ 0xaf ∷ 0xb6 ∷ []) ≡ false
unfolding sha256 digest_bytes hash_after compress rounds schedule first_words number grant_id
no_first = refl

no_second : bytes_eq (grant_id 0) (0x95 ∷ 0x38 ∷ 0x15 ∷ 0xcc ∷ 0xc0 ∷ 0x04 ∷ 0xb2 ∷ 0xa3 ∷ 0xe5 ∷ 0x6f ∷ 0xe0 ∷ 0xa8 ∷ 0x3e ∷ 0x4c ∷ 0x88 ∷ 0x3b ∷ 0x1a ∷ 0x17 ∷ 0xa1 ∷ 0x2a ∷ 0x21 ∷ 0xce ∷ 0x3a ∷ 0x6a ∷ 0xba ∷ 0x59 ∷ 0x04 ∷ 0x76 ∷ 0xe5 ∷ 0x2a ∷ 0xde ∷ 0x73 ∷ []) ≡ false
unfolding sha256 digest_bytes hash_after compress rounds schedule first_words number grant_id
no_second = refl

not_second : bytes_eq (grant_id 1) (0x95 ∷ 0x38 ∷ 0x15 ∷ 0xcc ∷ 0xc0 ∷ 0x04 ∷ 0xb2 ∷ 0xa3 ∷ 0xe5 ∷ 0x6f ∷ 0xe0 ∷ 0xa8 ∷ 0x3e ∷ 0x4c ∷ 0x88 ∷ 0x3b ∷ 0x1a ∷ 0x17 ∷ 0xa1 ∷ 0x2a ∷ 0x21 ∷ 0xce ∷ 0x3a ∷ 0x6a ∷ 0xba ∷ 0x59 ∷ 0x04 ∷ 0x76 ∷ 0xe5 ∷ 0x2a ∷ 0xde ∷ 0x73 ∷ []) ≡ false
unfolding sha256 digest_bytes hash_after compress rounds schedule first_words number grant_id
not_second = refl

pub first_apart : bytes_eq (grant_id 0) (id_of c) ≡ false
first_apart = ap (bytes_eq (grant_id 0)) first_id ∙ no_first

pub second_far : bytes_eq (grant_id 0) (id_of d) ≡ false
second_far = ap (bytes_eq (grant_id 0)) second_id ∙ no_second

pub second_apart : bytes_eq (grant_id 1) (id_of d) ≡ false
second_apart = ap (bytes_eq (grant_id 1)) second_id ∙ not_second

grants_differ : bytes_eq (grant_id 0) (grant_id 1) ≡ false
unfolding sha256 digest_bytes hash_after compress rounds schedule first_words number grant_id
grants_differ = refl

-- ---- the rules

-- each peer has revoked its commitment 0
abbrev first : Holding
first = holding (state first_terms 1 false (replicate 32 0x50 ∷ []) (first_own ∷ []) (first_opened ∷ first_newest ∷ [])) [] None

abbrev second : Holding
second = holding (state second_terms 1 false (replicate 32 0x51 ∷ []) (second_own ∷ []) (second_opened ∷ second_newest ∷ [])) [] None

-- the peer has not answered the signature on its commitment 1, and the node closed with its commitment 0
abbrev awaiting : Holding
awaiting = holding (state first_terms 0 true [] (first_own ∷ []) (first_opened ∷ first_newest ∷ [])) [] None

abbrev closed : Holding
closed = holding (state second_terms 0 false [] (second_own ∷ []) (second_opened ∷ [])) [] (Some 0)

first_rules : keeps_rules first ≡ true
unfolding htlcs_from commitment_of outputs_of in_order output_cmp
first_rules = rw (same_eq (point_of (replicate 32 0x50))) refl

second_rules : keeps_rules second ≡ true
unfolding htlcs_from commitment_of outputs_of in_order output_cmp
second_rules = rw (same_eq (point_of (replicate 32 0x51))) refl

awaiting_rules : keeps_rules awaiting ≡ true
unfolding htlcs_from commitment_of outputs_of in_order output_cmp
awaiting_rules = refl

closed_rules : keeps_rules closed ≡ true
unfolding htlcs_from commitment_of outputs_of in_order output_cmp
closed_rules = refl

-- both channels of a node, for each of the four closers
with_revoked : EachKeepsRules (first ∷ second ∷ [])
with_revoked = two_channels first second grants_differ (kept first first_rules (grants_are_out_points 0) tt) (kept second second_rules (grants_are_out_points 1) tt)

with_own : EachKeepsRules (awaiting ∷ closed ∷ [])
with_own = two_channels awaiting closed grants_differ (kept awaiting awaiting_rules (grants_are_out_points 0) tt) (kept closed closed_rules (grants_are_out_points 1) tt)

-- what was revoked has to have its secret, and the node closes with its newest commitment
wrong_secret : keeps_rules (holding (state second_terms 1 false [] (second_own ∷ []) (second_opened ∷ second_newest ∷ [])) [] None) ≡ false
unfolding htlcs_from commitment_of outputs_of in_order output_cmp
wrong_secret = refl

closed_too_early : keeps_rules (holding (state second_terms 0 false [] (second_own ∷ []) (second_opened ∷ [])) [] (Some 1)) ≡ false
unfolding htlcs_from commitment_of outputs_of in_order output_cmp
closed_too_early = refl

-- ---- who closes

by_newest : IsCloser first first_newest
by_newest = newest refl

by_revoked : IsCloser second second_opened
by_revoked = revoked 0 refl (record { secret = replicate 32 0x51; there = refl; opens = refl })

by_next : IsCloser awaiting first_newest
by_next = next refl refl

by_own : IsCloser closed second_own
by_own = own refl refl

-- the commitment after the newest closes only while the node's signature on it awaits the revocation
abbrev calm : Holding
calm = holding (state first_terms 0 false [] (first_own ∷ []) (first_opened ∷ first_newest ∷ [])) [] None

not_next : IsCloser calm first_newest → ⊥
not_next (revoked n there r) = none_some r.secret (sym (slice_get_past [] n (omega arith)) ∙ r.there)
not_next (newest there) = let e : 0 ≡ 1 = ap (λ (k : CommitmentState). k.number) (some_is first_opened first_newest there) in omega (arith, e)
not_next (next awaits there) = false≢true awaits
not_next (own at there) = none_some 0 at
