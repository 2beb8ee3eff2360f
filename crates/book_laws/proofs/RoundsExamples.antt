-- A history that calls leave, of two rounds with HTLCs of both sides, whose penalties are kept, and that meets all that is asked of one.
use Rattle.std.proofs.Common.{◌≡◌, ℕ, Option, None, ◌++◌, false, ◌^◌, ◌-◌, true, List, [], ◌∷◌, replicate, length, refl, lit≤, lit<}
use Rattle.std.specs.Prelude.{IsTrue, codes}
use Rattle.std.specs.Int.Count.{count_trailing_zeros}
use Rattle.std.specs.Str.{bytes_eq}
use Rattle.std.proofs.lemmas.Slice.Eq.{bytes_eq-Decides}
use Rattle.sha2.specs.Sha256.{sha256, digest_bytes, hash_after, compress, rounds, schedule, first_words}
use Rattle.sha2.proofs.Facts256.{length-sha256}
use Rattle.digest.specs.Ripemd160.{ripemd160}
use Rattle.script.specs.Spelling.{spelling}
use Rattle.script.specs.Token.{is_key}
use Rattle.tx.specs.Parts.{Output}
use Rattle.tx.specs.Fields.{Transaction}
use Rattle.tx.specs.Spelling.{transaction_id}
use Rattle.tx.specs.declared.input.TxIn.{TxIn}
use Rattle.sighash.specs.Programs.{script_hash_program}
use Rattle.keys.specs.declared.compressed.Key.{Key}
use Rattle.keys.specs.Derivation.{point_of, seed_secret, revocation_key}
use Rattle.secrets.specs.Derivation.{flipped, derived_secret}
use Rattle.chain.specs.Blocks.{grant_outpoint}
use Rattle.terms.specs.declared.htlcs.Htlc.{Htlc}
use Rattle.terms.specs.declared.sides.Side.TheVariants.{A, B}
use Rattle.terms.specs.declared.agreement.BaseKeys.{BaseKeys}
use Rattle.terms.specs.declared.agreement.Terms.{Terms}
use Rattle.terms.specs.Bases.{IsSeedOf}
use Rattle.terms.specs.Scripts.{funding}
use Rattle.updates.specs.declared.changes.Update.TheVariants.{Add}
use Rattle.updates.specs.declared.changes.OwnUpdate.TheVariants.{Offer}
use Rattle.updates.specs.declared.messages.PeerStep.TheVariants.{Update as Updated, CommitmentSigned}
use Rattle.updates.specs.declared.messages.Tokens.{Tokens}
use Rattle.claim.specs.Claims.{ClaimParts}
use Rattle.commit.specs.declared.fees.Direction.TheVariants.{Received}
use Rattle.commit.specs.declared.outputs.HtlcOutput.{HtlcOutput}
use Rattle.commit.specs.Commitments.{Contents, commitment_of, tx_output, transaction_of}
use Rattle.commit.specs.Keys.{keys_of}
use Rattle.commit.specs.Order.{output_cmp, in_order}
use Rattle.commit.specs.Outputs.{outputs_of, to_local_output, to_remote_output, htlc_output}
use Rattle.penalty.specs.Claimable.{Claimable, place_in, penalty_on, payment_on, htlc_penalty_on, second_stage_penalty, claims_by}
use Rattle.penalty.specs.Sets.{AreClaimsOn}
use Rattle.penalty.proofs.Programs.{to_local_program, htlc_program, key_program}
use Rattle.channel.specs.declared.messages.Message.TheVariants.{Step as StepMessage, RevokeAndAck}
use Rattle.channel.specs.Points.{index_of, point_key, point_at, is_foreign}
use Rattle.channel.specs.States.{State, state_at_opening, first_of, own_next, peers_next, after_update, after_sign, after}
use Rattle.channel.specs.Tokens.{peer_tokens}
use Rattle.channel.proofs.Samples.{key}
use Rattle.book.specs.declared.calls.Opening.{Opening}
use Rattle.book.specs.declared.calls.Step.TheVariants.{Own, Peer}
use Rattle.book.specs.declared.calls.Call.TheVariants.{Open, Step as Stepping, Sign, Revoke, Keep}
use Rattle.book.specs.declared.calls.Entry.{Entry}
use Rattle.book.specs.Accepted.{all_accepted, AcceptedMeans}
use Rattle.book.specs.Books.{ChannelBook, replay}
use Rattle.book.specs.Penalties.{revoked_contents, claimable_in, is_penalty_set, PenaltySetsAreExact}
use Rattle.book_laws.specs.Keeping.{IsCareful}
use Rattle.book_laws.proofs.KeptClaims.{claim_with, penalty_slots, key_slots, penalty_accepted, payment_accepted, htlc_accepted}
use Rattle.book_laws.proofs.Samples.{entry}
use Rattle.book_laws.proofs.ReceivedExamples.{tokens_same}

-- ---- the channel

-- the node's seed, and its base keys
abbrev pub seed : List ℕ
seed = replicate 32 1

abbrev pub bases : BaseKeys
bases = record { funding = point_key (seed_secret seed 0); payment = point_key (seed_secret seed 1); delayed = point_key (seed_secret seed 2); htlc = point_key (seed_secret seed 3); revocation = point_key (seed_secret seed 4) }

pub of_seed : IsSeedOf seed bases
of_seed = record { funding = refl; payment = refl; delayed = refl; htlc = refl; revocation = refl }

-- the peer's funding key is one of the other sort, by its first byte
pub third_form : IsTrue (is_key (3 ∷ replicate 32 0x20))
unfolding is_key
third_form = refl

abbrev pub their_bases : BaseKeys
their_bases = record { funding = record { bytes = 3 ∷ replicate 32 0x20; form = third_form }; payment = key 0x21; delayed = key 0x22; htlc = key 0x23; revocation = key 0x24 }

-- the peer's secrets for 0 and 1: the first derives from the second
abbrev pub secret_1 : List ℕ
secret_1 = replicate 32 0x51

abbrev pub secret_0 : List ℕ
secret_0 = derived_secret secret_1 1 (2 ^ 48 - 1)

-- the transaction whose output 7 is the funding output: it spends a grant to the script OP_1
abbrev pub funding_out : Output
funding_out = record { value = 100000; script = script_hash_program (spelling (funding bases.funding.bytes their_bases.funding.bytes)) }

abbrev pub opens_input : TxIn
opens_input = record { outpoint = grant_outpoint 0; sequence = 0; witness = (0x51 ∷ []) ∷ [] }

abbrev pub opens : Transaction
opens = record { version = 2; inputs = opens_input ∷ []; outputs = replicate 7 (record { value = 1000; script = [] }) ++ funding_out ∷ []; lock_time = 0 }

-- 100,000 satoshis, which the node, A, opened; the delays and the dust limits are two
abbrev pub terms : Terms
terms = record {
  funding = record { txid = transaction_id opens; index = 7 };
  capacity_sat = 100000;
  opener = A;
  feerate_per_kw = 1000;
  a = record { dust_sat = 546; delay_blocks = 2; minimum_msat = 1000; start_msat = 80000000; bases = bases };
  b = record { dust_sat = 1500; delay_blocks = 3; minimum_msat = 2000; start_msat = 20000000; bases = their_bases };
  limited = lit≤ tt;
  whole = refl;
  short_a = lit< tt;
  short_b = lit< tt;
}

abbrev pub hash : ℕ → List ℕ
hash byte = sha256 (replicate 32 byte)

abbrev pub htlc : (id amount_msat byte expiry_height : ℕ) → Htlc
htlc id amount_msat byte expiry_height = record { id = id; amount_msat = amount_msat; hash = hash byte; expiry_height = expiry_height }

-- ---- its states

abbrev pub opened : State
opened = state_at_opening terms A seed (point_key secret_0) (point_key secret_1)

-- the first round: the node offers 10,000 satoshis and the peer 12,000, each with a part of one that is rounded off, and both sign
abbrev pub offered : State
offered = after (after_update (Add (htlc 0 10000300 7 3)) opened) (StepMessage (Updated (Add (htlc 0 12000400 8 4))))

abbrev pub signed_1 : State
signed_1 = after_sign offered

abbrev pub tokens_1 : Tokens
tokens_1 = peer_tokens terms (own_next signed_1)

abbrev pub received_1 : State
received_1 = after signed_1 (StepMessage (CommitmentSigned tokens_1))

abbrev pub revoked_0 : State
revoked_0 = after received_1 (RevokeAndAck (record { secret = secret_0; next_point = key 0x52 }))

-- both sign once more, so that each commitment has both HTLCs
abbrev pub signed_2 : State
signed_2 = after_sign revoked_0

abbrev pub tokens_2 : Tokens
tokens_2 = peer_tokens terms (own_next signed_2)

abbrev pub received_2 : State
received_2 = after signed_2 (StepMessage (CommitmentSigned tokens_2))

abbrev pub revoked_1 : State
revoked_1 = after received_2 (RevokeAndAck (record { secret = secret_1; next_point = key 0x53 }))

-- the second round: the node offers 1,200 satoshis more, which are trimmed, and the peer 4,000. The peer's next commitment is signed and not yet answered
abbrev pub offered_more : State
offered_more = after (after_update (Add (htlc 1 1200700 10 5)) revoked_1) (StepMessage (Updated (Add (htlc 1 4000000 9 6))))

abbrev pub signed_3 : State
signed_3 = after_sign offered_more

abbrev pub tokens_3 : Tokens
tokens_3 = peer_tokens terms (own_next signed_3)

abbrev pub received_3 : State
received_3 = after signed_3 (StepMessage (CommitmentSigned tokens_3))

-- ---- what it keeps

-- the peer's commitments 0 and 1, which it revoked
abbrev pub none_of_them : Contents
none_of_them = revoked_contents revoked_0 (first_of terms B (point_key secret_0)) secret_0

abbrev pub with_one : Contents
with_one = revoked_contents revoked_1 (peers_next offered) secret_1

pub revocation_form : (secret : List ℕ) → IsTrue (is_key (revocation_key bases.revocation.bytes (point_of secret)))
unfolding is_key revocation_key
revocation_form secret = let h = length-sha256 (codes "revoke" ++ bases.revocation.bytes ++ point_of secret) in cc

abbrev pub revocation_of : List ℕ → Key
revocation_of secret = record { bytes = revocation_key bases.revocation.bytes (point_of secret); form = revocation_form secret }

abbrev pub first_local : Claimable
first_local = penalty_on none_of_them (place_in (transaction_of none_of_them) 0 (tx_output (to_local_output 3 none_of_them.keys 20000)))

abbrev pub first_remote : Claimable
first_remote = payment_on none_of_them (place_in (transaction_of none_of_them) 1 (tx_output (to_remote_output none_of_them.keys 79276)))

abbrev pub claims_0 : List ClaimParts
claims_0 = claim_with first_local (penalty_slots (revocation_of secret_0)) ∷ claim_with first_remote (key_slots bases.payment) ∷ []

first_are_on : AreClaimsOn (claimable_in none_of_them) claims_0
unfolding claimable_in claims_by commitment_of outputs_of in_order output_cmp keys_of
first_are_on = (
  record { exact = refl; accepted = penalty_accepted (revocation_of secret_0) 3 none_of_them.keys.delayed first_local.place (to_local_program 3 none_of_them.keys) },
  (record { exact = refl; accepted = payment_accepted bases.payment first_remote.place (key_program bases.payment.bytes) }, tt),
)

pub first_set : PenaltySetsAreExact → is_penalty_set revoked_0 0 claims_0 ≡ true
unfolding is_penalty_set
first_set law = law.found none_of_them claims_0 first_are_on

-- on the second, the node's HTLC too, and the output of its HTLC transaction
abbrev pub theirs_of_ours : HtlcOutput
theirs_of_ours = record { index = 0; direction = Received; htlc = htlc 0 10000300 7 3 }

abbrev pub second_htlc : Claimable
second_htlc = htlc_penalty_on with_one Received (htlc 0 10000300 7 3) (place_in (transaction_of with_one) 0 (tx_output (htlc_output with_one.keys Received (htlc 0 10000300 7 3))))

abbrev pub second_stage : Claimable
second_stage = second_stage_penalty with_one theirs_of_ours

abbrev pub second_local : Claimable
second_local = penalty_on with_one (place_in (transaction_of with_one) 1 (tx_output (to_local_output 3 with_one.keys 20000)))

abbrev pub second_remote : Claimable
second_remote = payment_on with_one (place_in (transaction_of with_one) 2 (tx_output (to_remote_output with_one.keys 69103)))

abbrev pub claims_1 : List ClaimParts
claims_1 =
    claim_with second_htlc (key_slots (revocation_of secret_1)) ∷ claim_with second_stage (penalty_slots (revocation_of secret_1))
    ∷ claim_with second_local (penalty_slots (revocation_of secret_1)) ∷ claim_with second_remote (key_slots bases.payment) ∷ []

second_are_on : AreClaimsOn (claimable_in with_one) claims_1
unfolding claimable_in claims_by commitment_of outputs_of in_order output_cmp keys_of
second_are_on = (
  record {
    exact = refl;
    accepted = htlc_accepted (revocation_of secret_1) with_one.keys.remote_htlc with_one.keys.local_htlc (ripemd160 (hash 7)) 3 second_htlc.place (htlc_program with_one.keys Received (htlc 0 10000300 7 3));
  },
  (
    record { exact = refl; accepted = penalty_accepted (revocation_of secret_1) 3 with_one.keys.delayed second_stage.place (to_local_program 3 with_one.keys) },
    (
      record { exact = refl; accepted = penalty_accepted (revocation_of secret_1) 3 with_one.keys.delayed second_local.place (to_local_program 3 with_one.keys) },
      (record { exact = refl; accepted = payment_accepted bases.payment second_remote.place (key_program bases.payment.bytes) }, tt),
    ),
  ),
)

second_set : PenaltySetsAreExact → is_penalty_set revoked_1 1 claims_1 ≡ true
unfolding is_penalty_set
second_set law = law.found with_one claims_1 second_are_on

-- ---- the history

abbrev pub opening : Opening
opening = record {
  terms = terms;
  side = A;
  seed = seed;
  first_point = point_key secret_0;
  next_point = point_key secret_1;
  token = (peer_tokens terms (first_of terms A (point_at seed 0))).commitment;
  own = of_seed;
}

abbrev pub history : List Entry
history =
    entry 0 (Open opening)
    ∷ entry 1 (Stepping 0 (Own (Offer 10000300 (hash 7) 3)))
    ∷ entry 2 (Stepping 0 (Peer (Updated (Add (htlc 0 12000400 8 4)))))
    ∷ entry 1 (Sign 0)
    ∷ entry 2 (Stepping 0 (Peer (CommitmentSigned tokens_1)))
    ∷ entry 2 (Revoke 0 (record { secret = secret_0; next_point = key 0x52 }))
    ∷ entry 3 (Keep 0 0 claims_0)
    ∷ entry 1 (Sign 0)
    ∷ entry 2 (Stepping 0 (Peer (CommitmentSigned tokens_2)))
    ∷ entry 2 (Revoke 0 (record { secret = secret_1; next_point = key 0x53 }))
    ∷ entry 3 (Keep 0 1 claims_1)
    ∷ entry 1 (Stepping 0 (Own (Offer 1200700 (hash 10) 5)))
    ∷ entry 2 (Stepping 0 (Peer (Updated (Add (htlc 1 4000000 9 6)))))
    ∷ entry 1 (Sign 0)
    ∷ entry 2 (Stepping 0 (Peer (CommitmentSigned tokens_3)))
    ∷ []

abbrev pub book : Option ℕ → ChannelBook
book closed = record { state = received_3; kept = 0 ∷ 1 ∷ []; closed = closed }

pub there : replay history ≡ book None ∷ []
there = refl

pub same : (bytes : List ℕ) → bytes_eq bytes bytes ≡ true
same bytes = (bytes_eq-Decides bytes bytes).1 refl

-- the second secret leads to the first
pub not_foreign : (is_foreign [] secret_0 ≡ false) × (is_foreign (secret_0 ∷ []) secret_1 ≡ false)
unfolding is_foreign index_of derived_secret flipped count_trailing_zeros sha256 digest_bytes hash_after compress rounds schedule first_words
not_foreign = (refl, refl)

pub taken : PenaltySetsAreExact → all_accepted peer_tokens history ≡ true
taken law = rw (
  same opening.token,
  tokens_same tokens_1,
  tokens_same tokens_2,
  tokens_same tokens_3,
  same (point_of secret_0),
  same (point_of secret_1),
  not_foreign.0,
  not_foreign.1,
  first_set law,
  second_set law,
) refl

pub opens_length : length (transaction_id opens) ≡ 32
unfolding transaction_id
opens_length = length-sha256 _

-- yes: IsCareful
pub careful : AcceptedMeans → PenaltySetsAreExact → IsCareful history 0 (book None)
careful law sets = record {
  called = (law.accepted_exactly peer_tokens history).1 (taken sets);
  there = refl;
  cares = (tt, ((λ e. lit< tt), (tt, (tt, (tt, (tt, (tt, (tt, (tt, (tt, (tt, ((λ e. lit< tt), (tt, (tt, (tt, tt)))))))))))))));
  due = tt;
  funding = record { txid = opens_length; index = lit< tt };
}
