-- What the node releases once it has closed the channel of two rounds with its newest own commitment: the HTLC transaction of each HTLC, by the preimage or above the expiry.
use Rattle.std.proofs.Common.{subst, ◌≡◌, ℕ, ◌≤◌, true, false, List, [], ◌∷◌, ◌++◌, replicate, length, get_or, Some, None, refl, sym, ap, ◌∙◌, arith, lit≤, lit<}
use Rattle.std.specs.Prelude.{◌||◌}
use Rattle.std.specs.List.{Contains}
use Rattle.std.specs.Str.{bytes_eq}
use Rattle.std.proofs.lemmas.Bool.{or_right}
use Rattle.sha2.specs.Sha256.{sha256, digest_bytes, hash_after, compress, rounds, schedule, first_words}
use Rattle.sha2.proofs.Facts256.{length-sha256}
use Rattle.digest.specs.Hash.{hash160}
use Rattle.digest.specs.Ripemd160.{left_words, right_words, left_rotations, right_rotations, left_constants, right_constants, block_words, left_line, right_line, blocks, ripemd160, compress as ripemd_compress, hash_after as ripemd_hash_after, digest_bytes as ripemd_digest_bytes}
use Rattle.script.specs.Token.{token_of}
use Rattle.keys.specs.declared.bases.Base.TheVariants as base
use Rattle.keys.specs.declared.compressed.Key.{Key}
use Rattle.keys.specs.Derivation.{point_of, derived_key, revocation_key}
use Rattle.keys.specs.Rights.{MaySign, derived}
use Rattle.claim.proofs.TokenForms.{token-length, key-length}
use Rattle.claim.specs.declared.parts.Place.{Place}
use Rattle.claim.specs.declared.parts.Slot.{Slot}
use Rattle.claim.specs.declared.parts.Slot.TheVariants.{Sig, Preimage, Exact}
use Rattle.claim.specs.Claims.{ClaimParts}
use Rattle.filling.specs.Refusals.{ArePassed}
use Rattle.terms.specs.declared.htlcs.Htlc.{Htlc}
use Rattle.commit.specs.declared.fees.Direction.{Direction}
use Rattle.commit.specs.declared.fees.Direction.TheVariants.{Offered, Received}
use Rattle.commit.specs.declared.outputs.HtlcOutput.{HtlcOutput}
use Rattle.commit.specs.Commitments.{Contents, commitment_of, tx_output, transaction_of}
use Rattle.commit.specs.Keys.{keys_of}
use Rattle.commit.specs.Order.{output_cmp, in_order}
use Rattle.commit.specs.Outputs.{outputs_of, htlc_output, to_local_output}
use Rattle.commit.specs.Signing.{htlc_digest}
use Rattle.penalty.specs.Claimable.{Claimable, place_in, claims_by}
use Rattle.penalty.specs.Sets.{claimed_by}
use Rattle.resolve.specs.Due.{second_stage_on, delayed_second_stage, delayed_on, owners_due}
use Rattle.resolve.specs.Preimages.{is_known}
use Rattle.channel.specs.Points.{point_at}
use Rattle.channel.specs.Rights.{rights_of}
use Rattle.channel.specs.Tokens.{contents_of, peer_tokens}
use Rattle.safety.specs.Holdings.{Release, Holding, IsOnRecorded, on_own}
use Rattle.book.specs.declared.calls.Batch.{Batch}
use Rattle.book.specs.declared.calls.Call.TheVariants.{Release as Releasing, Close}
use Rattle.book.specs.declared.calls.Entry.{Entry}
use Rattle.book.specs.Accepted.{all_accepted, AcceptedMeans}
use Rattle.book.specs.Books.{replay}
use Rattle.book.specs.Penalties.{PenaltySetsAreExact}
use Rattle.book.specs.Signers.{fill_refusal, RefusalsAreFound}
use Rattle.book.proofs.CheckedForms.{derived_form}
use Rattle.book_laws.specs.Keeping.{IsCareful}
use Rattle.book_laws.specs.Holdings.{holding_of}
use Rattle.book_laws.proofs.KeptClaims.{claim_with}
use Rattle.book_laws.proofs.Samples.{entry}
use Rattle.book_laws.proofs.RoundsExamples.{seed, bases, their_bases, terms, hash, htlc, history, book, received_3, taken, opens_length, same}
use Rattle.book_laws.proofs.RoundsChains.{own, own_secret, own_secret_is, differ}

abbrev pub c : Contents
c = contents_of terms own

-- its HTLCs: one of the node's that expires at 3, and two of the peer's
abbrev pub ours : HtlcOutput
ours = record { index = 2; direction = Offered; htlc = htlc 0 10000300 7 3 }

abbrev pub theirs : HtlcOutput
theirs = record { index = 3; direction = Received; htlc = htlc 0 12000400 8 4 }

abbrev pub more : HtlcOutput
more = record { index = 1; direction = Received; htlc = htlc 1 4000000 9 6 }

-- ---- the claims

abbrev pub place_of : HtlcOutput → Place
place_of h = place_in (transaction_of c) h.index (tx_output (htlc_output c.keys h.direction h.htlc))

abbrev pub local_key : Key
local_key = record { bytes = derived_key bases.htlc.bytes (point_at seed 3).bytes; form = derived_form bases.htlc.bytes (point_at seed 3).bytes }

abbrev pub remote_key : Key
remote_key = record { bytes = derived_key their_bases.htlc.bytes (point_at seed 3).bytes; form = derived_form their_bases.htlc.bytes (point_at seed 3).bytes }

pub stage_digest_length : (h : HtlcOutput) → length (htlc_digest c h) ≡ 32
unfolding htlc_digest
stage_digest_length h = length-sha256 _

pub token_short : (h : HtlcOutput) → length (token_of remote_key.bytes (htlc_digest c h)) ≤ 520
token_short h = let l = token-length remote_key.bytes (htlc_digest c h) (stage_digest_length h) in let m = key-length remote_key.bytes remote_key.form in omega (arith, l, m)

abbrev pub slot_for : Direction → Htlc → Slot
slot_for Offered x = Exact (record { item = []; short = lit≤ tt })
slot_for Received x = Preimage x.hash

abbrev pub stage_claim : HtlcOutput → ClaimParts
stage_claim h =
    claim_with (second_stage_on c h (place_of h))
    (slot_for h.direction h.htlc ∷ Sig local_key ∷ Exact (record { item = token_of remote_key.bytes (htlc_digest c h); short = token_short h }) ∷ Exact (record { item = []; short = lit≤ tt }) ∷ [])

abbrev IsStage : HtlcOutput → Type 0
IsStage h = claimed_by (stage_claim h) ≡ second_stage_on c h (place_of h)

claimed : IsStage ours × IsStage theirs × IsStage more
unfolding commitment_of keys_of
claimed = (refl, refl, refl)

-- ---- the calls

abbrev batch : HtlcOutput → List (List ℕ) → Batch
batch h preimages = record { claims = stage_claim h ∷ []; outputs = []; preimages = preimages; some = lit≤ tt; inputs = lit≤ tt; given = lit≤ tt }

-- at the end the node closes the channel with its commitment 3, and releases its HTLC transactions
abbrev pub closed_history : List Entry
closed_history =
    history
    ++ entry 1 (Close 0)
    ∷ entry 3 (Releasing 0 (batch theirs (replicate 32 8 ∷ [])))
    ∷ entry 3 (Releasing 0 (batch more (replicate 32 9 ∷ [])))
    ∷ entry 3 (Releasing 0 (batch ours []))
    ∷ []

there_too : replay closed_history ≡ book (Some 3) ∷ []
there_too = refl

abbrev pub release : HtlcOutput → Release
release h = record { claims = stage_claim h ∷ []; outputs = [] }

abbrev pub released : List Release
released = release theirs ∷ release more ∷ release ours ∷ []

-- what the history leaves
abbrev pub closed : Holding
closed = record { state = received_3; releases = released; closed = Some 3 }

pub closed_is : holding_of closed_history 0 (book (Some 3)) ≡ closed
closed_is = refl

-- the signer has the right to the node's HTLC key, and the preimage
signs : MaySign (rights_of received_3) local_key.bytes
signs = derived base.Htlc (point_at seed 3).bytes (5, lit< tt, refl) refl

alone : (h : HtlcOutput) → ArePassed (stage_claim h ∷ []) []
alone h = record { unmixed = refl; apart = refl; within = refl }

fills_theirs : RefusalsAreFound → fill_refusal (stage_claim theirs ∷ []) [] (rights_of received_3) (replicate 32 8 ∷ []) ≡ None
fills_theirs found = found.filled (stage_claim theirs ∷ []) [] (rights_of received_3) (replicate 32 8 ∷ []) (alone theirs) (rw (same (hash 8)) refl, (signs, (tt, (tt, tt))))

fills_more : RefusalsAreFound → fill_refusal (stage_claim more ∷ []) [] (rights_of received_3) (replicate 32 9 ∷ []) ≡ None
fills_more found = found.filled (stage_claim more ∷ []) [] (rights_of received_3) (replicate 32 9 ∷ []) (alone more) (rw (same (hash 9)) refl, (signs, (tt, (tt, tt))))

fills_ours : RefusalsAreFound → fill_refusal (stage_claim ours ∷ []) [] (rights_of received_3) [] ≡ None
fills_ours found = found.filled (stage_claim ours ∷ []) [] (rights_of received_3) [] (alone ours) (tt, (signs, (tt, (tt, tt))))

taken_too : PenaltySetsAreExact → RefusalsAreFound → all_accepted peer_tokens closed_history ≡ true
taken_too law found = rw (fills_ours found, fills_more found, fills_theirs found) (taken law)

-- ---- they are on what the commitment gives the node

abbrev revocation_with : List ℕ → List ℕ
revocation_with secret = revocation_key their_bases.revocation.bytes (point_of secret)

revocation_begins_by : get_or (hash160 (revocation_with own_secret)) 0 0 ≡ 0x42
unfolding sha256 digest_bytes hash_after compress rounds schedule first_words ripemd160 left_words right_words left_rotations right_rotations left_constants right_constants block_words left_line right_line blocks ripemd_compress ripemd_hash_after ripemd_digest_bytes point_of revocation_key
revocation_begins_by = refl

revocation_begins : get_or (hash160 (revocation_key their_bases.revocation.bytes (point_at seed 3).bytes)) 0 0 ≡ 0x42
revocation_begins = ap (λ (s : List ℕ). get_or (hash160 (revocation_with s)) 0 0) own_secret_is ∙ revocation_begins_by

items_begin : (get_or (hash160 []) 0 0 ≡ 0xb4) × (get_or (hash160 (replicate 32 8)) 0 0 ≡ 0x9d) × (get_or (hash160 (replicate 32 9)) 0 0 ≡ 0x7d)
unfolding sha256 digest_bytes hash_after compress rounds schedule first_words ripemd160 left_words right_words left_rotations right_rotations left_constants right_constants block_words left_line right_line blocks ripemd_compress ripemd_hash_after ripemd_digest_bytes
items_begin = (refl, refl, refl)

-- the item above the signatures is no revocation key
pub no_revocation : (item : List ℕ) (n : ℕ) → get_or (hash160 item) 0 0 ≡ n → (n ≡ 0x42 → ⊥) → bytes_eq (hash160 (revocation_key their_bases.revocation.bytes (point_at seed 3).bytes)) (hash160 item) ≡ false
no_revocation item n e other = differ (hash160 (revocation_key their_bases.revocation.bytes (point_at seed 3).bytes)) (hash160 item) 0x42 n revocation_begins e (λ f. other (sym f))

pub none_revokes_ours : bytes_eq (hash160 (revocation_key their_bases.revocation.bytes (point_at seed 3).bytes)) (hash160 []) ≡ false
none_revokes_ours = no_revocation [] 0xb4 items_begin.0 (λ e. omega (arith, e))

pub none_revokes_theirs : bytes_eq (hash160 (revocation_key their_bases.revocation.bytes (point_at seed 3).bytes)) (hash160 (replicate 32 8)) ≡ false
none_revokes_theirs = no_revocation (replicate 32 8) 0x9d items_begin.1 (λ e. omega (arith, e))

pub none_revokes_more : bytes_eq (hash160 (revocation_key their_bases.revocation.bytes (point_at seed 3).bytes)) (hash160 (replicate 32 9)) ≡ false
none_revokes_more = no_revocation (replicate 32 9) 0x7d items_begin.2 (λ e. omega (arith, e))

abbrev pub preimages : List (List ℕ)
preimages = replicate 32 8 ∷ replicate 32 9 ∷ []

knows_theirs : is_known preimages (hash 8) ≡ true
knows_theirs = rw (same (hash 8)) refl

knows_more : is_known preimages (hash 9) ≡ true
knows_more = or_right (bytes_eq (hash 8) (hash 9)) (bytes_eq (hash 9) (hash 9) || false) (rw (same (hash 9)) refl)

due_is : owners_due preimages c
    ≡ second_stage_on c more (place_of more) ∷ delayed_second_stage c more ∷ second_stage_on c ours (place_of ours) ∷ delayed_second_stage c ours
    ∷ second_stage_on c theirs (place_of theirs) ∷ delayed_second_stage c theirs
    ∷ delayed_on c (place_in (transaction_of c) 4 (tx_output (to_local_output 2 c.keys 68759))) ∷ []
unfolding owners_due claims_by commitment_of outputs_of in_order output_cmp keys_of
due_is = rw (none_revokes_ours, none_revokes_theirs, none_revokes_more, knows_theirs, knows_more) refl

recorded : (h : HtlcOutput) → IsStage h → Contains (owners_due preimages c) (second_stage_on c h (place_of h)) → IsOnRecorded closed (stage_claim h)
recorded h e among = on_own 3 own refl preimages (subst (λ (o : Claimable). Contains (owners_due preimages c) o) (sym e) among)

among : (o : Claimable) → Contains (second_stage_on c more (place_of more) ∷ delayed_second_stage c more ∷ second_stage_on c ours (place_of ours) ∷ delayed_second_stage c ours
    ∷ second_stage_on c theirs (place_of theirs) ∷ delayed_second_stage c theirs
    ∷ delayed_on c (place_in (transaction_of c) 4 (tx_output (to_local_output 2 c.keys 68759))) ∷ []) o → Contains (owners_due preimages c) o
among o i = subst (λ (os : List Claimable). Contains os o) (sym due_is) i

-- yes: IsCareful
pub careful_too : AcceptedMeans → PenaltySetsAreExact → RefusalsAreFound → IsCareful closed_history 0 (book (Some 3))
careful_too law sets found = record {
  called = (law.accepted_exactly peer_tokens closed_history).1 (taken_too sets found);
  there = refl;
  cares = (tt, ((λ e. lit< tt), (tt, (tt, (tt, (tt, (tt, (tt, (tt, (tt, (tt, ((λ e. lit< tt), (tt, (tt, (tt, (tt, ((λ e. tt), ((λ e. tt), ((λ e. tt), tt)))))))))))))))))));
  due = (
    (recorded theirs claimed.1 (among (second_stage_on c theirs (place_of theirs)) (4, lit< tt, refl)), tt),
    (
      (recorded more claimed.2 (among (second_stage_on c more (place_of more)) (0, lit< tt, refl)), tt),
      ((recorded ours claimed.0 (among (second_stage_on c ours (place_of ours)) (2, lit< tt, refl)), tt), tt),
    ),
  );
  funding = record { txid = opens_length; index = lit< tt };
}
