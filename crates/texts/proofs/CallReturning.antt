-- A reader reads back the call that its writer wrote.
use Rattle.std.proofs.Common.{◌≡◌, ℕ, ◌==◌, ◌&&◌, true, false, length, slice_index, List, [], ◌∷◌, map, Some, refl, subst}
use Rattle.std.specs.Prelude.{IsTrue}
use Rattle.std.specs.List.{AllByRecursion}
use Rattle.std.proofs.lemmas.Bool.{and_parts, eqb-true}
use Rattle.std.proofs.lemmas.List.{length-map}
use Rattle.hex.specs.Hex.{IsBytes}
use Rattle.serde_json.specs.Data.{Data}
use Rattle.script.specs.Token.{is_key_start, is_token}
use Rattle.tx.specs.Parts.{Output, IsOutput}
use Rattle.claim.specs.Claims.{ClaimParts}
use Rattle.terms.specs.declared.agreement.BaseKeys.{BaseKeys}
use Rattle.updates.specs.declared.changes.Update.{Update}
use Rattle.updates.specs.declared.changes.Update.TheVariants.{Add, Fulfil as Fulfilling, Fail as Failing, Fee}
use Rattle.updates.specs.declared.changes.OwnUpdate.TheVariants.{Offer, Fulfil, Fail, SetFee}
use Rattle.updates.specs.declared.messages.PeerStep.{PeerStep}
use Rattle.updates.specs.declared.messages.Tokens.{Tokens}
use Rattle.updates.specs.declared.messages.Revocation.{Revocation}
use Rattle.updates.specs.declared.messages.PeerStep.TheVariants.{Update as Updated, CommitmentSigned}
use Rattle.texts.specs.declared.steps.PlainStep.TheVariants.{Own, Receive}
use Rattle.texts.specs.declared.calls.PlainOpening.{PlainOpening}
use Rattle.texts.specs.declared.calls.PlainCall.{PlainCall}
use Rattle.texts.specs.declared.calls.PlainCall.TheVariants.{Open, Step, Sign, Revoke, Keep, Release, Close}
use Rattle.texts.specs.Values.{u32_of, side_of, bytes_of_len}
use Rattle.texts.specs.Keys.{key_of, base_keys_of, token_bytes_of}
use Rattle.texts.specs.Outpoints.{outpoint_of}
use Rattle.texts.specs.Terms.{terms_of}
use Rattle.texts.specs.Messages.{update_of}
use Rattle.texts.specs.Outputs.{output_of}
use Rattle.texts.specs.Claims.{claim_of}
use Rattle.texts.specs.Steps.{signature_in, revocation_in, revocation_of, received_named, received_of, own_offer_of, own_fulfil_of, own_fail_of, own_fee_of, own_named, receive_of, step_named, step_of}
use Rattle.texts.specs.Calls.{opening_of, open_of, step_call_of, sign_of, revoke_of, keep_of, release_of, close_of, call_named, call_of, entry_of, dump_of, are_within}
use Rattle.texts.specs.Writing.{number_data, bytes_data, side_data, terms_data, output_data, add_data, update_data, Is32Bytes}
use Rattle.texts.specs.ClaimWriting.{outpoint_data, claim_data, plain_claim, IsClaim}
use Rattle.texts.specs.CallWriting.{key_data, AreTokens, CanOpen, base_keys_data, signature_data, revocation_data, received_data, open_data, own_data, receive_data, sign_data, revoke_data, keep_data, release_data, close_data, entry_data, dump_data, AreBases, IsTokenText, IsReceived, OpeningsComeBack, OwnStepsComeBack, ReceivedStepsComeBack, SignsComeBack, RevokesComeBack, KeepsComeBack, ReleasesComeBack, ClosesComeBack, EntriesComeBack, DumpsComeBack}
use Rattle.texts.proofs.Returning.{below_back, sized_back, hash_back, side_back, terms_come_back, outputs_come_back, updates_come_back}
use Rattle.texts.proofs.ClaimReturning.{key_back, outpoints_come_back, claims_come_back, each_again, same_again, all_by}

-- ---- keys and tokens

pub token_again : (bytes : List ℕ) → bytes_of_len (length bytes) (bytes_data bytes) ≡ Some bytes → IsTrue (is_token bytes) → token_bytes_of (bytes_data bytes) ≡ Some bytes
unfolding is_token
token_again bytes back form =
    let front = and_parts (length bytes == 66 && is_key_start (slice_index bytes 0)) (slice_index bytes 65 == 1) form in
    let len = eqb-true (length bytes) 66 (and_parts (length bytes == 66) (is_key_start (slice_index bytes 0)) front.0).0 in
    let read : bytes_of_len 66 (bytes_data bytes) ≡ Some bytes = subst (λ n. bytes_of_len n (bytes_data bytes) ≡ Some bytes) len back in
    rw (read, form) refl

token_back : (bytes : List ℕ) → IsTokenText bytes → token_bytes_of (bytes_data bytes) ≡ Some bytes
token_back bytes (form, each) = token_again bytes (sized_back bytes each) form

pub bases_again : (b : BaseKeys) → key_of (key_data b.funding) ≡ Some b.funding → key_of (key_data b.payment) ≡ Some b.payment → key_of (key_data b.delayed) ≡ Some b.delayed
    → key_of (key_data b.htlc) ≡ Some b.htlc → key_of (key_data b.revocation) ≡ Some b.revocation → base_keys_of (base_keys_data b) ≡ Some b
unfolding base_keys_of
bases_again b funding payment delayed htlc revocation = rw (funding, payment, delayed, htlc, revocation) refl

bases_back : (b : BaseKeys) → AreBases b → base_keys_of (base_keys_data b) ≡ Some b
bases_back b h = bases_again b (key_back b.funding h.funding) (key_back b.payment h.payment) (key_back b.delayed h.delayed) (key_back b.htlc h.htlc) (key_back b.revocation h.revocation)

-- ---- messages

pub updated_again : (u : Update) → update_of (update_data u) ≡ Some u → received_of (update_data u) ≡ Some (Updated u)
unfolding received_of received_named update_data add_data
updated_again (Add htlc) back = rw back refl
updated_again (Fulfilling id preimage) back = rw back refl
updated_again (Failing id) back = rw back refl
updated_again (Fee feerate_per_kw) back = rw back refl

pub signature_again : (s : Tokens) → token_bytes_of (bytes_data s.commitment) ≡ Some s.commitment → AllByRecursion (λ t. token_bytes_of (bytes_data t) ≡ Some t) s.htlcs
    → received_of (signature_data s) ≡ Some (CommitmentSigned s)
unfolding received_of received_named signature_in signature_data
signature_again s commitment htlcs = rw (commitment, same_again bytes_data token_bytes_of s.htlcs htlcs) refl

-- if the tokens have their form
pub signed_again : (s : Tokens) → (IsTrue (is_token s.commitment) → token_bytes_of (bytes_data s.commitment) ≡ Some s.commitment)
    → AllByRecursion (λ t. IsTrue (is_token t) → token_bytes_of (bytes_data t) ≡ Some t) s.htlcs → AreTokens s → received_of (signature_data s) ≡ Some (CommitmentSigned s)
signed_again s commitment htlcs (form, forms) = signature_again s (commitment form) (each s.htlcs htlcs forms)
  where
    each : (ts : List (List ℕ)) → AllByRecursion (λ t. IsTrue (is_token t) → token_bytes_of (bytes_data t) ≡ Some t) ts → AllByRecursion (λ t. IsTrue (is_token t)) ts
        → AllByRecursion (λ t. token_bytes_of (bytes_data t) ≡ Some t) ts
    each [] h f = h
    each (t ∷ ts) h f = (h.0 f.0, each ts h.1 f.1)

pub revocation_again : (r : Revocation) → bytes_of_len 32 (bytes_data r.secret) ≡ Some r.secret → key_of (key_data r.next_point) ≡ Some r.next_point
    → revocation_of (revocation_data r) ≡ Some r
unfolding revocation_of revocation_in revocation_data
revocation_again r secret point = rw (secret, point) refl

received_back : (m : PeerStep) → IsReceived m → received_of (received_data m) ≡ Some m
unfolding received_data
received_back (Updated u) h = updated_again u (updates_come_back u h)
received_back (CommitmentSigned s) (commitment, htlcs) =
    signature_again s (token_back s.commitment commitment) (all_by IsTokenText (λ t. token_bytes_of (bytes_data t) ≡ Some t) token_back s.htlcs htlcs)

-- ---- calls

pub opening_again : (o : PlainOpening) → terms_of (terms_data o.terms) ≡ Some o.terms → outpoint_of (outpoint_data o.funding) ≡ Some o.funding → side_of (side_data o.side) ≡ Some o.side
    → bytes_of_len 32 (bytes_data o.seed) ≡ Some o.seed → base_keys_of (base_keys_data o.bases) ≡ Some o.bases
    → (key_of (key_data o.first_point) ≡ Some o.first_point) × (key_of (key_data o.next_point) ≡ Some o.next_point)
    → (IsTrue (is_token o.token) → token_bytes_of (bytes_data o.token) ≡ Some o.token) → CanOpen o → call_of (open_data o) ≡ Some (Open o)
unfolding call_of call_named open_of opening_of open_data
opening_again o terms funding side seed bases points token (agreed, form) = rw (terms, funding, side, seed, bases, points.0, points.1, token form, agreed) refl

pub offer_again : (channel amount_msat : ℕ) (hash : List ℕ) (expiry_height : ℕ) → bytes_of_len 32 (bytes_data hash) ≡ Some hash → u32_of (number_data expiry_height) ≡ Some expiry_height
    → call_of (own_data channel (Offer amount_msat hash expiry_height)) ≡ Some (Step channel (Own (Offer amount_msat hash expiry_height)))
unfolding call_of call_named step_call_of step_of step_named own_named own_offer_of own_data
offer_again channel amount_msat hash expiry_height back small = rw (back, small) refl

pub own_fulfil_again : (channel id : ℕ) (preimage : List ℕ) → bytes_of_len 32 (bytes_data preimage) ≡ Some preimage
    → call_of (own_data channel (Fulfil id preimage)) ≡ Some (Step channel (Own (Fulfil id preimage)))
unfolding call_of call_named step_call_of step_of step_named own_named own_fulfil_of own_data
own_fulfil_again channel id preimage back = rw back refl

pub own_fail_again : (channel id : ℕ) → call_of (own_data channel (Fail id)) ≡ Some (Step channel (Own (Fail id)))
unfolding call_of call_named step_call_of step_of step_named own_named own_fail_of own_data
own_fail_again channel id = refl

pub own_fee_again : (channel feerate_per_kw : ℕ) → u32_of (number_data feerate_per_kw) ≡ Some feerate_per_kw → call_of (own_data channel (SetFee feerate_per_kw)) ≡ Some (Step channel (Own (SetFee feerate_per_kw)))
unfolding call_of call_named step_call_of step_of step_named own_named own_fee_of own_data
own_fee_again channel feerate_per_kw small = rw small refl

pub receive_again : (channel : ℕ) (d : Data) (m : PeerStep) → received_of d ≡ Some m → call_of (receive_data channel d) ≡ Some (Step channel (Receive m))
unfolding call_of call_named step_call_of step_of step_named receive_of receive_data
receive_again channel d m back = rw back refl

pub sign_again : (channel : ℕ) → call_of (sign_data channel) ≡ Some (Sign channel)
unfolding call_of call_named sign_of sign_data
sign_again channel = refl

pub revoke_again : (channel : ℕ) (r : Revocation) → revocation_of (revocation_data r) ≡ Some r → call_of (revoke_data channel r) ≡ Some (Revoke channel r)
unfolding call_of call_named revoke_of revoke_data
revoke_again channel r back = rw back refl

pub keep_again : (channel number : ℕ) (claims : List ClaimParts) → AllByRecursion (λ c. claim_of (claim_data c) ≡ Some (plain_claim c)) claims
    → call_of (keep_data channel number claims) ≡ Some (Keep channel number (map plain_claim claims))
unfolding call_of call_named keep_of keep_data
keep_again channel number claims back = rw (each_again claim_data claim_of plain_claim claims back) refl

pub release_again : (channel : ℕ) (claims : List ClaimParts) (outputs : List Output) (preimages : List (List ℕ))
    → AllByRecursion (λ c. claim_of (claim_data c) ≡ Some (plain_claim c)) claims → AllByRecursion (λ o. output_of (output_data o) ≡ Some o) outputs
    → AllByRecursion (λ p. bytes_of_len 32 (bytes_data p) ≡ Some p) preimages → are_within (length claims) (length outputs) ≡ true
    → call_of (release_data channel claims outputs preimages) ≡ Some (Release channel (map plain_claim claims) outputs preimages)
unfolding call_of call_named release_of release_data
release_again channel claims outputs preimages back outs images within =
    rw (
      each_again claim_data claim_of plain_claim claims back,
      same_again output_data output_of outputs outs,
      same_again bytes_data (bytes_of_len 32) preimages images,
      length-map claims plain_claim,
      within,
    )
    refl

pub close_again : (channel : ℕ) → call_of (close_data channel) ≡ Some (Close channel)
unfolding call_of call_named close_of close_data
close_again channel = refl

-- ---- all calls come back

pub openings_come_back : OpeningsComeBack
openings_come_back o h =
    opening_again o (terms_come_back o.terms h.widths) (outpoints_come_back o.funding h.funding) (side_back o.side) (hash_back o.seed h.seed) (bases_back o.bases h.bases)
    (key_back o.first_point h.first_point, key_back o.next_point h.next_point) (λ form. token_back o.token h.token) (h.agreed, h.token.0)

pub own_steps_come_back : OwnStepsComeBack
own_steps_come_back channel (Offer amount_msat hash expiry_height) (is, lt) = offer_again channel amount_msat hash expiry_height (hash_back hash is) (below_back _ _ lt)
own_steps_come_back channel (Fulfil id preimage) is = own_fulfil_again channel id preimage (hash_back preimage is)
own_steps_come_back channel (Fail id) h = own_fail_again channel id
own_steps_come_back channel (SetFee feerate_per_kw) lt = own_fee_again channel feerate_per_kw (below_back _ _ lt)

pub received_steps_come_back : ReceivedStepsComeBack
received_steps_come_back channel m h = receive_again channel (received_data m) m (received_back m h)

pub signs_come_back : SignsComeBack
signs_come_back channel = sign_again channel

pub revokes_come_back : RevokesComeBack
revokes_come_back channel r (secret, point) = revoke_again channel r (revocation_again r (hash_back r.secret secret) (key_back r.next_point point))

claims_back : (claims : List ClaimParts) → AllByRecursion IsClaim claims → AllByRecursion (λ c. claim_of (claim_data c) ≡ Some (plain_claim c)) claims
claims_back claims h = all_by IsClaim (λ c. claim_of (claim_data c) ≡ Some (plain_claim c)) claims_come_back claims h

pub keeps_come_back : KeepsComeBack
keeps_come_back channel number claims h = keep_again channel number claims (claims_back claims h)

pub releases_come_back : ReleasesComeBack
releases_come_back channel claims outputs preimages h os ps within =
    release_again channel claims outputs preimages (claims_back claims h)
    (all_by (λ o. IsOutput o × IsBytes o.script) (λ o. output_of (output_data o) ≡ Some o) (λ o is. outputs_come_back o is.0 is.1) outputs os)
    (all_by Is32Bytes (λ p. bytes_of_len 32 (bytes_data p) ≡ Some p) hash_back preimages ps) within

pub closes_come_back : ClosesComeBack
closes_come_back channel = close_again channel

-- ---- the dump

pub entry_again : (d : Data) (seat : ℕ) → u32_of (number_data seat) ≡ Some seat → (call : PlainCall) → call_of d ≡ Some call
    → entry_of (entry_data d seat) ≡ Some (record { call = call; seat = seat })
unfolding entry_of entry_data
entry_again d seat small call read = rw (read, small) refl

pub entries_come_back : EntriesComeBack
entries_come_back d call seat read lt = entry_again d seat (below_back _ _ lt) call read

pub dumps_come_back : DumpsComeBack
unfolding dump_of dump_data
dumps_come_back true ds history read closed = rw (read, closed) refl
dumps_come_back false ds history read closed = rw (read, closed) refl
