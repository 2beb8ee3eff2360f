-- The tokens of an accepted call were the peer's, which have a token's form.
use Rattle.std.proofs.Common.{◌≡◌, ℕ, suc, Bool, true, false, if◌then◌else◌, List, [], ◌∷◌, length, map, Option, Some, None, option_map, refl, ap, ◌∙◌, arith}
use Rattle.std.specs.Prelude.{not, nat_le, slice_get}
use Rattle.std.specs.Str.{bytes_eq}
use Rattle.std.specs.List.{AllByRecursion, list_any}
use Rattle.std.proofs.lemmas.Bool.{ne_eqb, and_parts, false≢true}
use Rattle.std.proofs.lemmas.Slice.Eq.{bytes_eq-Decides}
use Rattle.tx.specs.Fields.{same_outpoint}
use Rattle.sha2.proofs.Facts256.{length-sha256}
use Rattle.script.specs.Token.{token_of, is_key, is_token, is_signature}
use Rattle.claim.proofs.TokenForms.{token-length, token-signature, key-length}
use Rattle.terms.specs.declared.agreement.Terms.{Terms}
use Rattle.terms.specs.Agreement.{party}
use Rattle.terms.specs.Sides.{other}
use Rattle.updates.specs.declared.errors.ChannelError.TheVariants.{NotYourTurn, NoUpdates, BadSignature}
use Rattle.updates.specs.Refusals.{Test, first_refusal, covers_nothing}
use Rattle.commit.specs.declared.outputs.HtlcOutput.{HtlcOutput}
use Rattle.commit.specs.Keys.{keys_of}
use Rattle.commit.specs.Commitments.{Contents, commitment_of, htlcs_of}
use Rattle.commit.specs.Signing.{commitment_digest, htlc_digest}
use Rattle.channel.specs.declared.commitments.CommitmentState.{CommitmentState}
use Rattle.channel.specs.declared.limits.TheConstants.{LAST_NUMBER}
use Rattle.updates.specs.declared.messages.Tokens.{Tokens}
use Rattle.updates.specs.declared.messages.PeerStep.TheVariants.{Update as Updated, CommitmentSigned}
use Rattle.channel.specs.declared.messages.Message.TheVariants.{Step as StepMessage}
use Rattle.channel.specs.Points.{point_at}
use Rattle.channel.specs.States.{State, first_of, own_next, all_eq, same_tokens, receive_tests}
use Rattle.channel.specs.Tokens.{contents_of, funding_key, htlc_key, peer_tokens}
use Rattle.texts.specs.CallWriting.{AreTokens}
use Rattle.book.specs.declared.calls.Opening.{Opening}
use Rattle.book.specs.declared.calls.Step.{Step}
use Rattle.book.specs.declared.calls.Step.TheVariants.{Own, Peer}
use Rattle.book.specs.declared.calls.Call.{Call}
use Rattle.book.specs.declared.calls.Call.TheVariants.{Open, Step as Stepping, Sign, Revoke, Keep, Release, Close}
use Rattle.book.specs.declared.calls.Entry.{Entry}
use Rattle.book.specs.declared.limits.TheConstants.{MAX_CHANNELS}
use Rattle.book.specs.declared.errors.OpenError.TheVariants.{BookFull, SameFunding, BadSignature as WrongToken}
use Rattle.book.specs.Books.{Channels, replayed}
use Rattle.book.specs.Replies.{is_accepted, answer_of, open_refusal, step_refusal}
use Rattle.book.specs.Accepted.{is_taken, first_refused_after}
use Rattle.book_dump.specs.Again.{HasStepTokens, HasTokens}
use Rattle.book.proofs.CheckedForms.{derived_form}
use Rattle.book.proofs.Accepting.{asked_ok, unless_ok, some_none, passed, not_false, step_passes}

-- ---- the peer's tokens

has_form : (k d : List ℕ) → is_key k ≡ true → length d ≡ 32 → is_token (token_of k d) ≡ true
unfolding is_signature
has_form k d h e =
    let l = key-length k h in
    let n = token-length k d e in
    let s = token-signature k d h e in
    rw (ne_eqb (length (token_of k d)) 0 (λ z. omega arith)) at s

htlc_key_form : (terms : Terms) (c : CommitmentState) → is_key (htlc_key terms c) ≡ true
unfolding commitment_of keys_of
htlc_key_form terms c = derived_form (party (other c.owner) terms).bases.htlc.bytes c.point.bytes

commitment_length : (terms : Terms) (c : Contents) → length (commitment_digest terms c) ≡ 32
unfolding commitment_digest
commitment_length terms c = length-sha256 _

htlc_length : (c : Contents) (h : HtlcOutput) → length (htlc_digest c h) ≡ 32
unfolding htlc_digest
htlc_length c h = length-sha256 _

have_forms : (k : List ℕ) (c : Contents) (hs : List HtlcOutput) → is_key k ≡ true → AllByRecursion (λ t. is_token t ≡ true) (map (token_of k) (map (htlc_digest c) hs))
have_forms k c [] form = tt
have_forms k c (h ∷ hs) form = (has_form k (htlc_digest c h) form (htlc_length c h), have_forms k c hs form)

commitment_form : (terms : Terms) (c : CommitmentState) → is_token (peer_tokens terms c).commitment ≡ true
commitment_form terms c =
    has_form (funding_key terms c) (commitment_digest terms (contents_of terms c)) (party (other c.owner) terms).bases.funding.form (commitment_length terms (contents_of terms c))

htlc_forms : (terms : Terms) (c : CommitmentState) → AllByRecursion (λ t. is_token t ≡ true) (peer_tokens terms c).htlcs
htlc_forms terms c = have_forms (htlc_key terms c) (contents_of terms c) (htlcs_of (contents_of terms c)) (htlc_key_form terms c)

-- ---- equal tokens have the same form

same_form : (s t : List ℕ) → bytes_eq s t ≡ true → is_token t ≡ true → is_token s ≡ true
same_form s t same form = ap is_token ((bytes_eq-Decides s t).0 same) ∙ form

same_forms : (ss ts : List (List ℕ)) → all_eq ss ts ≡ true → AllByRecursion (λ t. is_token t ≡ true) ts → AllByRecursion (λ t. is_token t ≡ true) ss
same_forms [] ts same forms = tt
same_forms (s ∷ ss) [] same forms = absurd (false≢true same)
same_forms (s ∷ ss) (t ∷ ts) same forms =
    let parts = and_parts (bytes_eq s t) (all_eq ss ts) same in
    (same_form s t parts.0 forms.0, same_forms ss ts parts.1 forms.1)

are_tokens : (terms : Terms) (c : CommitmentState) (tokens : Tokens) → same_tokens tokens (peer_tokens terms c) ≡ true → AreTokens tokens
are_tokens terms c tokens same =
    let parts = and_parts (bytes_eq tokens.commitment (peer_tokens terms c).commitment) (all_eq tokens.htlcs (peer_tokens terms c).htlcs) same in
    (same_form tokens.commitment (peer_tokens terms c).commitment parts.0 (commitment_form terms c), same_forms tokens.htlcs (peer_tokens terms c).htlcs parts.1 (htlc_forms terms c))

-- ---- accepted calls

last_passed : (s t u : Test) → first_refusal (s ∷ t ∷ u ∷ []) ≡ None → u.0 ≡ false
last_passed (true, r) t u none = absurd (some_none r none)
last_passed (false, r) (true, q) u none = absurd (some_none q none)
last_passed (false, r) (false, q) (true, p) none = absurd (some_none p none)
last_passed (false, r) (false, q) (false, p) none = refl

opening_token : (chs : Channels) (o : Opening) → open_refusal peer_tokens chs o ≡ None → is_token o.token ≡ true
opening_token chs o none =
    let first = first_of o.terms o.side (point_at o.seed 0) in
    let full = passed (nat_le MAX_CHANNELS (length chs)) BookFull _ none in
    let funding = passed (list_any (λ ch. same_outpoint ch.state.held.terms.funding o.terms.funding) chs) SameFunding _ full.1 in
    let token = passed (not (bytes_eq o.token (peer_tokens o.terms first).commitment)) WrongToken None funding.1 in
    same_form o.token (peer_tokens o.terms first).commitment (not_false _ token.0) (commitment_form o.terms first)

signature_tokens : (s : State) (tokens : Tokens) → first_refusal (receive_tests peer_tokens s (StepMessage (CommitmentSigned tokens))) ≡ None → AreTokens tokens
signature_tokens s tokens none =
    let same =
    last_passed (nat_le LAST_NUMBER s.number, NotYourTurn) (covers_nothing s.held.theirs s.held.own, NoUpdates)
    (not (same_tokens tokens (peer_tokens s.held.terms (own_next s))), BadSignature) none
    in
    are_tokens s.held.terms (own_next s) tokens (not_false _ same)

step_tokens : (s : State) (step : Step) → step_refusal peer_tokens s step ≡ None → HasStepTokens step
step_tokens s (Own u) none = tt
step_tokens s (Peer (Updated u)) none = tt
step_tokens s (Peer (CommitmentSigned tokens)) none = signature_tokens s tokens none

call_tokens : (chs : Channels) (call : Call) → is_accepted (answer_of peer_tokens chs call) ≡ true → HasTokens call
call_tokens chs (Open o) ok = opening_token chs o (unless_ok (λ e. e) (open_refusal peer_tokens chs o) (length chs) ok)
call_tokens chs (Stepping c step) ok = let found = asked_ok _ (slice_get chs c) _ ok in step_tokens found.0.state step (step_passes found.0 step peer_tokens (unless_ok _ _ _ found.2))
call_tokens chs (Sign c) ok = tt
call_tokens chs (Revoke c revocation) ok = tt
call_tokens chs (Keep c number claims) ok = tt
call_tokens chs (Release c batch) ok = tt
call_tokens chs (Close c) ok = tt

-- so the tokens of each entry of an accepted history have their form
pub each_token : (before es : List Entry) → first_refused_after peer_tokens before es ≡ None → AllByRecursion (λ e. HasTokens e.call) es
each_token before [] none = tt
each_token before (e ∷ es) none = by (is_taken peer_tokens before e) refl none (each_token (e ∷ before) es)
  where
    rest : (o : Option ℕ) → option_map suc o ≡ None → o ≡ None
    rest None is = refl
    rest (Some n) is = absurd (some_none _ is)

    by : (t : Bool) → is_taken peer_tokens before e ≡ t → (if t then option_map suc (first_refused_after peer_tokens (e ∷ before) es) else Some 0) ≡ None
        → (first_refused_after peer_tokens (e ∷ before) es ≡ None → AllByRecursion (λ d. HasTokens d.call) es) → AllByRecursion (λ d. HasTokens d.call) (e ∷ es)
    by true taken none later = (call_tokens (replayed before) e.call taken, later (rest (first_refused_after peer_tokens (e ∷ before) es) none))
    by false taken none later = absurd (some_none 0 none)
