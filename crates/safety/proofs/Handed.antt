-- Where the tokens come from that a node gave out, and what they are over.
use Rattle.std.proofs.Common.{◌≡◌, ℕ, zero, suc, ◌+◌, ◌^◌, ◌<◌, ◌≤◌, Bool, true, false, List, [], ◌∷◌, ◌++◌, map, length, Option, Some, None, sym, ap, ◌∙◌, refl, subst, inl, inr, ⊎_elim, arith, length-append}
use Rattle.std.specs.Prelude.{◌⊎◌, slice_get, if◌then◌else◌}
use Rattle.std.specs.List.{Contains, All, AllByRecursion, flat_map, cons_option}
use Rattle.std.proofs.lemmas.List.Elements.{All-from_recursion, All-contains, Contains-append_cases}
use Rattle.std.proofs.lemmas.Option.{slice_get_within}
use Rattle.script.specs.Spelling.{IsOp, spelling}
use Rattle.script.specs.Token.{is_key}
use Rattle.keys.specs.declared.compressed.Key.{Key}
use Rattle.tx.specs.declared.limits.TheConstants.{MAX_VALUE}
use Rattle.tx.specs.Fields.{IsInput}
use Rattle.sighash.specs.Programs.{script_ops}
use Rattle.sighash.proofs.Parsing.{parsed_spelling}
use Rattle.terms.specs.declared.sides.Side.{Side}
use Rattle.terms.specs.declared.sides.Side.TheVariants.{A, B}
use Rattle.terms.specs.declared.agreement.Terms.{Terms}
use Rattle.terms.specs.Agreement.{party}
use Rattle.terms.specs.Sides.{other}
use Rattle.terms.specs.Scripts.{is_lesser, two_of_two, funding}
use Rattle.forms.proofs.Forms.{key_length}
use Rattle.claim.specs.declared.parts.Slot.{Slot}
use Rattle.claim.specs.declared.parts.Slot.TheVariants.{Sig, Preimage, Exact}
use Rattle.claim.specs.Claims.{ClaimParts}
use Rattle.commit.specs.Keys.{keys_of}
use Rattle.commit.specs.declared.outputs.HtlcOutput.{HtlcOutput}
use Rattle.commit.specs.Commitments.{Contents, commitment_of, transaction_of, id_of, htlcs_of, htlc_tx_of}
use Rattle.commit.specs.Signing.{funding_script, input_of}
use Rattle.channel.specs.declared.commitments.CommitmentState.{CommitmentState}
use Rattle.channel.specs.Keeping.{one_if}
use Rattle.channel.specs.Tokens.{contents_of, funding_key, htlc_key}
use Rattle.safety.specs.Signing.{Signed, FieldsFit, IsSignable}
use Rattle.safety.specs.Recorded.{IsPayable, of_commitment}
use Rattle.safety.specs.Fates.{htlc_signed}
use Rattle.safety.specs.Taken.{ChannelRecord, IsOwn}
use Rattle.safety.specs.Holdings.{Release, claim_signed, Holding, terms_in, peer_in, funding_key_in, IsRightful, KeepsRules}
use Rattle.safety.specs.Given.{GivenToken, commitment_signed, funding_token, htlc_token, with_commitment, key_token, for_slot, with_release, own_token, with_close, given_in}
use Rattle.safety.proofs.Slots.{contains_cases}
use Rattle.safety.proofs.Lists.{contains_none}
use Rattle.safety.proofs.Signing.{limits_fit}
use Rattle.safety.proofs.Claimed.{AreKeys, are_keys}
use Rattle.safety.proofs.Limits.{no_longer, signable}
use Rattle.safety.proofs.Recorded.{recorded_limits, limited_htlc}
use Rattle.safety.proofs.Taken.{numbered_are_own}
use Rattle.safety.proofs.Tests.{in_flat, from_map, in_option}

-- ---- the recorded commitments

abbrev record_of : Terms → ChannelRecord
record_of terms = record { terms = terms; seed = λ s. []; own = λ s. [] }

-- one of the peer's can be paid, and stands by its number
pub peers_payable : (h : Holding) → KeepsRules h → (n : ℕ) (k : CommitmentState) → slice_get h.state.signed n ≡ Some k → IsOwn (record_of (terms_in h)) (peer_in h) n k
peers_payable h kept n k there =
    let numbered = kept.numbered.signed in
    let within = slice_get_within h.state.signed n k there in
    let count = numbered.count in
    let bound = kept.peer_number in
    numbered_are_own (record_of (terms_in h)) (peer_in h) n k kept.funding (omega (arith, within, count, bound)) (numbered.each n k there)

-- so does one of its own
pub own_payable : (h : Holding) → KeepsRules h → (n : ℕ) (k : CommitmentState) → slice_get h.state.mine n ≡ Some k → IsOwn (record_of (terms_in h)) h.state.held.side n k
own_payable h kept n k there =
    let numbered = kept.numbered.mine in
    let within = slice_get_within h.state.mine n k there in
    let count = numbered.count in
    let bound = kept.number in
    numbered_are_own (record_of (terms_in h)) h.state.held.side n k kept.funding (omega (arith, within, count, bound)) (numbered.each n k there)

-- ---- keys

pub keys_good : (terms : Terms) (k : CommitmentState) → AreKeys (contents_of terms k).keys
unfolding commitment_of
keys_good terms k = are_keys terms k.owner k.point.bytes

pub remote_good : (terms : Terms) (k : CommitmentState) → is_key (contents_of terms k).keys.remote ≡ true
unfolding commitment_of keys_of
remote_good terms k = (party (other k.owner) terms).bases.payment.form

-- ---- the funding script

pub two_ops : (first second : List ℕ) → is_key first ≡ true → is_key second ≡ true → script_ops (spelling (two_of_two first second)) ≡ Some (two_of_two first second)
two_ops first second k l =
    let m = key_length first k in
    let n = key_length second l in
    let two : (1 ≤ 2) × (2 ≤ 16) = (omega arith, omega arith) in
    parsed_spelling (two_of_two first second) (All-from_recursion IsOp (two_of_two first second) (two, (omega (arith, m), (omega (arith, n), (two, (tt, tt)))))) (simp length-append (omega (arith, m, n)))

pub funding_ops : (key rival : List ℕ) → is_key key ≡ true → is_key rival ≡ true → script_ops (spelling (funding key rival)) ≡ Some (funding key rival)
funding_ops key rival k l = by_order (is_lesser rival key)
  where
    by_order : (b : Bool) → script_ops (spelling (if b then two_of_two rival key else two_of_two key rival)) ≡ Some (if b then two_of_two rival key else two_of_two key rival)
    by_order true = two_ops rival key l k
    by_order false = two_ops key rival k l

pub funding_parsed : (terms : Terms) → script_ops (funding_script terms) ≡ Some (funding terms.a.bases.funding.bytes terms.b.bases.funding.bytes)
unfolding funding_script
funding_parsed terms = funding_ops terms.a.bases.funding.bytes terms.b.bases.funding.bytes terms.a.bases.funding.form terms.b.bases.funding.form

-- ---- where a token comes from

pub data IsFrom (h : Holding) (z : GivenToken) : Type 0 where
  with_peers : (n : ℕ) (k : CommitmentState) → slice_get h.state.signed n ≡ Some k → z ≡ funding_token (terms_in h) k → IsFrom h z
  with_htlc : (n : ℕ) (k : CommitmentState) → slice_get h.state.signed n ≡ Some k → (x : HtlcOutput) → Contains (htlcs_of (contents_of (terms_in h) k)) x
      → z ≡ htlc_token (terms_in h) k x → IsFrom h z
  with_released : (r : Release) → Contains h.releases r → (x : ClaimParts) → Contains r.claims x → (key : Key) → z ≡ key_token (claim_signed r x) key → IsFrom h z
  with_own : (n : ℕ) (k : CommitmentState) → h.closed ≡ Some n → slice_get h.state.mine n ≡ Some k → z ≡ own_token h k → IsFrom h z

got_at : {X : Type 0} (xs : List X) (x : X) → Contains xs x → (n : ℕ) × (slice_get xs n ≡ Some x)
got_at [] x c = absurd (contains_none x c)
got_at {X} (y ∷ ys) x c =
    ⊎_elim {C = (n : ℕ) × (slice_get (y ∷ ys) n ≡ Some x)} (λ (e : y ≡ x). (0, ap Some e)) (λ (d : Contains ys x). let r = got_at ys x d in (suc r.0, r.1)) (contains_cases y ys x c)

by_commitment : (h : Holding) (n : ℕ) (k : CommitmentState) → slice_get h.state.signed n ≡ Some k → (z : GivenToken) → Contains (with_commitment (terms_in h) k) z → IsFrom h z
by_commitment h n k there z c =
    ⊎_elim {C = IsFrom h z} (λ (e : funding_token (terms_in h) k ≡ z). with_peers n k there (sym e))
    (λ (d : Contains (map (htlc_token (terms_in h) k) (htlcs_of (contents_of (terms_in h) k))) z).
    let r = from_map (htlc_token (terms_in h) k) (htlcs_of (contents_of (terms_in h) k)) z d in
    with_htlc n k there r.0 r.1 (sym r.2))
    (contains_cases (funding_token (terms_in h) k) (map (htlc_token (terms_in h) k) (htlcs_of (contents_of (terms_in h) k))) z c)

by_slot : (s : Signed) (slot : Slot) (z : GivenToken) → Contains (for_slot s slot) z → (key : Key) × (z ≡ key_token s key)
by_slot s (Sig key) z c =
    ⊎_elim {C = (k : Key) × (z ≡ key_token s k)} (λ (e : key_token s key ≡ z). (key, sym e)) (λ (d : Contains [] z). absurd (contains_none z d)) (contains_cases (key_token s key) [] z c)
by_slot s (Preimage hash) z c = absurd (contains_none z c)
by_slot s (Exact item) z c = absurd (contains_none z c)

by_release : (h : Holding) (r : Release) → Contains h.releases r → (z : GivenToken) → Contains (with_release r) z → IsFrom h z
by_release h r i z c =
    let x = in_flat (λ (x : ClaimParts). flat_map (for_slot (claim_signed r x)) x.slots) r.claims z c in
    let slot = in_flat (for_slot (claim_signed r x.0)) x.0.slots z x.2 in
    let key = by_slot (claim_signed r x.0) slot.0 z slot.2 in
    with_released r i x.0 x.1 key.0 key.1

by_close : (h : Holding) (o : Option ℕ) → h.closed ≡ o → (z : GivenToken) → Contains (with_close h o) z → IsFrom h z
by_close h None closed z c = absurd (contains_none z c)
by_close h (Some n) closed z c =
    let r = from_map (own_token h) (cons_option (slice_get h.state.mine n) []) z c in
    with_own n r.0 closed (in_option (slice_get h.state.mine n) r.0 r.1) (sym r.2)

pub given_from : (h : Holding) (z : GivenToken) → Contains (given_in h) z → IsFrom h z
given_from h z c =
    ⊎_elim {C = IsFrom h z}
    (λ (a : Contains (flat_map (with_commitment (terms_in h)) h.state.signed ++ flat_map with_release h.releases) z).
    ⊎_elim {C = IsFrom h z}
    (λ (b : Contains (flat_map (with_commitment (terms_in h)) h.state.signed) z).
    let r = in_flat (with_commitment (terms_in h)) h.state.signed z b in
    let at = got_at h.state.signed r.0 r.1 in
    by_commitment h at.0 r.0 at.1 z r.2)
    (λ (b : Contains (flat_map with_release h.releases) z). let r = in_flat with_release h.releases z b in by_release h r.0 r.1 z r.2)
    (Contains-append_cases (flat_map (with_commitment (terms_in h)) h.state.signed) (flat_map with_release h.releases) z a))
    (λ (a : Contains (with_close h h.closed) z). by_close h h.closed refl z a)
    (Contains-append_cases (flat_map (with_commitment (terms_in h)) h.state.signed ++ flat_map with_release h.releases) (with_close h h.closed) z c)

-- ---- its key, and what it is over

pub key_long : (h : Holding) (z : GivenToken) → IsFrom h z → length z.key ≡ 33
key_long h z (with_peers n k there e) = ap (λ (y : GivenToken). length y.key) e ∙ key_length (funding_key (terms_in h) k) (party (other k.owner) (terms_in h)).bases.funding.form
key_long h z (with_htlc n k there x i e) = ap (λ (y : GivenToken). length y.key) e ∙ key_length (htlc_key (terms_in h) k) (keys_good (terms_in h) k).remote_htlc
key_long h z (with_released r i x j key e) = ap (λ (y : GivenToken). length y.key) e ∙ key_length key.bytes key.form
key_long h z (with_own n k closed there e) = ap (λ (y : GivenToken). length y.key) e ∙ key_length (funding_key_in h) (party h.state.held.side (terms_in h)).bases.funding.form

commitment_input : (c : Contents) → FieldsFit (transaction_of c) → IsInput (input_of c.funding c.hidden.sequence)
unfolding transaction_of
commitment_input c f = f.inputs.0

pub commitment_signable : (terms : Terms) (k : CommitmentState) → IsPayable terms k → IsSignable (commitment_signed terms k)
commitment_signable terms k p =
    let fit = limits_fit (transaction_of (contents_of terms k)) (recorded_limits terms k p (transaction_of (contents_of terms k)) (of_commitment refl)) in
    let short = no_longer (funding_script terms) _ (funding_parsed terms) in
    let low = terms.limited in
    record { transaction = fit; input = commitment_input (contents_of terms k) fit; code = omega (arith, short); value = omega (arith, low) }

htlc_signable : (terms : Terms) (k : CommitmentState) → IsPayable terms k → (x : HtlcOutput) → Contains (htlcs_of (contents_of terms k)) x → IsSignable (htlc_signed (contents_of terms k) x)
htlc_signable terms k p x i =
    let l = limited_htlc terms k p.view x i in
    let index = l.index in
    let height = l.height in
    signable (contents_of terms k) x (keys_good terms k) (omega (arith, index)) (omega (arith, height)) l.value

claim_signable : (h : Holding) → KeepsRules h → (r : Release) → Contains h.releases r → (x : ClaimParts) → Contains r.claims x → IsSignable (claim_signed r x)
claim_signable h kept r i x j =
    let rightful : IsRightful h r = All-contains (IsRightful h) h.releases r (All-from_recursion (IsRightful h) h.releases kept.releases) i in
    All-contains (λ (y : ClaimParts). IsSignable (claim_signed r y)) r.claims x (All-from_recursion (λ (y : ClaimParts). IsSignable (claim_signed r y)) r.claims rightful.signable) j

pub given_signable : (h : Holding) → KeepsRules h → (z : GivenToken) → IsFrom h z → IsSignable z.over
given_signable h kept z (with_peers n k there e) = subst (λ (y : GivenToken). IsSignable y.over) (sym e) (commitment_signable (terms_in h) k (peers_payable h kept n k there).payable)
given_signable h kept z (with_htlc n k there x i e) = subst (λ (y : GivenToken). IsSignable y.over) (sym e) (htlc_signable (terms_in h) k (peers_payable h kept n k there).payable x i)
given_signable h kept z (with_released r i x j key e) = subst (λ (y : GivenToken). IsSignable y.over) (sym e) (claim_signable h kept r i x j)
given_signable h kept z (with_own n k closed there e) = subst (λ (y : GivenToken). IsSignable y.over) (sym e) (commitment_signable (terms_in h) k (own_payable h kept n k there).payable)
