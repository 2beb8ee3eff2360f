-- What a channel keeps of its own commitments, and what its signer may sign of them.
use Rattle.std.proofs.Common.{◌≡◌, ℕ, ◌+◌, ◌≤◌, ◌<◌, zero, suc, List, [], ◌∷◌, length, map, Some, ap, subst, ◌∙◌, arith}
use Rattle.std.specs.Prelude.{Contains, slice_get, option_map}
use Rattle.std.specs.List.{All, cons_option}
use Rattle.std.proofs.lemmas.Bool.{and_from}
use Rattle.std.proofs.lemmas.Option.{same_Some, slice_get-map, slice_get_within, get_or_from_slice_get}
use Rattle.std.proofs.lemmas.List.Elements.{All-head, All-tail, Contains-append_left, Contains-append_right}
use Rattle.script.specs.declared.limits.TheConstants.{LOCKTIME_THRESHOLD}
use Rattle.script.specs.Token.{token_of}
use Rattle.keys.specs.declared.bases.Base.TheVariants.{Funding, Htlc as HtlcBase}
use Rattle.keys.specs.Derivation.{derived_key}
use Rattle.keys.specs.Rights.{Rights, MaySign}
use Rattle.terms.specs.declared.sides.Side.{Side}
use Rattle.terms.specs.declared.agreement.Terms.{Terms}
use Rattle.terms.specs.declared.views.View.{View}
use Rattle.terms.specs.Agreement.{party}
use Rattle.commit.specs.declared.outputs.OutputKind.{OutputKind}
use Rattle.commit.specs.declared.outputs.OutputKind.TheVariants.{ToLocal, ToRemote, ToHtlc}
use Rattle.commit.specs.declared.outputs.CommitmentOutput.{CommitmentOutput}
use Rattle.commit.specs.declared.outputs.HtlcOutput.{HtlcOutput}
use Rattle.commit.specs.Keys.{KeyBytes, keys_of}
use Rattle.commit.specs.Commitments.{Contents, commitment_of, htlc_at, htlcs_from, htlcs_of}
use Rattle.commit.specs.Signing.{htlc_digest, htlc_digests}
use Rattle.penalty.specs.Outputs.{HasHeight, IsOutput, AreOutputs}
use Rattle.penalty.specs.Paying.{CanPay}
use Rattle.channel.specs.declared.commitments.CommitmentState.{CommitmentState}
use Rattle.channel.specs.Numbered.{SharesOut, AreNumbered}
use Rattle.channel.specs.Keeping.{HasBases}
use Rattle.channel.specs.Rights.{rights_of}
use Rattle.channel.specs.States.{State}
use Rattle.channel.specs.Tokens.{contents_of}

-- a view that shares out the capacity can be paid
can_pay : (terms : Terms) (view : View) → SharesOut terms view → CanPay terms view
can_pay terms view s =
    let a : length view.a.offered ≤ 483 = s.few_of_a in
    let b : length view.b.offered ≤ 483 = s.few_of_b in
    record { few = omega (arith, a, b); heights = and_from _ _ s.heights_of_a s.heights_of_b; whole = s.whole }

pub state_pays : (terms : Terms) (side : Side) (many n : ℕ) (cs : List CommitmentState) (c : CommitmentState) → AreNumbered terms side many cs → slice_get cs n ≡ Some c → CanPay terms c.view
state_pays terms side many n cs c are found = can_pay terms c.view (are.each n c found).shares

-- the side's own keys
pub may_sign_funding : (terms : Terms) (side : Side) (r : Rights) → HasBases terms side r.seed → MaySign r (party side terms).bases.funding.bytes
may_sign_funding terms side r h = MaySign.own Funding h.funding

pub may_sign_htlc : (s : State) (n : ℕ) (c : CommitmentState) → HasBases s.held.terms s.held.side s.seed → c.owner ≡ s.held.side → slice_get s.mine n ≡ Some c
    → MaySign (rights_of s) (contents_of s.held.terms c).keys.local_htlc
unfolding commitment_of keys_of
may_sign_htlc s n c h own found =
    let point = c.point.bytes in
    let mine = map (λ (x : CommitmentState). x.point.bytes) s.mine in
    let there : slice_get mine n ≡ Some point = slice_get-map (λ (x : CommitmentState). x.point.bytes) s.mine n ∙ ap (option_map (λ (x : CommitmentState). x.point.bytes)) found in
    let contained : Contains mine point = (n, slice_get_within mine n point there, get_or_from_slice_get mine n point point there) in
    MaySign.derived HtlcBase point (Contains-append_right (_ ∷ _ ∷ []) _ point (Contains-append_left mine _ point contained))
    (ap (λ o. derived_key (party o s.held.terms).bases.htlc.bytes point) own ∙ ap (λ k. derived_key k point) h.htlc)

-- an HTLC of a commitment expires at a height
low_from : (delay_blocks : ℕ) (b : KeyBytes) (i : ℕ) (os : List CommitmentOutput) (k : ℕ) (h : HtlcOutput) → All (λ o. IsOutput delay_blocks b o) os → slice_get (htlcs_from i os) k ≡ Some h → h.htlc.expiry_height < LOCKTIME_THRESHOLD
unfolding htlcs_from
low_from delay_blocks b i [] k h a e = absurd (cc)
low_from delay_blocks b i (o ∷ os) k h a e =
    by_kind o.kind k (All-head (λ x. IsOutput delay_blocks b x) o os a).height (λ j f. low_from delay_blocks b (i + 1) os j h (All-tail (λ x. IsOutput delay_blocks b x) o os a) f) e
  where
    by_kind : (kind : OutputKind) (k : ℕ) → HasHeight kind → ((j : ℕ) → slice_get (htlcs_from (i + 1) os) j ≡ Some h → h.htlc.expiry_height < LOCKTIME_THRESHOLD)
        → slice_get (cons_option (htlc_at i kind) (htlcs_from (i + 1) os)) k ≡ Some h → h.htlc.expiry_height < LOCKTIME_THRESHOLD
    by_kind ToLocal k low rest e = rest k e
    by_kind ToRemote k low rest e = rest k e
    by_kind (ToHtlc d x) zero low rest e = subst (λ (y : HtlcOutput). y.htlc.expiry_height < LOCKTIME_THRESHOLD) (same_Some _ h e) low
    by_kind (ToHtlc d x) (suc k) low rest e = rest k e

pub low_expiry : (c : Contents) (k : ℕ) (h : HtlcOutput) → AreOutputs c → slice_get (htlcs_of c) k ≡ Some h → h.htlc.expiry_height < LOCKTIME_THRESHOLD
low_expiry c k h a e = low_from c.delay_blocks c.keys 0 c.outputs k h a.each e

-- what stands for the k-th HTLC among its commitment's digests, and among the peer's tokens
pub digest_at : (c : Contents) (k : ℕ) (h : HtlcOutput) → slice_get (htlcs_of c) k ≡ Some h → slice_get (htlc_digests c) k ≡ Some (htlc_digest c h)
digest_at c k h e = slice_get-map (htlc_digest c) (htlcs_of c) k ∙ ap (option_map (htlc_digest c)) e

pub token_at : (c : Contents) (key : List ℕ) (k : ℕ) (h : HtlcOutput) → slice_get (htlcs_of c) k ≡ Some h → slice_get (map (token_of key) (htlc_digests c)) k ≡ Some (token_of key (htlc_digest c h))
token_at c key k h e = slice_get-map (token_of key) (htlc_digests c) k ∙ ap (option_map (token_of key)) (digest_at c k h e)
