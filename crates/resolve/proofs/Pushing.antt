-- Claims that are appended to those on earlier outputs.
use Rattle.std.proofs.Common.{◌≡◌, ℕ, ◌<◌, Bool, true, false, List, [], ◌∷◌, ◌++◌, ◌&&◌, length, get_or, Some, sym, ap, subst, ◌∙◌, append-nil}
use Rattle.std.specs.Prelude.{slice_get, option_map, if◌then◌else◌}
use Rattle.std.proofs.lemmas.Option.{slice_get-map, slice_get_within, get_or_from_slice_get}
use Rattle.script.specs.Token.{token_of}
use Rattle.terms.specs.declared.htlcs.Htlc.{Htlc}
use Rattle.claim.specs.Claims.{ClaimParts}
use Rattle.claim.specs.declared.parts.Place.{Place}
use Rattle.commit.specs.declared.fees.Direction.{Direction}
use Rattle.commit.specs.declared.fees.Direction.TheVariants.{Offered, Received}
use Rattle.commit.specs.declared.outputs.OutputKind.{OutputKind}
use Rattle.commit.specs.declared.outputs.OutputKind.TheVariants.{ToHtlc}
use Rattle.commit.specs.declared.outputs.CommitmentOutput.{CommitmentOutput}
use Rattle.commit.specs.declared.outputs.HtlcOutput.{HtlcOutput}
use Rattle.commit.specs.Keys.{KeyBytes}
use Rattle.commit.specs.Commitments.{Contents, IsOutputOf, IsHtlcOf, tx_output, transaction_of, htlcs_of}
use Rattle.commit.specs.Signing.{htlc_digest, htlc_digests}
use Rattle.penalty.specs.Claimable.{Claimable, place_in, claims_by}
use Rattle.penalty.specs.Sets.{IsClaimOn, AreClaimsOn}
use Rattle.penalty.specs.Outputs.{HasHeight, program_of, IsOutput}
use Rattle.script.specs.declared.limits.TheConstants.{LOCKTIME_THRESHOLD}
use Rattle.resolve.specs.Preimages.{is_known}
use Rattle.resolve.specs.Due.{can_pay, is_owners, is_peers, direct_on, second_stage_on, delayed_second_stage, owners_on, peers_on, owners_due, peers_due}
use Rattle.resolve.specs.Kinds.{IsDirect, IsSecondStage, IsHtlcPlace}
use Rattle.resolve.specs.Signed.{AreHtlcTokens}

-- the token of the k-th HTLC
pub token_at : (c : Contents) (tokens : List (List ℕ)) (k : ℕ) (h : HtlcOutput) → AreHtlcTokens c tokens → slice_get (htlcs_of c) k ≡ Some h
    → slice_get tokens k ≡ Some (token_of c.keys.remote_htlc (htlc_digest c h))
token_at c tokens k h a e =
    ap (λ ts. slice_get ts k) a
    ∙ slice_get-map (token_of c.keys.remote_htlc) (htlc_digests c) k
    ∙ ap (option_map (token_of c.keys.remote_htlc)) (slice_get-map (htlc_digest c) (htlcs_of c) k ∙ ap (option_map (htlc_digest c)) e)

pub token_there : (c : Contents) (tokens : List (List ℕ)) (k : ℕ) (h : HtlcOutput) → AreHtlcTokens c tokens → slice_get (htlcs_of c) k ≡ Some h → k < length tokens
token_there c tokens k h a e = slice_get_within tokens k (token_of c.keys.remote_htlc (htlc_digest c h)) (token_at c tokens k h a e)

pub token_is : (c : Contents) (tokens : List (List ℕ)) (k : ℕ) (h : HtlcOutput) (token : List ℕ) → AreHtlcTokens c tokens → slice_get (htlcs_of c) k ≡ Some h → token ≡ get_or tokens k token
    → token ≡ token_of c.keys.remote_htlc (htlc_digest c h)
token_is c tokens k h token a e f = f ∙ get_or_from_slice_get tokens k (token_of c.keys.remote_htlc (htlc_digest c h)) token (token_at c tokens k h a e)

-- what a claim on an HTLC's output needs
pub htlc_place : (c : Contents) (index : ℕ) (o : CommitmentOutput) (direction : Direction) (h : Htlc) (place : Place) → o.kind ≡ ToHtlc direction h
    → IsOutput c.delay_blocks c.keys o → IsOutputOf c.keys o → place ≡ place_in (transaction_of c) index (tx_output o)
    → IsHtlcPlace c (record { index = index; direction = direction; htlc = h }) place
htlc_place c index o direction h place k i l e = record {
  id = ap (λ (p : Place). p.outpoint.txid) e;
  index = ap (λ (p : Place). p.outpoint.index) e;
  value = ap (λ (p : Place). p.value) e ∙ (subst (IsHtlcOf c.keys o) k l.htlc).0;
  program = ap (λ (p : Place). p.program) e ∙ i.program ∙ ap (program_of c.delay_blocks c.keys) k;
}

pub htlc_height : (delay_blocks : ℕ) (b : KeyBytes) (o : CommitmentOutput) (direction : Direction) (h : Htlc) → o.kind ≡ ToHtlc direction h → IsOutput delay_blocks b o → h.expiry_height < LOCKTIME_THRESHOLD
htlc_height delay_blocks b o direction h k i = subst HasHeight k i.height

second_part : (a b : Bool) → (a && b) ≡ true → b ≡ true
second_part true b e = e
second_part false b e = absurd (cc)

pub owners_open : (preimages : List (List ℕ)) (b : KeyBytes) (direction : Direction) (h : Htlc) → is_owners preimages b direction h ≡ true → IsSecondStage b direction h
owners_open preimages b Offered h e = e
owners_open preimages b Received h e = second_part (is_known preimages h.hash) (can_pay b h) e

pub peers_open : (preimages : List (List ℕ)) (b : KeyBytes) (direction : Direction) (h : Htlc) → is_peers preimages b direction h ≡ true → IsDirect b direction h
peers_open preimages b Offered h e = second_part (is_known preimages h.hash) (can_pay b h) e
peers_open preimages b Received h e = e

-- nothing more
pub push_none : (os new_os : List Claimable) (cs new_cs : List ClaimParts) → new_os ≡ [] → new_cs ≡ cs → AreClaimsOn os cs → AreClaimsOn (os ++ new_os) new_cs
push_none os new_os cs new_cs e f a = subst (λ ds. AreClaimsOn (os ++ new_os) ds) (sym f) (subst (λ ps. AreClaimsOn ps cs) (sym (ap (λ ps. os ++ ps) e ∙ append-nil os)) a)

-- what an HTLC gives, by its test
pub owners_yes : (preimages : List (List ℕ)) (c : Contents) (index : ℕ) (place : Place) (direction : Direction) (h : Htlc) (kind : OutputKind) → kind ≡ ToHtlc direction h
    → is_owners preimages c.keys direction h ≡ true
    → owners_on preimages c index place kind
    ≡ second_stage_on c (record { index = index; direction = direction; htlc = h }) place ∷ delayed_second_stage c (record { index = index; direction = direction; htlc = h }) ∷ []
owners_yes preimages c index place direction h kind k e =
    ap (owners_on preimages c index place) k
    ∙ ap (λ t. if t then second_stage_on c (record { index = index; direction = direction; htlc = h }) place ∷ delayed_second_stage c (record { index = index; direction = direction; htlc = h }) ∷ [] else []) e

pub owners_no : (preimages : List (List ℕ)) (c : Contents) (index : ℕ) (place : Place) (direction : Direction) (h : Htlc) (kind : OutputKind) → kind ≡ ToHtlc direction h
    → is_owners preimages c.keys direction h ≡ false → owners_on preimages c index place kind ≡ []
owners_no preimages c index place direction h kind k e =
    ap (owners_on preimages c index place) k
    ∙ ap (λ t. if t then second_stage_on c (record { index = index; direction = direction; htlc = h }) place ∷ delayed_second_stage c (record { index = index; direction = direction; htlc = h }) ∷ [] else []) e

pub peers_yes : (preimages : List (List ℕ)) (c : Contents) (index : ℕ) (place : Place) (direction : Direction) (h : Htlc) (kind : OutputKind) → kind ≡ ToHtlc direction h
    → is_peers preimages c.keys direction h ≡ true → peers_on preimages c index place kind ≡ direct_on c direction h place ∷ []
peers_yes preimages c index place direction h kind k e = ap (peers_on preimages c index place) k ∙ ap (λ t. if t then direct_on c direction h place ∷ [] else []) e

pub peers_no : (preimages : List (List ℕ)) (c : Contents) (index : ℕ) (place : Place) (direction : Direction) (h : Htlc) (kind : OutputKind) → kind ≡ ToHtlc direction h
    → is_peers preimages c.keys direction h ≡ false → peers_on preimages c index place kind ≡ []
peers_no preimages c index place direction h kind k e = ap (peers_on preimages c index place) k ∙ ap (λ t. if t then direct_on c direction h place ∷ [] else []) e

-- a claim of the commitment as it is known, at the place of its output
pub claim_at : (on : Contents → Place → Claimable) (k c : Contents) (index : ℕ) (o : CommitmentOutput) (place : Place) (claim : ClaimParts) → k ≡ c → place ≡ place_in (transaction_of k) index (tx_output o)
    → IsClaimOn (on k place) claim → IsClaimOn (on c (place_in (transaction_of c) index (tx_output o))) claim
claim_at on k c index o place claim e f i =
    subst (λ y. IsClaimOn (on y (place_in (transaction_of y) index (tx_output o))) claim) e (subst (λ p. IsClaimOn (on k p) claim) f i)

pub owners_all : (preimages : List (List ℕ)) (c : Contents) (os : List CommitmentOutput) (cs : List ClaimParts) → os ≡ c.outputs → AreClaimsOn (claims_by (owners_on preimages c) c 0 os) cs
    → AreClaimsOn (owners_due preimages c) cs
unfolding owners_due
owners_all preimages c os cs e a = subst (λ x. AreClaimsOn (claims_by (owners_on preimages c) c 0 x) cs) e a

pub peers_all : (preimages : List (List ℕ)) (c : Contents) (os : List CommitmentOutput) (cs : List ClaimParts) → os ≡ c.outputs → AreClaimsOn (claims_by (peers_on preimages c) c 0 os) cs
    → AreClaimsOn (peers_due preimages c) cs
unfolding peers_due
peers_all preimages c os cs e a = subst (λ x. AreClaimsOn (claims_by (peers_on preimages c) c 0 x) cs) e a
