-- What an unrevoked commitment lets one claim of its outputs (BOLT 5, "Unilateral Close Handling").
use Rattle.std.specs.Prelude.{ℕ, Bool, true, false, ◌&&◌, not, ◌==◌, if◌then◌else◌, List, [], ◌∷◌, ◌++◌, map}
use Rattle.std.specs.List.{list_any}
use Rattle.std.specs.Str.{bytes_eq}
use Rattle.digest.specs.Hash.{hash160}
use Rattle.digest.specs.Ripemd160.{ripemd160}
use Rattle.script.specs.Spelling.{spelling}
use Rattle.script.specs.Token.{token_of}
use Rattle.claim.specs.declared.parts.Place.{Place}
use Rattle.claim.specs.declared.parts.Shell.TheVariants.{Open, Fixed}
use Rattle.forms.specs.declared.parameters.Expiry.{Expiry}
use Rattle.forms.specs.Forms.{to_local_form}
use Rattle.forms.specs.Fillings.{Filling, Signature, PreimageOf, Bytes}
use Rattle.anchor_forms.specs.declared.channel_types.ChannelType.{ChannelType}
use Rattle.anchor_forms.specs.declared.channel_types.ChannelType.TheVariants.{StaticRemoteKey, Anchors}
use Rattle.commit.specs.declared.fees.Direction.{Direction}
use Rattle.commit.specs.declared.fees.Direction.TheVariants.{Offered, Received}
use Rattle.commit.specs.Keys.{KeyBytes}
use Rattle.penalty.specs.Claimable.{Claimable, claimable_with}
use Rattle.resolve.specs.Due.{can_time_out}
use Rattle.resolve.specs.Preimages.{is_known}
use Rattle.revoked.specs.Deadlines.{is_offered_with}
use Rattle.revoked.specs.Parts.{RevokedParts}
use Rattle.revoked.specs.Programs.{form_of_htlc, claim_on_to_remote}
use Rattle.revoked.specs.declared.outputs.RevokedHtlc.{RevokedHtlc}
use Rattle.revoked.specs.declared.outputs.RevokedOutput.{RevokedOutput}
use Rattle.revoked.specs.declared.outputs.RevokedOutput.TheVariants.{ToLocal, ToRemote, ToHtlc}
use Rattle.unilateral.specs.declared.closes.Whose.{Whose}
use Rattle.unilateral.specs.declared.closes.Whose.TheVariants.{Ours, Theirs}
use Rattle.unilateral.specs.declared.closes.Close.{Close}
use Rattle.unilateral.specs.HtlcTransactions.{htlc_tx_on, digest_on}

-- a preimage that is known pays, unless the revocation key's hash is the RIPEMD-160 of the payment hash (`resolve`)
abbrev pub can_pay_with : List (List ℕ) → KeyBytes → List ℕ → Bool
can_pay_with preimages k hash =
    is_known preimages hash && not (bytes_eq (hash160 k.revocation) (ripemd160 hash))

-- the owner of a commitment takes back what it offered, and is paid what it received
abbrev pub is_owners : List (List ℕ) → KeyBytes → Direction → List ℕ → Bool
is_owners preimages k Offered hash = can_time_out k
is_owners preimages k Received hash = can_pay_with preimages k hash

-- the owner's peer is paid what the owner offered, and takes back what the owner received
abbrev pub is_peers : List (List ℕ) → KeyBytes → Direction → List ℕ → Bool
is_peers preimages k Offered hash = can_pay_with preimages k hash
is_peers preimages k Received hash = can_time_out k

-- with anchors the peer's signature on an HTLC transaction leaves room for other inputs and outputs, which no claim has
abbrev pub has_fixed_htlc_txs : ChannelType → Bool
has_fixed_htlc_txs StaticRemoteKey = true
has_fixed_htlc_txs Anchors = false

-- an HTLC of one's own commitment that can be taken by its HTLC transaction
abbrev pub has_second_stage : List (List ℕ) → RevokedParts → RevokedHtlc → Bool
has_second_stage preimages r h =
    has_fixed_htlc_txs r.channel_type && is_owners preimages r.keys h.direction h.hash

-- whether an output of a commitment lets one claim it
abbrev pub is_claimed_of : Whose → List (List ℕ) → RevokedParts → RevokedOutput → Bool
is_claimed_of Ours preimages r ToLocal = true
is_claimed_of Ours preimages r ToRemote = false
is_claimed_of Ours preimages r (ToHtlc h) = has_second_stage preimages r h
is_claimed_of Theirs preimages r ToLocal = false
is_claimed_of Theirs preimages r ToRemote = true
is_claimed_of Theirs preimages r (ToHtlc h) = is_peers preimages r.keys h.direction h.hash

-- to_local, or the output of one's own HTLC transaction: by the delayed key, after the delay
abbrev pub delayed_on : KeyBytes → ℕ → Place → Claimable
delayed_on k delay_blocks place = claimable_with place
    (to_local_form k.revocation delay_blocks k.delayed) 1 (Bytes [] ∷ Signature k.delayed ∷ []) Open

-- what the remote HTLC key's path takes: the preimage, or the empty item for the timeout
abbrev pub item_with_peers_key : Direction → List ℕ → Filling
item_with_peers_key Offered hash = PreimageOf hash
item_with_peers_key Received hash = Bytes []

-- an HTLC of the peer's commitment, by one's own key
abbrev pub direct_on : ChannelType → KeyBytes → RevokedHtlc → Place → Claimable
direct_on t k h place = claimable_with place (form_of_htlc t k h) 2
    (item_with_peers_key h.direction h.hash ∷ Signature k.remote_htlc ∷ []) Open

-- what the path of both HTLC keys takes: the empty item for the timeout, or the preimage
abbrev pub item_with_both_keys : Direction → List ℕ → Filling
item_with_both_keys Offered hash = Bytes []
item_with_both_keys Received hash = PreimageOf hash

-- the digest that the signatures of an HTLC transaction are over
abbrev pub digest_of_htlc : ChannelType → KeyBytes → ℕ → ℕ → RevokedHtlc → ℕ → Place → List ℕ
digest_of_htlc t k delay_blocks feerate_per_kw h expiry_height place =
    digest_on (htlc_tx_on k delay_blocks feerate_per_kw h.direction expiry_height place) place
    (spelling (form_of_htlc t k h).ops)

-- an HTLC of one's own commitment, by its HTLC transaction with this expiry, which the peer signed
abbrev pub second_stage_on : ChannelType → KeyBytes → ℕ → ℕ → RevokedHtlc → Place → Expiry → Claimable
second_stage_on t k delay_blocks feerate_per_kw h place expiry = claimable_with place (form_of_htlc t k h) 1
    (item_with_both_keys h.direction h.hash ∷ Signature k.local_htlc
    ∷ Bytes (token_of k.remote_htlc (digest_of_htlc t k delay_blocks feerate_per_kw h expiry.height place))
    ∷ Bytes [] ∷ [])
    (Fixed (htlc_tx_on k delay_blocks feerate_per_kw h.direction expiry.height place))

abbrev pub second_stage_in : RevokedParts → ℕ → RevokedHtlc → Place → Expiry → Claimable
second_stage_in r feerate_per_kw h place expiry =
    second_stage_on r.channel_type r.keys r.delay_blocks feerate_per_kw h place expiry

-- the expiries of offered HTLCs with a hash, each once, behind those that are there
abbrev pub has_expiry : List Expiry → Expiry → Bool
has_expiry es e = list_any (λ (x : Expiry). x.height == e.height) es

abbrev pub with_expiry : List ℕ → List Expiry → RevokedHtlc → List Expiry
with_expiry hash es o = if is_offered_with hash o && not (has_expiry es o.expiry) then es ++ o.expiry ∷ [] else es

unfoldable pub with_expiries : List ℕ → List Expiry → List RevokedHtlc → List Expiry
with_expiries hash es [] = es
with_expiries hash es (o ∷ os) = with_expiries hash (with_expiry hash es o) os

-- the expiries that an HTLC's output may have. The script of an offered one does not have it, so nothing tells which of the offered ones with the hash it is but the peer's signature
abbrev pub expiries_of : Direction → List RevokedHtlc → RevokedHtlc → List Expiry
expiries_of Offered htlcs h = with_expiries h.hash (h.expiry ∷ []) htlcs
expiries_of Received htlcs h = h.expiry ∷ []

-- what an output lets one claim, where it is claimed
abbrev pub ways_to : Whose → ℕ → RevokedParts → RevokedOutput → Place → List Claimable
ways_to Ours feerate_per_kw r ToLocal place = delayed_on r.keys r.delay_blocks place ∷ []
ways_to Ours feerate_per_kw r ToRemote place = []
ways_to Ours feerate_per_kw r (ToHtlc h) place =
    map (second_stage_in r feerate_per_kw h place) (expiries_of h.direction r.htlcs h)
ways_to Theirs feerate_per_kw r ToLocal place = []
ways_to Theirs feerate_per_kw r ToRemote place = claim_on_to_remote r.keys place ∷ []
ways_to Theirs feerate_per_kw r (ToHtlc h) place = direct_on r.channel_type r.keys h place ∷ []

-- what an output lets one claim
abbrev pub claims_of : Whose → List (List ℕ) → ℕ → RevokedParts → RevokedOutput → Place → List Claimable
claims_of w preimages feerate_per_kw r o place = if is_claimed_of w preimages r o then ways_to w feerate_per_kw r o place else []

abbrev pub is_claimed : Close → RevokedOutput → Bool
is_claimed c o = is_claimed_of c.whose c.preimages c.commitment o

abbrev pub claims_on : Close → RevokedOutput → Place → List Claimable
claims_on c o place = claims_of c.whose c.preimages c.feerate_per_kw c.commitment o place
